-- Blanks at the end of a text.
use Rattle.std.proofs.Common.{◌≡◌, ◌≢◌, ℕ, suc, ◌<◌, ◌≤◌, false, ◌==◌, List, [], ◌∷◌, ◌++◌, length, take, ◌-◌, slice_index, refl, sym, ap, ◌∙◌, arith}
use Rattle.std.proofs.lemmas.Bool.Decides.{nat_tests}
use Rattle.std.proofs.Math.Seq.{take-suc}
use Rattle.line_words.specs.Blanks.{without_back, onto_front}

-- a blank more at the end is dropped
blank_off : (xs : List ℕ) → without_back (xs ++ 32 ∷ []) ≡ without_back xs
blank_off [] = refl
blank_off (x ∷ xs) = ap (onto_front x) (blank_off xs)

-- a byte before a text that has one
onto_some : (x b : ℕ) (xs : List ℕ) → onto_front x (xs ++ b ∷ []) ≡ x ∷ (xs ++ b ∷ [])
onto_some x b [] = refl
onto_some x b (y ∷ ys) = refl

-- another byte at the end ends the dropping
stays : (xs : List ℕ) (b : ℕ) → (b == 32) ≡ false → without_back (xs ++ b ∷ []) ≡ xs ++ b ∷ []
stays [] b e = rw e
stays (x ∷ xs) b e = ap (onto_front x) (stays xs b e) ∙ onto_some x b xs

-- one byte more from the front
take_one_more : (xs : List ℕ) (k : ℕ) → 0 < k → k ≤ length xs → take k xs ≡ take (k - 1) xs ++ slice_index xs (k - 1) ∷ []
take_one_more xs k some fits =
    let e : k ≡ suc (k - 1) = omega arith in
    ap (λ n. take n xs) e ∙ take-suc xs (k - 1) 0 (omega arith)

module _ (text : List ℕ) (k : ℕ) (some : 0 < k) (fits : k ≤ length text) where
  pub back_blank : slice_index text (k - 1) ≡ 32 → without_back (take (k - 1) text) ≡ without_back (take k text)
  back_blank e = sym (rw (take_one_more text k some fits, e) (blank_off (take (k - 1) text)))

  pub back_other : slice_index text (k - 1) ≢ 32 → without_back (take k text) ≡ take k text
  back_other n =
      let e : (slice_index text (k - 1) == 32) ≡ false = grind (arith, nat_tests) in
      ap without_back (take_one_more text k some fits) ∙ (stays (take (k - 1) text) _ e ∙ sym (take_one_more text k some fits))
