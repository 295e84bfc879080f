-- How a run is looked at, from its first character on.
use Rattle.std.proofs.Common.{◌≡◌, ◌≢◌, ℕ, ◌<◌, ◌-◌, false, ◌==◌, List, [], ◌∷◌, length, slice_index, refl, sym, ap, ◌∙◌, Some, None, arith}
use Rattle.std.proofs.lemmas.Bool.Decides.{nat_tests}
use Rattle.sps_expr.specs.Reading.{behind_dollar, plain_name, behind_first, name_factor}
use Rattle.sps_expr.proofs.Fronts.{rest_of, take_whole}

pub whole_is : (word : List ℕ) → 0 < length word → word ≡ slice_index word 0 ∷ rest_of word
whole_is [] h = absurd (omega arith)
whole_is (b ∷ bs) h = ap (λ xs. b ∷ xs) (sym (take_whole bs (length (b ∷ bs) - 1) (omega arith)))

pub no_name : (word : List ℕ) → length word < 1 → None ≡ name_factor word
unfolding name_factor
no_name [] h = refl
no_name (b ∷ bs) h = absurd (omega arith)

name_front : (word : List ℕ) (b : ℕ) (bs : List ℕ) → word ≡ b ∷ bs → b ≡ 36 → name_factor word ≡ behind_dollar None bs
unfolding name_factor
name_front word b bs e d = rw (e, d) refl

name_behind : (word : List ℕ) (b : ℕ) (bs : List ℕ) → word ≡ b ∷ bs → b ≢ 36 → name_factor word ≡ behind_first b bs
unfolding name_factor
name_behind word b bs e n = let t : (b == 36) ≡ false = grind (arith, nat_tests) in rw (e, t) refl

-- a `$` at the front
pub name_at_front : (word : List ℕ) → 0 < length word → slice_index word 0 ≡ 36 → name_factor word ≡ behind_dollar None (rest_of word)
name_at_front word h d = name_front word _ _ (whole_is word h) d

first_alone : (b : ℕ) (bs : List ℕ) → length bs < 1 → behind_first b bs ≡ plain_name (b ∷ bs)
first_alone b [] h = refl
first_alone b (c ∷ cs) h = absurd (omega arith)

first_dollar : (b : ℕ) (bs : List ℕ) (c : ℕ) (cs : List ℕ) → bs ≡ c ∷ cs → c ≡ 36 → behind_first b bs ≡ behind_dollar (Some b) cs
first_dollar b bs c cs e d = rw (e, d) refl

first_other : (b : ℕ) (bs : List ℕ) (c : ℕ) (cs : List ℕ) → bs ≡ c ∷ cs → c ≢ 36 → behind_first b bs ≡ plain_name (b ∷ bs)
first_other b bs c cs e n = let t : (c == 36) ≡ false = grind (arith, nat_tests) in rw (e, t) refl

module _ (word : List ℕ) (h : 0 < length word) (n : slice_index word 0 ≢ 36) where
  -- one character alone
  pub name_alone : length (rest_of word) < 1 → name_factor word ≡ plain_name word
  name_alone l = name_behind word _ _ (whole_is word h) n ∙ first_alone (slice_index word 0) (rest_of word) l ∙ ap plain_name (sym (whole_is word h))

  -- a `$` behind the first character
  pub name_headed : 0 < length (rest_of word) → slice_index (rest_of word) 0 ≡ 36 → name_factor word ≡ behind_dollar (Some (slice_index word 0)) (rest_of (rest_of word))
  name_headed l d = name_behind word _ _ (whole_is word h) n ∙ first_dollar _ _ _ _ (whole_is (rest_of word) l) d

  pub name_plain : 0 < length (rest_of word) → slice_index (rest_of word) 0 ≢ 36 → name_factor word ≡ plain_name word
  name_plain l o = name_behind word _ _ (whole_is word h) n ∙ first_other (slice_index word 0) _ _ _ (whole_is (rest_of word) l) o ∙ ap plain_name (sym (whole_is word h))
