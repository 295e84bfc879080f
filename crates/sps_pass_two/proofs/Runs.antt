-- runs of digits in an image
use Rattle.std.proofs.Common.{◌≡◌, ℕ, zero, suc, ◌+◌, ◌<◌, ◌≤◌, true, false, ◌==◌, List, [], ◌∷◌, length, drop, get_or, drop-cons, refl, ap, ◌∙◌, Option, Some, None, slice_set, if◌then◌else◌, arith}
use Rattle.std.specs.Bool.{⊤}
use Rattle.std.proofs.lemmas.Bool.Decides.{nat_tests}
use Rattle.std.proofs.lemmas.List.{drop_all}
use Rattle.std.proofs.lemmas.Grind.{common_steps}
use Rattle.digit_core.specs.declared.Digit.{Digit}
use Rattle.sps_pass_two.specs.Image.{DigitRun, pieces_from, onto_piece}
use Rattle.sps_pass_two.specs.Writing.{with_digits, front_digits}

-- the first piece begins there or above
abbrev pub Starts : ℕ → List DigitRun → Type 0
Starts b [] = ⊤
Starts b (p ∷ ps) = b ≤ p.from

onto_starts : (a : ℕ) (d : Digit) (ps : List DigitRun) → Starts a (onto_piece a d ps)
onto_starts a d [] = omega arith
onto_starts a d (p ∷ ps) = elim (p.from == a + 1) as (λ t. Starts a (if t then record { from = a; digits = d ∷ p.digits } ∷ ps else record { from = a; digits = d ∷ [] } ∷ p ∷ ps)) [ true ↦ omega arith | false ↦ omega arith ]

below_starts : (a b : ℕ) (ps : List DigitRun) → a ≤ b → Starts b ps → Starts a ps
below_starts a b [] h s = tt
below_starts a b (p ∷ ps) h s = omega arith

pub starts : (a : ℕ) (cells : List (Option Digit)) → Starts a (pieces_from a cells)
unfolding pieces_from
starts a [] = tt
starts a (None ∷ cells) = below_starts a (a + 1) (pieces_from (a + 1) cells) (omega arith) (starts (a + 1) cells)
starts a (Some d ∷ cells) = onto_starts a d (pieces_from (a + 1) cells)

far : (a : ℕ) (d : Digit) (ps : List DigitRun) → Starts (a + 1 + 1) ps → onto_piece a d ps ≡ record { from = a; digits = d ∷ [] } ∷ ps
far a d [] s = refl
far a d (p ∷ ps) s = let e : (p.from == a + 1) ≡ false = grind (arith, nat_tests) in rw e

near : (a : ℕ) (d : Digit) (digits : List Digit) (ps : List DigitRun) → onto_piece a d (record { from = a + 1; digits = digits } ∷ ps) ≡ record { from = a; digits = d ∷ digits } ∷ ps
near a d digits ps = let e : (a + 1 == a + 1) ≡ true = grind (arith, nat_tests) in rw e

pub pieces_run : (a : ℕ) (d : Digit) (cells : List (Option Digit)) → pieces_from a (Some d ∷ cells) ≡ record { from = a; digits = d ∷ front_digits cells } ∷ pieces_from (a + suc (length (front_digits cells))) (drop (length (front_digits cells)) cells)
unfolding pieces_from
pieces_run a d [] = refl
pieces_run a d (None ∷ cells) =
    let e : a + suc 0 + 1 ≡ a + 1 + 1 = omega arith in
    rw e (far a d (pieces_from (a + 1 + 1) cells) (starts (a + 1 + 1) cells))
pieces_run a d (Some x ∷ cells) =
    let e : a + 1 + suc (length (front_digits cells)) ≡ a + suc (suc (length (front_digits cells))) = omega arith in
    ap (onto_piece a d) (pieces_run (a + 1) x cells) ∙ (near a d (x ∷ front_digits cells) _ ∙ rw e)

skip : (a : ℕ) (cells : List (Option Digit)) → 0 < length cells → length (front_digits cells) ≡ 0 → pieces_from a cells ≡ pieces_from (a + 1) (drop 1 cells)
unfolding pieces_from
skip a [] some h = absurd (omega arith)
skip a (None ∷ cells) some h = refl
skip a (Some d ∷ cells) some h = absurd (omega arith)

take_run : (a : ℕ) (cells : List (Option Digit)) → 0 < length (front_digits cells) → pieces_from a cells ≡ record { from = a; digits = front_digits cells } ∷ pieces_from (a + length (front_digits cells)) (drop (length (front_digits cells)) cells)
take_run a [] h = absurd (omega arith)
take_run a (None ∷ cells) h = absurd (omega arith)
take_run a (Some d ∷ cells) h = pieces_run a d cells

run_fits : (cells : List (Option Digit)) → length (front_digits cells) ≤ length cells
run_fits [] = omega arith
run_fits (None ∷ cells) = omega arith
run_fits (Some d ∷ cells) = let h = run_fits cells in omega arith

drop_drop : (n a : ℕ) (xs : List (Option Digit)) → drop n (drop a xs) ≡ drop (a + n) xs
drop_drop n zero xs = let e : 0 + n ≡ n = omega arith in rw e
drop_drop n (suc a) [] = rw (drop_all {X = Option Digit} n [] (omega arith), drop_all {X = Option Digit} (suc a + n) [] (omega arith))
drop_drop n (suc a) (x ∷ xs) = let e : suc a + n ≡ suc (a + n) = omega arith in rw e (drop_drop n a xs)

module _ (image : List (Option Digit)) (a n : ℕ) (inside : a < length image) (is_run : n ≡ length (front_digits (drop a image))) where
  pub skipped : n ≡ 0 → pieces_from a (drop a image) ≡ pieces_from (a + 1) (drop (a + 1) image)
  skipped z = skip a (drop a image) (grind (arith, common_steps)) (omega arith) ∙ ap (pieces_from (a + 1)) (drop_drop 1 a image)

  pub taken : (digits : List Digit) → digits ≡ front_digits (drop a image) → 0 < n → pieces_from a (drop a image) ≡ record { from = a; digits = digits } ∷ pieces_from (a + n) (drop (a + n) image)
  taken digits e some = take_run a (drop a image) (omega arith) ∙ rw (← is_run, drop_drop n a image, e)

  pub fits : a + n ≤ length image
  fits = let h = run_fits (drop a image) in grind (arith, common_steps)

pub pieces_end : (image : List (Option Digit)) (a : ℕ) → length image ≤ a → pieces_from a (drop a image) ≡ []
unfolding pieces_from
pieces_end image a h = rw (drop_all a image h)

written_on : (image : List (Option Digit)) (a : ℕ) (d : Digit) (ds : List Digit) → with_digits image a (d ∷ ds) ≡ with_digits (slice_set image a (Some d)) (a + 1) ds
unfolding with_digits
written_on image a d ds = refl

pub write_on : (d0 : Digit) (image : List (Option Digit)) (a i : ℕ) (digits : List Digit) → i < length digits → with_digits image (a + i) (drop i digits) ≡ with_digits (slice_set image (a + i) (Some (get_or digits i d0))) (a + (i + 1)) (drop (i + 1) digits)
write_on d0 image a i digits h =
    let e : a + i + 1 ≡ a + (i + 1) = omega arith in
    let k : i + 1 ≡ suc i = omega arith in
    ap (with_digits image (a + i)) (drop-cons digits i d0 h) ∙ (written_on image (a + i) (get_or digits i d0) (drop (suc i) digits) ∙ rw (e, k))

pub write_end : (image : List (Option Digit)) (a i : ℕ) (digits : List Digit) → length digits ≤ i → with_digits image (a + i) (drop i digits) ≡ image
unfolding with_digits
write_end image a i digits h = rw (drop_all i digits h)

-- a digit past the end of the image is nowhere
pub set_past : (image : List (Option Digit)) (a : ℕ) (d : Option Digit) → length image ≤ a → slice_set image a d ≡ image
set_past [] a d h = refl
set_past (x ∷ image) zero d h = absurd (omega arith)
set_past (x ∷ image) (suc a) d h = ap (λ cells. x ∷ cells) (set_past image a d (omega arith))
