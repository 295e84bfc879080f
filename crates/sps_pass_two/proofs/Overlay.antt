-- The image has the digit of the last field that declares an address.
use Rattle.std.proofs.Common.{◌≡◌, ℕ, zero, suc, ◌+◌, ◌-◌, ◌<◌, ◌≤◌, List, [], ◌∷◌, length, replicate, get_or, slice_set, refl, sym, ap, ◌∙◌, Option, Some, None, inl, inr, arith}
use Rattle.std.proofs.lemmas.Bool.{cases_lt}
use Rattle.std.proofs.lemmas.Grind.{common_steps}
use Rattle.digit_core.specs.declared.Digit.{Digit}
use Rattle.digit_core.specs.Cell.{unflagged_digit}
use Rattle.sps_pass_two.specs.Image.{DigitRun, digit_at, or_else, declared_digit, cells_from}
use Rattle.sps_pass_two.specs.Writing.{with_digits, with_fields}
use Rattle.sps_pass_two.proofs.DigitAt.{outside, within}

abbrev at : List (Option Digit) → ℕ → Option Digit
at image a = get_or image a None

written_below : (image : List (Option Digit)) (from : ℕ) (ds : List Digit) (a : ℕ) → a < from → at (with_digits image from ds) a ≡ at image a
unfolding with_digits
written_below image from [] a h = refl
written_below image from (d ∷ ds) a h = written_below (slice_set image from (Some d)) (from + 1) ds a (omega arith) ∙ grind (arith, common_steps)

written_above : (image : List (Option Digit)) (from : ℕ) (ds : List Digit) (a : ℕ) → from + length ds ≤ a → at (with_digits image from ds) a ≡ at image a
unfolding with_digits
written_above image from [] a h = refl
written_above image from (d ∷ ds) a h = written_above (slice_set image from (Some d)) (from + 1) ds a (omega arith) ∙ grind (arith, common_steps)

written_there : (image : List (Option Digit)) (from : ℕ) (ds : List Digit) (i : ℕ) → from + i < length image → i < length ds → at (with_digits image from ds) (from + i) ≡ Some (get_or ds i (unflagged_digit 0))
unfolding with_digits
written_there image from [] i fits h = absurd (omega arith)
written_there image from (d ∷ ds) zero fits h = written_below (slice_set image from (Some d)) (from + 1) ds (from + 0) (omega arith) ∙ grind (arith, common_steps)
written_there image from (d ∷ ds) (suc i) fits h =
    let e : from + suc i ≡ from + 1 + i = omega arith in
    let l : length (slice_set image from (Some d)) ≡ length image = grind (arith, common_steps) in
    rw e (written_there (slice_set image from (Some d)) (from + 1) ds i (omega arith) (omega arith))

length_written : (image : List (Option Digit)) (from : ℕ) (ds : List Digit) → length (with_digits image from ds) ≡ length image
unfolding with_digits
length_written image from [] = refl
length_written image from (d ∷ ds) = length_written (slice_set image from (Some d)) (from + 1) ds ∙ grind (arith, common_steps)

run_at : (image : List (Option Digit)) (r : DigitRun) (a : ℕ) → a < length image → at (with_digits image r.from r.digits) a ≡ or_else (digit_at r a) (at image a)
run_at image r a fits =
    elim (cases_lt a r.from) [
      | inl low ↦ rw (outside r a (inl low)) (written_below image r.from r.digits a low)
      | inr h ↦ elim (cases_lt a (r.from + length r.digits)) [
        | inl l ↦
            let i : r.from + (a - r.from) ≡ a = omega arith in
            let w = written_there image r.from r.digits (a - r.from) (omega arith) (omega arith) in
            rw (within r a h l) (ap (at (with_digits image r.from r.digits)) (sym i) ∙ w)
        | inr o ↦ rw (outside r a (inr o)) (written_above image r.from r.digits a o)
      ]
    ]

or_else_assoc : (x y z : Option Digit) → or_else x (or_else y z) ≡ or_else (or_else x y) z
or_else_assoc None y z = refl
or_else_assoc (Some d) y z = refl

all_at : (fs : List DigitRun) (image : List (Option Digit)) (a : ℕ) → a < length image → at (with_fields image fs) a ≡ or_else (declared_digit fs a) (at image a)
unfolding with_fields declared_digit
all_at [] image a fits = refl
all_at (f ∷ fs) image a fits =
    let n = length_written image f.from f.digits in
    all_at fs (with_digits image f.from f.digits) a (omega arith) ∙ (ap (or_else (declared_digit fs a)) (run_at image f a fits) ∙ or_else_assoc (declared_digit fs a) (digit_at f a) (at image a))

pub length_all : (fs : List DigitRun) (image : List (Option Digit)) → length (with_fields image fs) ≡ length image
unfolding with_fields
length_all [] image = refl
length_all (f ∷ fs) image = length_all fs (with_digits image f.from f.digits) ∙ length_written image f.from f.digits

-- a list by its elements
by_elements : (fs : List DigitRun) (n a : ℕ) (xs : List (Option Digit)) → length xs ≡ n → ((i : ℕ) → i < n → at xs i ≡ declared_digit fs (a + i)) → xs ≡ cells_from fs a n
unfolding cells_from
by_elements fs zero a [] e h = refl
by_elements fs zero a (x ∷ xs) e h = absurd (omega arith)
by_elements fs (suc n) a [] e h = absurd (omega arith)
by_elements fs (suc n) a (x ∷ xs) e h =
    let z : a + 0 ≡ a = omega arith in
    let first = rw z at (h 0 (omega arith)) in
    rw first (ap (λ ys. declared_digit fs a ∷ ys) (by_elements fs n (a + 1) xs (omega arith) (λ i s. let k : a + suc i ≡ a + 1 + i = omega arith in rw k at (h (suc i) (omega arith)))))

none_at : (n a : ℕ) → at (replicate n None) a ≡ None
none_at zero a = refl
none_at (suc n) zero = refl
none_at (suc n) (suc a) = none_at n a

or_none : (o : Option Digit) → or_else o None ≡ o
or_none None = refl
or_none (Some d) = refl

pub length_none : (n : ℕ) → length (replicate {A = Option Digit} n None) ≡ n
length_none zero = refl
length_none (suc n) = ap suc (length_none n)

pub image_is : (positions : ℕ) (fs : List DigitRun) → with_fields (replicate positions None) fs ≡ cells_from fs 0 positions
image_is positions fs =
    let n = length_none positions in
    by_elements fs positions 0 (with_fields (replicate positions None) fs) (length_all fs (replicate positions None) ∙ n)
    (λ i s. let z : 0 + i ≡ i = omega arith in rw z (all_at fs (replicate positions None) i (omega arith) ∙ rw (none_at positions i) (or_none (declared_digit fs i))))
