-- The digits that are loaded.
use Rattle.std.proofs.Common.{ℕ, zero, suc, ◌≡◌, ◌+◌, ◌-◌, ◌*◌, ◌<◌, ◌≤◌, ◌&&◌, nat_le, nat_lt, inl, inr, Bool, true, false, List, [], ◌∷◌, length, length-append, Option, Some, None, refl, arith, sym, subst, ◌∙◌, All}
use Rattle.std.proofs.lemmas.List.{get_or_append_left, get_or-append-add}
use Rattle.std.proofs.lemmas.List.FromFn.{get_or-map-range_with_len, length-map-range_with_len}
use Rattle.std.proofs.lemmas.Bool.{cases_lt}
use Rattle.std.proofs.lemmas.Bool.Decides.{nat_tests}
use Rattle.std.specs.Prelude.{if◌then◌else◌, IfSome}
use Rattle.digit_core.specs.declared.Digit.{Digit}
use Rattle.digit_core.specs.Cell.{IsGood, is_cell_value, unflagged_digit}
use Rattle.digit_core.specs.Standard.{standard_digit}
use Rattle.digit_core.proofs.Below.{same_below}
use Rattle.sps_pass_two.specs.Image.{DigitRun, digit_at, declared_digit, or_else}
use Rattle.sps_pass_two.specs.Kept.{IsPiece}
use Rattle.card_columns.specs.Orders.{nth}
use Rattle.deck_punch.proofs.Declaring.{below, above, within}
use Rattle.card_columns.proofs.GoodDigits.{Good, good_by}
use Rattle.disk_loader.specs.Hundreds.{digit_or, digit_beneath, digit_on_disk, loaded_digits}
use Rattle.disk_loader.proofs.Sectors.{joined}

good_table : (i : ℕ) → i < 300 → is_cell_value (standard_digit (100 + i)).value ≡ true
unfolding standard_digit
good_table i l = same_below (λ i. is_cell_value (standard_digit (100 + i)).value) (λ i. true) 300 i true refl l

good_standard : (a : ℕ) → 100 ≤ a → a < 400 → IsGood (standard_digit a)
good_standard a low high = let e : 100 + (a - 100) ≡ a = omega arith in rw e at (good_table (a - 100) (omega arith))

good_choice : (b : Bool) (d e : Digit) → (b ≡ true → IsGood d) → IsGood e → IsGood (if b then d else e)
good_choice true d e x y = x refl
good_choice false d e x y = y

good_beneath : (a : ℕ) → IsGood (digit_beneath a)
good_beneath a = good_choice (nat_le 100 a && nat_lt a 400) (standard_digit a) (unflagged_digit 0) (λ e. good_standard a (grind (arith, nat_tests)) (grind (arith, nat_tests))) refl

piece_good : (r : DigitRun) (a : ℕ) → IsPiece r → IfSome (digit_at r a) IsGood
piece_good r a is =
    elim (cases_lt a r.from) [
      | inl low ↦ rw (below r a low) tt
      | inr high ↦ elim (cases_lt a (r.from + length r.digits)) [
        | inl there ↦ rw (within r a high there) (is.good (a - r.from) (unflagged_digit 0) (omega arith))
        | inr past ↦ rw (above r a past) tt
      ]
    ]

either_good : (o p : Option Digit) → IfSome o IsGood → IfSome p IsGood → IfSome (or_else o p) IsGood
either_good (Some d) p x y = x
either_good None p x y = y

good_declared : (image : List DigitRun) → All IsPiece image → (a : ℕ) → IfSome (declared_digit image a) IsGood
unfolding declared_digit
good_declared [] each a = tt
good_declared (r ∷ rs) each a =
    either_good (declared_digit rs a) (digit_at r a) (good_declared rs (λ k e l. each (suc k) e (omega arith)) a) (piece_good r a (each 0 r (omega arith)))

digit_or_good : (o : Option Digit) (d : Digit) → IfSome o IsGood → IsGood d → IsGood (digit_or o d)
digit_or_good (Some e) d x y = x
digit_or_good None d x y = y

module _ (image : List DigitRun) (each : All IsPiece image) where
  pub good_loaded : (a : ℕ) → IsGood (digit_on_disk image a)
  unfolding digit_on_disk
  good_loaded a = digit_or_good (declared_digit image a) (digit_beneath a) (good_declared image each a) (good_beneath a)

  -- the digits of a hundred
  abbrev pub hundred_digits : ℕ → List Digit
  hundred_digits h = loaded_digits image (100 * h) 100

  pub hundred_length : (h : ℕ) → length (hundred_digits h) ≡ 100
  hundred_length h = length-map-range_with_len (digit_on_disk image) (100 * h) 100

  hundred_digit : (h i : ℕ) → i < 100 → nth (hundred_digits h) i ≡ digit_on_disk image (100 * h + i)
  hundred_digit h i l = get_or-map-range_with_len (digit_on_disk image) (100 * h) 100 i (100 * h + i) (unflagged_digit 0) l refl

  pub hundred_good : (h : ℕ) → Good (hundred_digits h)
  hundred_good h = good_by (hundred_digits h) (λ i l. let k : i < 100 = omega (arith, hundred_length h) in subst IsGood (sym (hundred_digit h i k)) (good_loaded (100 * h + i)))

  -- those of hundreds behind one another
  pub joined_length : (n h : ℕ) → length (joined hundred_digits h n) ≡ 100 * n
  joined_length zero h = refl
  joined_length (suc n) h =
      let a = length-append (hundred_digits h) (joined hundred_digits (h + 1) n) in
      let b = joined_length n (h + 1) in
      let c = hundred_length h in
      omega arith

  pub joined_digit : (n h i : ℕ) → i < 100 * n → nth (joined hundred_digits h n) i ≡ digit_on_disk image (100 * h + i)
  joined_digit zero h i l = absurd (omega arith)
  joined_digit (suc n) h i l =
      let w = hundred_length h in
      elim (cases_lt i 100) [
        | inl first ↦ get_or_append_left (hundred_digits h) (joined hundred_digits (h + 1) n) (unflagged_digit 0) i (omega arith) ∙ hundred_digit h i first
        | inr later ↦
            let e : length (hundred_digits h) + (i - 100) ≡ i = omega arith in
            let f : 100 * (h + 1) + (i - 100) ≡ 100 * h + i = omega arith in
            rw f at (rw e at (get_or-append-add (hundred_digits h) (joined hundred_digits (h + 1) n) (i - 100) (unflagged_digit 0)) ∙ joined_digit n (h + 1) (i - 100) (omega arith))
      ]
