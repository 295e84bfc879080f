-- The text of a dense card, part by part, and what is put right on it.
use Rattle.std.proofs.Common.{ℕ, zero, suc, ◌≡◌, ◌+◌, ◌-◌, ◌<◌, ◌≤◌, Bool, true, false, List, [], ◌∷◌, ◌++◌, length, map, drop, get_or, replicate, refl, sym, ap, ◌∙◌, arith, All, length-append}
use Rattle.std.proofs.lemmas.Option.{none-some}
use Rattle.std.proofs.lemmas.Grind.{common_steps}
use Rattle.std.proofs.lemmas.List.{map-append, drop_more, drop_all, length-map}
use Rattle.std.proofs.lemmas.List.Quantifiers.{position-Some}
use Rattle.std.proofs.lemmas.List.Sums.{fails_before_first}
use Rattle.std.specs.Prelude.{Option, Some, None, option_map, position, ◌&&◌, not}
use Rattle.digit_core.specs.declared.Digit.{Digit}
use Rattle.digit_core.specs.Cell.{unflagged_digit, with_flag, IsGood}
use Rattle.card_code.specs.Characters.{object_char}
use Rattle.card_columns.specs.Orders.{address}
use Rattle.deck_punch.specs.Dense.{Repair, nowhere, first_flagged, repair, digits_on_card, place_of_repair, dense_digits}

-- digits as they stand on the card, where the first flag among them is still to be taken off, or no longer
pub stripped : Bool → List Digit → List Digit
stripped due [] = []
stripped due (d ∷ ds) = record { flag = d.flag && not due; value = d.value } ∷ stripped (due && not d.flag) ds

and_true : (b : Bool) → (b && true) ≡ b
and_true true = refl
and_true false = refl

-- a digit by its flag
by_flag : (d : Digit) (b : Bool) → b ≡ d.flag → record { flag = b; value = d.value } ≡ d
by_flag d b is = ap (λ (c : Bool). record { flag = c; value = d.value }) is

stripped_none : (ds : List Digit) → stripped false ds ≡ ds
unfolding stripped
stripped_none [] = refl
stripped_none (d ∷ ds) = rw (by_flag d (d.flag && true) (and_true d.flag), stripped_none ds) refl

stripped_first : (a : ℕ) (ds : List Digit) → (first_flagged a ds).punched ≡ stripped true ds
unfolding first_flagged stripped
stripped_first a [] = refl
stripped_first a (d ∷ ds) = cases d.flag refl (stripped_first (a + 1) ds)
  where
    cases : (b : Bool) → d.flag ≡ b → (first_flagged (a + 1) ds).punched ≡ stripped true ds → (first_flagged a (d ∷ ds)).punched ≡ stripped true (d ∷ ds)
    cases true is rest = rw is (ap (λ (es : List Digit). with_flag false d ∷ es) (sym (stripped_none ds)))
    cases false is rest = rw is (rw (by_flag d false (sym is), rest) refl)

-- the digits on the card, behind the leftmost
pub punched_is : (low : ℕ) (d : Digit) (ds : List Digit) → digits_on_card low (d ∷ ds) ≡ with_flag true d ∷ stripped d.flag ds
punched_is low d ds = cases d.flag refl
  where
    cases : (b : Bool) → d.flag ≡ b → digits_on_card low (d ∷ ds) ≡ with_flag true d ∷ stripped d.flag ds
    cases true is = rw is (ap (λ (es : List Digit). with_flag true d ∷ es) (stripped_first (low + 1) ds))
    cases false is = rw is (ap (λ (es : List Digit). with_flag true d ∷ es) (sym (stripped_none ds)))

pub stripped_length : (due : Bool) (ds : List Digit) → length (stripped due ds) ≡ length ds
unfolding stripped
stripped_length due [] = refl
stripped_length due (d ∷ ds) = ap suc (stripped_length (due && not d.flag) ds)

pub punched_length : (low : ℕ) (ds : List Digit) → length (digits_on_card low ds) ≡ length ds
punched_length low [] = refl
punched_length low (d ∷ ds) = ap length (punched_is low d ds) ∙ ap suc (stripped_length d.flag ds)

-- one digit more, and the others
pub stripped_on : (due : Bool) (ds : List Digit) (i : ℕ) → i < length ds
    → stripped due (drop i ds) ≡ record { flag = (get_or ds i (unflagged_digit 0)).flag && not due; value = (get_or ds i (unflagged_digit 0)).value } ∷ stripped (due && not (get_or ds i (unflagged_digit 0)).flag) (drop (i + 1) ds)
unfolding stripped
stripped_on due ds i within = rw (drop_more ds i (unflagged_digit 0) within) refl

pub stripped_end : (due : Bool) (ds : List Digit) (i : ℕ) → length ds ≤ i → stripped due (drop i ds) ≡ []
unfolding stripped
stripped_end due ds i over = rw (drop_all i ds over) refl

pub punched_by : (low : ℕ) (ds : List Digit) → 1 ≤ length ds
    → digits_on_card low ds ≡ with_flag true (get_or ds 0 (unflagged_digit 0)) ∷ stripped (get_or ds 0 (unflagged_digit 0)).flag (drop 1 ds)
punched_by low [] some = absurd (omega arith)
punched_by low (d ∷ ds) some = punched_is low d ds

-- what is on the card and what is left are as many as before
pub room_left : (cols first : List ℕ) (due b : Bool) (ds es : List Digit) → cols ++ map object_char (stripped due ds) ≡ first ++ map object_char (stripped b es)
    → length cols + length ds ≡ length first + length es
room_left cols first due b ds es is =
    let x = length-append cols (map object_char (stripped due ds)) in
    let y = length-append first (map object_char (stripped b es)) in
    let u = length-map (stripped due ds) object_char in
    let v = length-map (stripped b es) object_char in
    omega (arith, x, y, u, v, stripped_length due ds, stripped_length b es, ap length is)

-- the digits behind the first are good
pub good_behind : (ds : List Digit) (i : ℕ) → All IsGood ds → i < length (drop 1 ds) → IsGood (get_or (drop 1 ds) i (unflagged_digit 0))
good_behind [] i good within = absurd (omega arith)
good_behind (d ∷ ds) i good within = good (suc i) (unflagged_digit 0) (omega arith)

-- the repair of the first digit with a flag
flagged_by : (a : ℕ) (ds : List Digit) (k : ℕ) → k < length ds → (get_or ds k (unflagged_digit 0)).flag ≡ true → ((j : ℕ) → j < k → (get_or ds j (unflagged_digit 0)).flag ≡ false)
    → ((first_flagged a ds).at ≡ a + k) × ((first_flagged a ds).digit ≡ get_or ds k (unflagged_digit 0))
unfolding first_flagged
flagged_by a [] k within on none = absurd (omega arith)
flagged_by a (d ∷ ds) zero within on none = rw on (omega arith, refl)
flagged_by a (d ∷ ds) (suc k) within on none =
    let off : d.flag ≡ false = none 0 (omega arith) in
    let rest = flagged_by (a + 1) ds k (omega arith) on (λ j below. none (suc j) (omega arith)) in
    rw off (rest.0 ∙ omega arith, rest.1)

none_flagged : (a : ℕ) (ds : List Digit) → ((j : ℕ) → j < length ds → (get_or ds j (unflagged_digit 0)).flag ≡ false)
    → ((first_flagged a ds).at ≡ nowhere) × ((first_flagged a ds).digit ≡ unflagged_digit 0)
unfolding first_flagged
none_flagged a [] none = (refl, refl)
none_flagged a (d ∷ ds) none =
    let off : d.flag ≡ false = none 0 (omega arith) in
    rw off (none_flagged (a + 1) ds (λ j below. none (suc j) (omega arith)))

abbrev flag_of : Digit → Bool
flag_of d = d.flag

is_inside : (k i : ℕ) → Some k ≡ Some i → i ≡ k
is_inside k i is = cc

-- the repair of a segment by the place of its digit, and without one
pub repair_some : (low : ℕ) (ds : List Digit) (i : ℕ) → place_of_repair ds ≡ Some i
    → (i < length ds) × ((repair low ds).at ≡ low + i) × ((repair low ds).digit ≡ get_or ds i (unflagged_digit 0))
repair_some low [] i is = absurd (none-some i is)
repair_some low (d ∷ ds) i is = cases d.flag refl (position flag_of ds) refl
  where
    cases : (b : Bool) → d.flag ≡ b → (o : Option ℕ) → position flag_of ds ≡ o
        → (i < suc (length ds)) × ((repair low (d ∷ ds)).at ≡ low + i) × ((repair low (d ∷ ds)).digit ≡ get_or (d ∷ ds) i (unflagged_digit 0))
    cases false off o found =
        let h : Some 0 ≡ Some i = rw off at is in
        let e : i ≡ 0 = is_inside 0 i h in
        rw (e, off) (omega arith, omega arith, refl)
    cases true on None found =
        let h : option_map (λ k. k + 1) (position flag_of ds) ≡ Some i = rw on at is in
        let g : None ≡ Some i = ap (λ (o : Option ℕ). option_map (λ k. k + 1) o) (sym found) ∙ h in
        absurd (none-some i g)
    cases true on (Some k) found =
        let h : option_map (λ k. k + 1) (position flag_of ds) ≡ Some i = rw on at is in
        let g : Some (k + 1) ≡ Some i = ap (λ (o : Option ℕ). option_map (λ k. k + 1) o) (sym found) ∙ h in
        let same : i ≡ k + 1 = is_inside (k + 1) i g in
        let e : i ≡ suc k = omega arith in
        let at = position-Some flag_of ds k (unflagged_digit 0) found in
        let rest = flagged_by (low + 1) ds k at.0 at.1 at.2 in
        rw (e, on) (omega (arith, at.0), rest.0 ∙ omega arith, rest.1)

pub repair_none : (low : ℕ) (ds : List Digit) → place_of_repair ds ≡ None → ((repair low ds).at ≡ nowhere) × ((repair low ds).digit ≡ unflagged_digit 0)
unfolding first_flagged
repair_none low [] is = (refl, refl)
repair_none low (d ∷ ds) is = cases d.flag refl (position flag_of ds) refl
  where
    cases : (b : Bool) → d.flag ≡ b → (o : Option ℕ) → position flag_of ds ≡ o → ((repair low (d ∷ ds)).at ≡ nowhere) × ((repair low (d ∷ ds)).digit ≡ unflagged_digit 0)
    cases false off o found =
        let h : Some 0 ≡ None = rw off at is in
        absurd (none-some 0 (sym h))
    cases true on (Some k) found =
        let h : option_map (λ k. k + 1) (position flag_of ds) ≡ None = rw on at is in
        let g : Some (k + 1) ≡ None = ap (λ (o : Option ℕ). option_map (λ k. k + 1) o) (sym found) ∙ h in
        absurd (none-some (k + 1) (sym g))
    cases true on None found =
        let rest = none_flagged (low + 1) ds (λ j below. fails_before_first flag_of ds j (unflagged_digit 0) (grind (arith, common_steps))) in
        rw on rest

-- the card of two digits or more
pub field_digits : (low : ℕ) (ds : List Digit) (high : ℕ) → 2 ≤ length ds → high ≡ low + (length ds - 1)
    → dense_digits low ds ≡ address high (address (repair low ds).at ((repair low ds).digit ∷ replicate (69 - length ds) (unflagged_digit 0) ++ digits_on_card low ds))
unfolding dense_digits
field_digits low [] high some is = absurd (omega arith)
field_digits low (d ∷ []) high some is = absurd (omega arith)
field_digits low (d ∷ e ∷ ds) high some is =
    let k : high ≡ low + suc (length ds) = omega arith in
    let l = punched_length low (d ∷ e ∷ ds) in
    rw (k, l) refl

pub field_text : (high : ℕ) (r : Repair) (pad fs : List Digit)
    → ((map object_char (address high []) ++ map object_char (address r.at (r.digit ∷ []))) ++ map object_char pad) ++ map object_char fs
    ≡ map object_char (address high (address r.at (r.digit ∷ pad ++ fs)))
field_text high r pad fs = rw (map-append object_char pad fs) refl
