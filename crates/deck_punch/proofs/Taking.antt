-- How the code takes segments off the front of a piece.
use Rattle.std.proofs.Common.{ℕ, zero, suc, ◌≡◌, ◌+◌, ◌-◌, ◌<◌, ◌≤◌, ◌⊎◌, inl, inr, true, false, List, [], ◌∷◌, length, take, drop, get_or, refl, ap, ◌∙◌, arith}
use Rattle.std.specs.Prelude.{min}
use Rattle.std.proofs.lemmas.Bool.{cases_lt}
use Rattle.std.proofs.lemmas.List.{drop_more, drop_all, length-take-le}
use Rattle.digit_core.specs.declared.Digit.{Digit}
use Rattle.digit_core.specs.Cell.{unflagged_digit}
use Rattle.sps_pass_two.specs.Image.{DigitRun}
use Rattle.deck_punch.specs.declared.form.DeckForm.{DeckForm}
use Rattle.deck_punch.specs.Cut.{room_in, flags_in, take_count, take_count_in, front, segments_from}
use Rattle.deck_punch.proofs.Covering.{no_flag_left, form_takes}

none_there : (left room : ℕ) → take_count left room [] ≡ 0
unfolding take_count
none_there left zero = refl
none_there zero (suc room) = refl
none_there (suc left) (suc room) = refl

no_room : (left : ℕ) (ds : List Digit) → take_count left 0 ds ≡ 0
unfolding take_count
no_room left ds = refl

module _ (room : ℕ) (ds : List Digit) (left i : ℕ) where
  -- nothing is left to take, or no room
  take_none : (room ≤ i) ⊎ (length ds ≤ i) → take_count left (room - i) (drop i ds) ≡ 0
  take_none (inl full) = let e : room - i ≡ 0 = omega arith in rw e (no_room left (drop i ds))
  take_none (inr over) = rw (drop_all i ds over) (none_there left (room - i))

  module _ (some : i < room) (more : i < length ds) where
    one_less : room - i ≡ suc (room - (i + 1))
    one_less = omega arith

    -- the next digit is flagged
    take_flag : (get_or ds i (unflagged_digit 0)).flag ≡ true → take_count (suc left) (room - i) (drop i ds) ≡ suc (take_count left (room - (i + 1)) (drop (i + 1) ds))
    unfolding take_count
    take_flag on = rw (one_less, drop_more ds i (unflagged_digit 0) more, on)

    -- the next digit isn't
    take_plain : (get_or ds i (unflagged_digit 0)).flag ≡ false → take_count (suc left) (room - i) (drop i ds) ≡ suc (take_count (suc left) (room - (i + 1)) (drop (i + 1) ds))
    unfolding take_count
    take_plain off = rw (one_less, drop_more ds i (unflagged_digit 0) more, off)

module _ (room : ℕ) (ds : List Digit) (i : ℕ) (some : i < room) (more : i < length ds) where
  -- the next digit has a flag
  pub take_flagged : (left : ℕ) → 1 ≤ left → (get_or ds i (unflagged_digit 0)).flag ≡ true → take_count left (room - i) (drop i ds) ≡ suc (take_count (left - 1) (room - (i + 1)) (drop (i + 1) ds))
  take_flagged zero one on = absurd (omega arith)
  take_flagged (suc left) one on = let e : suc left - 1 ≡ left = omega arith in rw e (take_flag room ds left i some more on)

  -- the flag of the next digit is the last
  pub take_last : (left : ℕ) → 1 ≤ left → left - 1 ≡ 0 → (get_or ds i (unflagged_digit 0)).flag ≡ true → take_count left (room - i) (drop i ds) ≡ 1
  take_last left one last on = take_flagged left one on ∙ ap (λ (n : ℕ). suc (take_count n (room - (i + 1)) (drop (i + 1) ds))) last ∙ ap suc (no_flag_left (room - (i + 1)) (drop (i + 1) ds))

  -- the next digit has no flag
  pub take_on : (left : ℕ) → 1 ≤ left → (get_or ds i (unflagged_digit 0)).flag ≡ false → take_count left (room - i) (drop i ds) ≡ suc (take_count left (room - (i + 1)) (drop (i + 1) ds))
  take_on zero one off = absurd (omega arith)
  take_on (suc left) one off = take_plain room ds left i some more off

-- all is taken, or the room is full
pub all_taken : (room : ℕ) (ds : List Digit) (flags left i most : ℕ) → most ≡ min (length ds) room → i ≤ most → most ≤ i → take_count flags room ds ≡ i + take_count left (room - i) (drop i ds) → most ≡ take_count flags room ds
all_taken room ds flags left i most is low high whole =
    let over : (room ≤ i) ⊎ (length ds ≤ i) = elim (cases_lt i room) [ inl l ↦ inr (omega arith) | inr l ↦ inl l ] in
    let none = take_none room ds left i over in
    omega (arith, none, whole)

-- the digits of the segment at the front
pub front_is : (form : DeckForm) (ds : List Digit) (n : ℕ) → 1 ≤ length ds → n ≡ take_count (flags_in form (get_or ds 0 (unflagged_digit 0))) (room_in form - 1) (drop 1 ds) → take (1 + n) ds ≡ front form ds
front_is form [] n some is = absurd (omega arith)
front_is form (d ∷ ds) n some is = let e : 1 + n ≡ suc n = omega arith in rw (e, is)

pub front_fits : (form : DeckForm) (ds : List Digit) → length (front form ds) ≤ length ds
front_fits form [] = omega arith
front_fits form (d ∷ ds) = let t = form_takes form d ds in let k = length-take-le (take_count_in form d ds) ds t.within in omega (arith, t.within)

-- the digits of the segment before, and then the others
skip : (form : DeckForm) (ds : List Digit) (a k : ℕ) → k ≤ length ds → segments_from form a k ds ≡ segments_from form (a + k) 0 (drop k ds)
unfolding segments_from
skip form ds a zero l = let e : a + 0 ≡ a = omega arith in rw e
skip form [] a (suc k) l = absurd (omega arith)
skip form (d ∷ ds) a (suc k) l = let e : a + suc k ≡ a + 1 + k = omega arith in rw e (skip form ds (a + 1) k (omega arith))

front_on : (form : DeckForm) (ds : List Digit) (a : ℕ) → 1 ≤ length ds → segments_from form a 0 ds ≡ record { from = a; digits = front form ds } ∷ segments_from form (a + length (front form ds)) 0 (drop (length (front form ds)) ds)
unfolding segments_from
front_on form [] a some = absurd (omega arith)
front_on form (d ∷ ds) a some =
    let t = form_takes form d ds in
    let k : length (take (take_count_in form d ds) ds) ≡ take_count_in form d ds = length-take-le (take_count_in form d ds) ds t.within in
    let e : a + suc (take_count_in form d ds) ≡ a + 1 + take_count_in form d ds = omega arith in
    rw (k, e) (ap (λ (gs : List DigitRun). record { from = a; digits = d ∷ take (take_count_in form d ds) ds } ∷ gs) (skip form ds (a + 1) (take_count_in form d ds) t.within))

drop_drop : (n a : ℕ) (xs : List Digit) → drop n (drop a xs) ≡ drop (a + n) xs
drop_drop n zero xs = let e : 0 + n ≡ n = omega arith in rw e
drop_drop n (suc a) [] = rw (drop_all {X = Digit} n [] (omega arith), drop_all {X = Digit} (suc a + n) [] (omega arith))
drop_drop n (suc a) (x ∷ xs) = let e : suc a + n ≡ suc (a + n) = omega arith in rw e (drop_drop n a xs)

-- a segment is taken off
pub segment_on : (form : DeckForm) (ds : List Digit) (a at n : ℕ) → 1 ≤ length (drop at ds) → n ≡ length (front form (drop at ds)) →
    segments_from form (a + at) 0 (drop at ds) ≡ record { from = a + at; digits = front form (drop at ds) } ∷ segments_from form (a + (at + n)) 0 (drop (at + n) ds)
segment_on form ds a at n some is =
    let e : a + at + n ≡ a + (at + n) = omega arith in
    front_on form (drop at ds) (a + at) some ∙ rw (← is, drop_drop n at ds, e)

-- none is left
pub segment_none : (form : DeckForm) (ds : List Digit) (a at : ℕ) → length ds ≤ at → segments_from form (a + at) 0 (drop at ds) ≡ []
unfolding segments_from
segment_none form ds a at over = rw (drop_all at ds over)
