-- The text of a card, part by part.
use Rattle.std.proofs.Common.{ℕ, suc, ◌≡◌, ◌+◌, ◌-◌, ◌≤◌, Bool, true, false, List, [], ◌∷◌, ◌++◌, length, map, drop, get_or, replicate, refl, arith, append_assoc}
use Rattle.std.proofs.lemmas.List.{map-append}
use Rattle.digit_core.specs.declared.Digit.{Digit}
use Rattle.digit_core.specs.Cell.{unflagged_digit, with_flag}
use Rattle.card_code.specs.Characters.{object_char}
use Rattle.card_columns.specs.Orders.{order}
use Rattle.deck_punch.specs.Cards.{read_and_go, unflagging, segment_digits}

-- the card of two digits or more, whose lowest is d
pub field_text : (b : Bool) (low high : ℕ) (pad fs : List Digit) (top : Digit) →
    (((((map object_char (order 2 6 high 79 []) ++ map object_char (unflagging b low [])) ++ map object_char (read_and_go [])) ++ map object_char pad) ++ object_char top ∷ []) ++ map object_char fs)
    ≡ map object_char (order 2 6 high 79 (unflagging b low (read_and_go (pad ++ top ∷ fs))))
field_text true low high pad fs top = rw (map-append object_char pad (top ∷ fs), append_assoc (map object_char pad) (object_char top ∷ []) (map object_char fs)) refl
field_text false low high pad fs top = rw (map-append object_char pad (top ∷ fs), append_assoc (map object_char pad) (object_char top ∷ []) (map object_char fs)) refl

-- its digits
pub field_digits : (low : ℕ) (ds : List Digit) (high : ℕ) → 2 ≤ length ds → high ≡ low + (length ds - 1) →
    segment_digits low ds ≡ order 2 6 high 79 (unflagging (get_or ds 0 (unflagged_digit 0)).flag low (read_and_go (replicate (32 - length ds) (unflagged_digit 0) ++ with_flag true (get_or ds 0 (unflagged_digit 0)) ∷ drop 1 ds)))
unfolding segment_digits
field_digits low [] high some is = absurd (omega arith)
field_digits low (d ∷ []) high some is = absurd (omega arith)
field_digits low (d ∷ e ∷ ds) high some is = let k : high ≡ low + suc (length ds) = omega arith in rw k refl
