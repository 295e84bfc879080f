-- The transfer card: a card of good digits, and its text.
use Rattle.std.proofs.Common.{ℕ, [], ◌++◌, replicate, refl, arith}
use Rattle.digit_core.specs.Cell.{unflagged_digit}
use Rattle.card_columns.specs.Orders.{order}
use Rattle.card_columns.proofs.GoodDigits.{good_order, good_zeros, IsCard}
use Rattle.card_columns.proofs.CardTexts.{IsCardText, digits_text}
use Rattle.deck_punch.specs.Cards.{transfer_digits, transfer_card}

pub start_card : (start : ℕ) → IsCard (transfer_digits start)
unfolding transfer_digits
start_card start = record {
  whole = refl;
  good = good_order 4 9 start 0 (replicate 24 (unflagged_digit 0) ++ order 4 9 0 0 (replicate 32 (unflagged_digit 0))) (omega arith) (omega arith)
      (good_zeros 24 (order 4 9 0 0 (replicate 32 (unflagged_digit 0))) (good_order 4 9 0 0 (replicate 32 (unflagged_digit 0)) (omega arith) (omega arith) (good_zeros 32 [] tt)));
  jump = refl;
}

pub transfer_text : (start : ℕ) → IsCardText (transfer_card start)
unfolding transfer_digits
transfer_text start = digits_text (transfer_digits start) refl
