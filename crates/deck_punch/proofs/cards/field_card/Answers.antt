use Rattle.std.proofs.Common.{◌+◌, ◌-◌, replicate, length, get_or, drop, refl, true, arith, length-drop}
use Rattle.std.proofs.lemmas.List.{take_all}
use Rattle.digit_core.specs.Cell.{unflagged_digit, with_flag}
use Rattle.deck_punch.proofs.Texts.{field_text, field_digits}
use Rattle.deck_punch.proofs.cards.field_card.Goals as goal

pub returns : goal.returns
returns c =
    let text = field_text (get_or c.args.digits.now 0 (unflagged_digit 0)).flag c.args.from (c.args.from + (length c.args.digits.now - 1)) (replicate (32 - length c.args.digits.now) (unflagged_digit 0)) (drop 1 c.args.digits.now) (with_flag true (get_or c.args.digits.now 0 (unflagged_digit 0))) in
    let left = length-drop 1 c.args.digits.now in
    let all = take_all (length c.args.digits.now - 1) (drop 1 c.args.digits.now) (omega (arith, left)) in
    let is = field_digits c.args.from c.args.digits.now (c.args.from + (length c.args.digits.now - 1)) c.requires.some refl in
    rw (is, ← text) (rw (c.card.ensures, c.digits.ensures, c.digit.ensures, c.zeros.ensures, c.read_and_go.ensures, c.unflag.ensures, c.order.ensures, c.new-columns.ensures, all) refl)
