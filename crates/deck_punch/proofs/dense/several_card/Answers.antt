-- A dense card, part by part.
use Rattle.std.proofs.Common.{◌+◌, ◌-◌, ◌∷◌, [], map, replicate, length, refl, ap, ◌∙◌, arith, length-append}
use Rattle.std.proofs.lemmas.List.{length-map, length-replicate}
use Rattle.digit_core.specs.Cell.{unflagged_digit}
use Rattle.card_code.specs.Characters.{object_char}
use Rattle.card_columns.specs.Orders.{address}
use Rattle.deck_punch.specs.Dense.{repair, digits_on_card}
use Rattle.deck_punch.proofs.DenseTexts.{field_digits, field_text, punched_length}
use Rattle.deck_punch.proofs.dense.several_card.Goals as goal

pub card-requires : goal.card-requires
card-requires c =
    let ds = c.args.digits.now in
    let low = c.args.from in
    let a = ap length c.address.ensures ∙ length-append c.new-columns.result (map object_char (address (low + (length ds - 1)) [])) in
    let r = repair low ds in
    let b = ap length c.put_right.ensures ∙ length-append c.address.new.self (map object_char (address r.at (r.digit ∷ []))) in
    let pad = replicate (69 - length ds) (unflagged_digit 0) in
    let z = ap length c.zeros.ensures ∙ length-append c.put_right.new.columns (map object_char pad) in
    let f = ap length (c.punch.ensures low) ∙ length-append c.zeros.new.self (map object_char (digits_on_card low ds)) in
    omega (arith, a, b, z, f, length-map pad object_char, length-replicate (69 - length ds) (unflagged_digit 0), length-map (digits_on_card low ds) object_char, punched_length low ds, ap length c.new-columns.ensures, c.requires.most)

pub returns : goal.returns
returns c =
    let ds = c.args.digits.now in
    let low = c.args.from in
    let text = field_text (low + (length ds - 1)) (repair low ds) (replicate (69 - length ds) (unflagged_digit 0)) (digits_on_card low ds) in
    let is = field_digits low ds (low + (length ds - 1)) c.requires.some refl in
    rw (is, ← text) (rw (c.card.ensures, c.punch.ensures low, c.zeros.ensures, c.put_right.ensures, c.address.ensures, c.new-columns.ensures) refl)
