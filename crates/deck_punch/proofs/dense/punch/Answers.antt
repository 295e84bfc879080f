-- One digit after another.
use Rattle.std.proofs.Common.{true, ◌∙◌, ◌-◌, ◌∷◌, [], length, drop, take, get_or, refl, sym, ap, arith, append_assoc, length-append, length-drop}
use Rattle.std.proofs.lemmas.List.{append-nil, take_all}
use Rattle.digit_core.specs.Cell.{unflagged_digit}
use Rattle.card_code.specs.Characters.{object_char}
use Rattle.deck_punch.proofs.DenseTexts.{stripped_on, stripped_end, punched_by, room_left, good_behind}
use Rattle.deck_punch.proofs.dense.punch.Goals as goal

pub digit-requires-in-loop-digit-clause-room : goal.digit-requires-in-loop-digit-clause-room
digit-requires-in-loop-digit-clause-room c =
    let ds = c.args.digits.now in
    let items = take (length ds - 1) (drop 1 ds) in
    let left = length-drop 1 ds in
    let all = take_all (length ds - 1) (drop 1 ds) (omega (arith, left)) in
    let room = room_left c.loop-digit.columns c.digit.new.self c.loop-digit.due (get_or ds 0 (unflagged_digit 0)).flag (drop c.loop-digit.digit-index items) (drop 0 items) c.loop-digit.invariant in
    let one = ap length c.digit.ensures ∙ length-append c.args.columns.now (object_char (record { flag = true; value = (get_or ds 0 (unflagged_digit 0)).value }) ∷ []) in
    let rest = length-drop c.loop-digit.digit-index items in
    omega (arith, room, one, rest, left, ap length all, c.loop-digit-test.true, c.requires.room, c.requires.some)

pub digit-requires-in-loop-digit-clause-good : goal.digit-requires-in-loop-digit-clause-good
digit-requires-in-loop-digit-clause-good c =
    let ds = c.args.digits.now in
    let left = length-drop 1 ds in
    let all = take_all (length ds - 1) (drop 1 ds) (omega (arith, left)) in
    let within = rw all at c.loop-digit-test.true in
    rw all (good_behind ds c.loop-digit.digit-index c.requires.good within)

pub loop-digit-preserved : goal.loop-digit-preserved
loop-digit-preserved c =
    let items = take (length c.args.digits.now - 1) (drop 1 c.args.digits.now) in
    let on = stripped_on c.loop-digit.due items c.loop-digit.digit-index c.loop-digit-test.true in
    let inv = rw on at c.loop-digit.invariant in
    rw (c.digit-in-loop-digit.ensures, append_assoc) inv

pub returns : goal.returns
returns c low =
    let ds = c.args.digits.now in
    let items = take (length ds - 1) (drop 1 ds) in
    let left = length-drop 1 ds in
    let all = take_all (length ds - 1) (drop 1 ds) (omega (arith, left)) in
    let end = stripped_end c.loop-digit.due items c.loop-digit.digit-index c.loop-digit-test.false in
    let inv = rw end at c.loop-digit.invariant in
    rw (punched_by low ds c.requires.some) (sym (append-nil c.loop-digit.columns) ∙ inv ∙ rw (c.digit.ensures, append_assoc, all) refl)
