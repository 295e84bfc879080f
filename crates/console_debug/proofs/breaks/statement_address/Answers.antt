-- A statement is found by its number.
use Rattle.std.proofs.Common.{◌≡◌, map, suc, sym, ◌∙◌, ap, arith}
use Rattle.sps_pass_two.specs.Making.{text_of_placed}
use Rattle.sps_listing.specs.Listing.{placed_texts}
use Rattle.console_debug.specs.Places.{statement_address}
use Rattle.console_debug.proofs.StatementNumbers.{no_number, past_all, address_at, same_number}
use Rattle.console_debug.proofs.breaks.statement_address.Goals as goal

pub returns-in_err-checked_sub : goal.returns-in_err-checked_sub
returns-in_err-checked_sub c =
    let none : c.args.statement ≡ 0 = omega (arith, c.in_err-checked_sub.ensures) in
    c.from_residual.ensures ∙ sym (ap (statement_address (placed_texts c.args.assembled.now)) none ∙ no_number (placed_texts c.args.assembled.now))

pub returns-in_err-placed : goal.returns-in_err-placed
returns-in_err-placed c =
    let place = same_number c.try_from.result _ _ c.in_ok-place.place c.try_from.ensures c.in_ok-place.ensures.value in
    let next : c.args.statement ≡ suc c.in_ok-place.place = omega (arith, c.in_ok-checked_sub.ensures, place) in
    c.from_residual-in_err-placed.ensures ∙ sym (ap (statement_address (placed_texts c.args.assembled.now)) next ∙ ap (λ ps. statement_address (map text_of_placed ps) (suc c.in_ok-place.place)) (sym c.as_slice.ensures) ∙ past_all c.as_slice.result.now c.in_ok-place.place c.in_err-placed.ensures.lookup.3)

pub returns : goal.returns
returns c =
    let place = same_number c.try_from.result _ _ c.in_ok-place.place c.try_from.ensures c.in_ok-place.ensures.value in
    let next : c.args.statement ≡ suc c.in_ok-place.place = omega (arith, c.in_ok-checked_sub.ensures, place) in
    let lookup = c.in_ok-placed.ensures.lookup in
    let there = address_at c.as_slice.result.now c.in_ok-place.place c.in_ok-placed.placed.now lookup.3.0 lookup.1 in
    c.instruction_address.ensures ∙ sym (ap (statement_address (placed_texts c.args.assembled.now)) next ∙ ap (λ ps. statement_address (map text_of_placed ps) (suc c.in_ok-place.place)) (sym c.as_slice.ensures) ∙ there)
