use Rattle.std.proofs.Common.{ap, ◌∙◌, refl}
use Rattle.std.specs.Prelude.{Option}
use Rattle.clap.specs.Words.{Text, first_of, found_of, rows_of}
use Rattle.clap.proofs.WalkLemmas.{first_value-rows}
use Rattle.command_line.specs.Matched.{values_found, with_found}
use Rattle.command_line.proofs.Maps.{filled_all, filled_none, found_more, texts_in}
use Rattle.command_line.proofs.matched.values_found.Goals as goal

pub loop-place-init : goal.loop-place-init
loop-place-init c = (c.new-values.ensures ∙ filled_none (values_found (rows_of (found_of c.args.matches.now))), c.new-values.result.whole)

pub loop-place-preserved : goal.loop-place-preserved
loop-place-preserved c =
    let slot = c.slot_at-slot.result in
    let found = found_of c.args.matches.now in
    let values = values_found (rows_of found) in (
      c.with_found-values.ensures
          ∙ ap (λ (o : Option Text). with_found slot o (texts_in c.loop-place.values.0)) (c.get_str.ensures ∙ first_value-rows found _ ∙ ap (λ (t : Text). first_of t (rows_of found)) c.word.ensures)
          ∙ ap (with_found slot (values slot)) c.loop-place.invariant.0
          ∙ found_more values c.loop-place.place slot (values slot) c.slot_at-slot.ensures refl,
      c.with_found-values.result.whole,
    )

pub returns : goal.returns
returns c = c.loop-place.invariant.0 ∙ filled_all _ _ c.loop-place-test.false
