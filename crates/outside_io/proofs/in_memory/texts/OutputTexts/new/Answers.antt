use Rattle.std.proofs.Common.{ℕ, arith, length-append, get_or, [], ◌∷◌, ap, ◌∙◌, sym}
use Rattle.outside_io.specs.declared.host.Unit.TheVariants.{Source}
use Rattle.outside_io.specs.World.{all_units, place}
use Rattle.outside_io.specs.Rooms.{unit_room}
use Rattle.outside_io.specs.Texts.{whole_room, spare_room}
use Rattle.outside_io.proofs.UntoldHosts.{place_below}
use Rattle.outside_io.proofs.TextLemmas.{no_text-push, measure-push}
use Rattle.outside_io.proofs.Units.{unit_at-place}
use Rattle.outside_io.proofs.in_memory.texts.OutputTexts.new.Goals as goal

pub loop-unit-preserved : goal.loop-unit-preserved
loop-unit-preserved c =
    let was = c.loop-unit.invariant in
    let more = length-append c.loop-unit.outputs.items (c.in_ok-new.field-0 ∷ []) in
    let size : ℕ → ℕ = λ k. unit_room c.args.room (get_or all_units k Source) in
    let here = c.unit_room.ensures ∙ ap size (sym was.count) in
    rw c.in_ok-push.ensures.items (record {
      count = omega (arith, more);
      text = no_text-push _ _ was.text c.in_ok-new.ensures.text;
      room = λ k within. measure-push whole_room c.loop-unit.outputs.items c.in_ok-new.field-0 size was.room (c.in_ok-new.ensures.room ∙ here) k (omega (arith, more));
      spare = λ k within. measure-push spare_room c.loop-unit.outputs.items c.in_ok-new.field-0 size was.spare (c.in_ok-new.ensures.spare ∙ here) k (omega (arith, more));
    })

pub returns : goal.returns
returns c = record {
  text = λ u. c.loop-unit.invariant.text (place u);
  room = λ u. c.loop-unit.invariant.room (place u) (omega (arith, place_below u)) ∙ ap (unit_room c.args.room) (unit_at-place u Source);
  spare = λ u. c.loop-unit.invariant.spare (place u) (omega (arith, place_below u)) ∙ ap (unit_room c.args.room) (unit_at-place u Source);
}
