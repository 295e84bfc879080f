use Rattle.std.proofs.Common.{◌<◌, ℕ, List, length, sym, ap, ◌∙◌, arith}
use Rattle.std.specs.Prelude.{if◌then◌else◌}
use Rattle.outside_io.specs.World.{place, same_unit}
use Rattle.outside_io.specs.Texts.{output_at, whole_room, spare_room}
use Rattle.outside_io.proofs.UntoldHosts.{place_below}
use Rattle.outside_io.proofs.TextLemmas.{text_at-set, measure-set_same, measure-get}
use Rattle.outside_io.proofs.in_memory.texts.OutputTexts.clear.Goals as goal

pub returns : goal.returns
returns c =
    let old = c.args.self.now.outputs.items in
    let p = c.place-place.result in
    let o = c.index_mut-output.result.now in
    let within : p < length old = omega (arith, place_below c.args.unit, c.args.self.now.units) in
    let within_u : place c.args.unit < length old = omega (arith, place_below c.args.unit, c.args.self.now.units) in
    record {
      text = λ v. text_at-set old c.args.unit v p c.clear.new.self c.place-place.ensures.place within_u
          ∙ ap (λ (t : List ℕ). if same_unit c.args.unit v then t else output_at old (place v)) c.clear.ensures.text;
      room = λ v. measure-set_same whole_room old p (place v) c.clear.new.self (c.clear.ensures.room ∙ sym (measure-get whole_room old p o within c.index_mut-output.ensures.value));
      spare = λ v. measure-set_same spare_room old p (place v) c.clear.new.self (c.clear.ensures.spare ∙ sym (measure-get spare_room old p o within c.index_mut-output.ensures.value));
    }
