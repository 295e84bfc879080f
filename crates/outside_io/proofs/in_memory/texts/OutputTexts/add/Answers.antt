use Rattle.std.proofs.Common.{◌≡◌, ◌-◌, ◌<◌, ℕ, List, length, take, ◌++◌, refl, sym, ap, ◌∙◌, arith}
use Rattle.std.specs.Prelude.{if◌then◌else◌, ◌==◌}
use Rattle.outside_io.specs.World.{place, same_unit}
use Rattle.outside_io.specs.Texts.{output_at, measure_at, whole_room, spare_room, unit_text, spare_of}
use Rattle.outside_io.proofs.UntoldHosts.{place_below}
use Rattle.outside_io.proofs.TextLemmas.{text_at-set, text_at-get, measure-set, measure-set_same, measure-get, grown, lowered}
use Rattle.outside_io.proofs.in_memory.texts.OutputTexts.add.Goals as goal

pub returns : goal.returns
returns c =
    let old = c.args.self.now.outputs.items in
    let p = c.place-place.result in
    let o = c.index_mut-output.result.now in
    let more = take c.add.result c.args.piece.now in
    let within : p < length old = omega (arith, place_below c.args.unit, c.args.self.now.units) in
    let within_u : place c.args.unit < length old = omega (arith, place_below c.args.unit, c.args.self.now.units) in
    let text_here : output_at old (place c.args.unit) ≡ o.text.items = ap (λ (k : ℕ). output_at old k) (sym c.place-place.ensures.place) ∙ text_at-get old p o within c.index_mut-output.ensures.value in
    let room_here = measure-get whole_room old p o within c.index_mut-output.ensures.value in
    let spare_here : measure_at spare_room old (place c.args.unit) ≡ o.spare = ap (λ (k : ℕ). measure_at spare_room old k) (sym c.place-place.ensures.place) ∙ measure-get spare_room old p o within c.index_mut-output.ensures.value in
    record {
      fits = c.add.ensures.fits;
      full = c.add.ensures.full ∙ ap (λ (n : ℕ). n == 0) (sym spare_here);
      text = λ v. text_at-set old c.args.unit v p c.add.new.self c.place-place.ensures.place within_u
          ∙ ap (λ (t : List ℕ). if same_unit c.args.unit v then t else output_at old (place v)) (c.add.ensures.text ∙ ap (λ (t : List ℕ). t ++ more) (sym text_here))
          ∙ grown c.args.unit v (unit_text c.args.self.now) more (same_unit c.args.unit v) refl;
      room = λ v. measure-set_same whole_room old p (place v) c.add.new.self (c.add.ensures.room ∙ sym room_here);
      spare = λ v. measure-set spare_room old c.args.unit v p c.add.new.self c.place-place.ensures.place within_u
          ∙ ap (λ (n : ℕ). if same_unit c.args.unit v then n else measure_at spare_room old (place v)) (c.add.ensures.spare ∙ ap (λ (n : ℕ). n - c.add.result) (sym spare_here))
          ∙ lowered c.args.unit v (spare_of c.args.self.now) c.add.result (same_unit c.args.unit v) refl;
    }
