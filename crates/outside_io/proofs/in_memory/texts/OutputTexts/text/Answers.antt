use Rattle.std.proofs.Common.{◌<◌, length, sym, ap, ◌∙◌, arith}
use Rattle.outside_io.specs.Texts.{output_at}
use Rattle.outside_io.proofs.UntoldHosts.{given_below}
use Rattle.outside_io.proofs.TextLemmas.{text_at-get}
use Rattle.outside_io.proofs.in_memory.texts.OutputTexts.text.Goals as goal

pub index-requires : goal.index-requires
index-requires c = omega (arith, given_below _ _ c.place-place.ensures.place, c.args.self.now.units)

pub returns : goal.returns
returns c =
    let os = c.args.self.now.outputs.items in
    let p = c.place-place.result in
    let within : p < length os = omega (arith, given_below _ _ c.place-place.ensures.place, c.args.self.now.units) in
    c.deref.ensures.value ∙ sym (text_at-get os p c.index.result.now within c.index.ensures) ∙ ap (output_at os) c.place-place.ensures.place
