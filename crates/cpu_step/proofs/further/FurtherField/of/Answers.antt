-- The masks name the field's five cells, so it comes to the same in each core that has them.
use Rattle.std.proofs.Common.{◌∙◌, sym, refl, arith}
use Rattle.cpu_step.proofs.FurtherCells.{named_of, both_name, leads_there}
use Rattle.cpu_step.proofs.further.FurtherField.of.Goals as goal

pub invariant_of-result : goal.invariant_of-result
invariant_of-result g c =
    let here = c.args.core.now in
    let end = c.saturating_sub-high_end.ensures in
    let room = c.requires.field in
    let inside = c.requires.in_core in
    record {
      word_is = omega arith;
      field_is = λ four other long low high.
          leads_there here other (long ∙ sym c.size_law.ensures.length) c.args.u _ _ four refl refl _ _ _ _
          (λ j first last few. both_name _ _ j (c.mask_from.ensures.named j first few) (c.mask_below.ensures.named j (omega arith)))
          (λ j last. c.mask_below-high_mask.ensures.named j (omega arith))
          (named_of here _ c.word.result _ _ c.word.ensures.cells refl)
          (named_of here _ c.word-2.result _ _ c.word-2.ensures.cells refl)
          low high c.args.number c.args.flagged c.requires.leads;
    }
