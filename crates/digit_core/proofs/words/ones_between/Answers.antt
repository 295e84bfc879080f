-- Both masks name a cell, or one of them does not.
use Rattle.std.proofs.Common.{true, false, inl, inr, arith}
use Rattle.std.proofs.lemmas.Bool.{cases_lt}
use Rattle.digit_core.proofs.Planes.{masked_one, masked_none}
use Rattle.digit_core.proofs.words.ones_between.Goals as goal

pub returns-clause-named : goal.returns-clause-named
returns-clause-named c = λ i low high. masked_one c.ones_from.result c.ones_below.result i true (c.ones_from.ensures.named i low (omega arith)) (c.ones_below.ensures.named i high)

pub returns-clause-others : goal.returns-clause-others
returns-clause-others c =
    λ i ten out.
    elim (cases_lt i c.args.to) [
      | inl l ↦ masked_one c.ones_from.result c.ones_below.result i false (c.ones_from.ensures.others i (elim out [ inl x ↦ x | inr x ↦ absurd (omega arith) ])) (c.ones_below.ensures.named i l)
      | inr g ↦
          elim (cases_lt i c.args.from) [
            | inl l ↦ masked_none c.ones_from.result c.ones_below.result i false (c.ones_from.ensures.others i l) (c.ones_below.ensures.others i g ten)
            | inr h ↦ masked_none c.ones_from.result c.ones_below.result i true (c.ones_from.ensures.named i h ten) (c.ones_below.ensures.others i g ten)
          ]
    ]
