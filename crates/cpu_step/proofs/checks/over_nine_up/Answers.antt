-- A digit over 9, one that isn't, and the end of the digits.
use Rattle.std.proofs.Common.{sym, ◌∙◌}
use Rattle.cpu_step.proofs.CheckParts.{up_found, up_on, up_over}
use Rattle.cpu_step.proofs.checks.over_nine_up.Goals as goal

pub returns-then-is_over_nine : goal.returns-then-is_over_nine
returns-then-is_over_nine g c = sym (up_found _ _ _ _ c.loop-k-test.true (sym c.is_over_nine.ensures ∙ c.if-is_over_nine.true)) ∙ c.loop-k.invariant

pub loop-k-preserved : goal.loop-k-preserved
loop-k-preserved g c = sym (up_on _ _ _ _ c.loop-k-test.true (sym c.is_over_nine.ensures ∙ c.if-is_over_nine.false)) ∙ c.loop-k.invariant

pub returns : goal.returns
returns g c = sym (up_over _ _ _ _ c.loop-k-test.false) ∙ c.loop-k.invariant
