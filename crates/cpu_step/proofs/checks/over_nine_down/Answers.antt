-- A digit over 9, one that isn't, and the end of the digits.
use Rattle.std.proofs.Common.{sym, ◌∙◌, arith}
use Rattle.cpu_step.proofs.CheckParts.{down_found, down_on, down_over}
use Rattle.cpu_step.proofs.checks.over_nine_down.Goals as goal

pub returns-then-is_over_nine : goal.returns-then-is_over_nine
returns-then-is_over_nine g c = sym (down_found _ _ _ _ c.loop-k-test.true (omega arith) (sym c.is_over_nine.ensures ∙ c.if-is_over_nine.true)) ∙ c.loop-k.invariant

pub loop-k-preserved : goal.loop-k-preserved
loop-k-preserved g c = sym (down_on _ _ _ _ c.loop-k-test.true (omega arith) (sym c.is_over_nine.ensures ∙ c.if-is_over_nine.false)) ∙ c.loop-k.invariant

pub returns : goal.returns
returns g c = sym (down_over _ _ _ _ c.loop-k-test.false) ∙ c.loop-k.invariant
