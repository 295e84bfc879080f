-- A cell that can't be read, and one that can.
use Rattle.std.proofs.Common.{sym, ◌∙◌, arith}
use Rattle.cpu_step.proofs.CheckParts.{unread_past, unread_here, unread_on, unread_over}
use Rattle.cpu_step.proofs.checks.first_unread.Goals as goal

pub returns-then-a-size : goal.returns-then-a-size
returns-then-a-size g c = sym (unread_past c.args.core.now c.args.a (omega arith))

pub returns-in-Err : goal.returns-in-Err
returns-in-Err g c = sym (unread_here _ _ _ c.loop-k-test.true _ (sym c.in-Err.ensures.is)) ∙ c.loop-k.invariant

pub loop-k-preserved : goal.loop-k-preserved
loop-k-preserved g c = sym (unread_on _ _ _ c.loop-k-test.true _ (sym c.in-Ok.ensures.is)) ∙ c.loop-k.invariant

pub returns : goal.returns
returns g c = sym (unread_over _ _ _ c.loop-k-test.false (omega arith)) ∙ c.loop-k.invariant
