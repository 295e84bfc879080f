-- The entry knows the instruction, before or once it has learnt it.
use Rattle.cpu_step.proofs.memo.Memo.look.Goals as goal
use Rattle.cpu_step.proofs.memo.Memo.look.Goals.{then-not-is_at, else-not-is_at}

pub returns : goal.returns
returns g c =
    elim c.if-not-is_at.branch [
      | then-not-is_at b ↦ rw b.e-is b.learn.ensures
      | else-not-is_at b ↦ rw b.e-is (c.is_at.ensures b.if-not-is_at.false)
    ]
