-- The mask has all bits of the cells from number j on.
use Rattle.cpu_step.proofs.MemoEntries.{from_named, from_others}
use Rattle.cpu_step.proofs.memo.mask_from.Goals as goal

pub returns-clause-named : goal.returns-clause-named
returns-clause-named c = λ i low high. from_named c.args.j c.requires i low high

pub returns-clause-others : goal.returns-clause-others
returns-clause-others c = λ i below. from_others c.args.j c.requires i below
