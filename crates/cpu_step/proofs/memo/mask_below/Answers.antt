-- The mask has all bits of the cells below number j.
use Rattle.cpu_step.proofs.MemoEntries.{up_to_named, up_to_others}
use Rattle.cpu_step.proofs.memo.mask_below.Goals as goal

pub returns-clause-named : goal.returns-clause-named
returns-clause-named c = λ i below. up_to_named c.args.j c.requires i below

pub returns-clause-others : goal.returns-clause-others
returns-clause-others c = λ i past high. up_to_others c.args.j c.requires i past
