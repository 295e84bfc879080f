-- The mask has 1 in the cells below number j.
use Rattle.digit_core.proofs.Masks.{below_named, below_others}
use Rattle.digit_core.proofs.words.ones_below.Goals as goal

pub returns-clause-named : goal.returns-clause-named
returns-clause-named c = λ i below. below_named c.args.j c.requires i below

pub returns-clause-others : goal.returns-clause-others
returns-clause-others c = λ i past high. below_others c.args.j c.requires i past
