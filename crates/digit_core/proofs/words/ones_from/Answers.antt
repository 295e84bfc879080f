-- The mask has 1 in the cells from number j on.
use Rattle.digit_core.proofs.Masks.{from_named, from_others}
use Rattle.digit_core.proofs.words.ones_from.Goals as goal

pub returns-clause-named : goal.returns-clause-named
returns-clause-named c = λ i low high. from_named c.args.j i low high

pub returns-clause-others : goal.returns-clause-others
returns-clause-others c = λ i below. from_others c.args.j i c.requires below
