-- Ten cells of two words are tested at once.
use Rattle.feature_ops.proofs.Flags.{both_olds, both_five}
use Rattle.feature_ops.proofs.fives.both_are_good.Goals as goal

pub returns-clause-olds : goal.returns-clause-olds
returns-clause-olds c = λ h. both_olds c.args.olds c.args.five c.requires.olds c.requires.five (c.are_good.ensures.yes h)

pub returns-clause-five : goal.returns-clause-five
returns-clause-five c = λ h. both_five c.args.olds c.args.five c.requires.olds c.requires.five (c.are_good.ensures.yes h)
