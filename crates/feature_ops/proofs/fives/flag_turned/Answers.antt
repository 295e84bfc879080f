-- The lowest cell, and those above it.
use Rattle.feature_ops.proofs.Flags.{turned_lowest, turned_others}
use Rattle.feature_ops.proofs.fives.flag_turned.Goals as goal

pub returns-clause-lowest : goal.returns-clause-lowest
returns-clause-lowest c = turned_lowest c.args.w c.requires

pub returns-clause-others : goal.returns-clause-others
returns-clause-others c = turned_others c.args.w c.requires
