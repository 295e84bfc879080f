-- A fetched instruction lies in core.
use Rattle.std.proofs.Common.{lit<}
use Rattle.branch_ops.proofs.RowLemmas.{in_core}
use Rattle.branch_ops.proofs.rows.branch.Goals as goal

pub carry_out-requires : goal.carry_out-requires
carry_out-requires g c = (lit< tt, (in_core _ _ _ _ c.size_law.ensures.length c.requires.fetched, c.requires.fetched))
