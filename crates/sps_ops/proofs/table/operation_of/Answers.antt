use Rattle.std.proofs.Common.{◌∙◌, sym}
use Rattle.sps_ops.proofs.Names.{nothing_unnamed}
use Rattle.sps_ops.proofs.table.operation_of.Goals as goal

pub returns-then-is_empty : goal.returns-then-is_empty
returns-then-is_empty c = sym (nothing_unnamed c.args.name.now (sym c.is_empty.ensures ∙ c.if-is_empty.true))
