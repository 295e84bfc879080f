-- The operation of a row.
use Rattle.sps_ops.proofs.Names.{by_unique, by_declarative}
use Rattle.sps_ops.proofs.table.quick_operation.Goals as goal

pub returns-then-k-unique : goal.returns-then-k-unique
returns-then-k-unique c = rw c.whole.ensures (by_unique c.args.name.now c.in_ok-named.named c.in_ok-named.ensures)

pub returns-then-k-declaratives : goal.returns-then-k-declaratives
returns-then-k-declaratives c = rw c.declared.ensures (by_declarative c.args.name.now c.in_ok-declarative.declarative c.in_ok-declarative.ensures)
