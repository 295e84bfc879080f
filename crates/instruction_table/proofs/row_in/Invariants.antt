use Rattle.std.proofs.Common.{◌≡◌, drop, map}
use Rattle.instruction_table.specs.Table.{row_in}
use Rattle.instruction_table.proofs.row_in.Given as goal

abbrev pub invariant-loop-row : goal.invariant-loop-row
invariant-loop-row l = row_in (map (λ r. r.1) (drop l.row-index l.rows)) l.code ≡ row_in (map (λ r. r.1) l.rows) l.code
