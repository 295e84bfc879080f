use Rattle.std.proofs.Common.{◌≡◌, drop, map}
use Rattle.line_words.specs.Rows.{value_by_name, row_from_table}
use Rattle.sps_ops.specs.Operations.{by_digits}
use Rattle.sps_ops.proofs.table.find_digits.Given as goal

abbrev pub invariant-loop-row : goal.invariant-loop-row
invariant-loop-row l = value_by_name (map by_digits (map row_from_table (drop l.row-index l.rows))) l.name ≡ value_by_name (map by_digits (map row_from_table l.rows)) l.name
