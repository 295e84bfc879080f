use Rattle.std.proofs.Common.{◌≡◌, drop, map}
use Rattle.line_words.specs.Rows.{value_by_name, row_from_table}
use Rattle.line_words.proofs.rows.find.Given as goal

abbrev pub invariant-loop-text : goal.invariant-loop-text
invariant-loop-text g l = value_by_name (map row_from_table (drop l.text-index l.rows)) l.name ≡ value_by_name (map row_from_table l.rows) l.name
