use Rattle.std.proofs.Common.{◌≡◌, ◌-◌, map}
use Rattle.std.specs.List.{range_with_len}
use Rattle.deck_punch.specs.Tables.{table_digit}
use Rattle.deck_punch.proofs.tables.push_table.Given as goal

abbrev pub invariant-loop-a : goal.invariant-loop-a
invariant-loop-a l = l.digits.items ≡ map (table_digit l.image.pieces) (range_with_len 100 (l.a - 100))
