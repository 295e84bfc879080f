use Rattle.std.proofs.Common.{◌≡◌, ◌≤◌, ◌+◌, ◌++◌, take, map}
use Rattle.arrayvec.specs.ArrayString.{array_string_len}
use Rattle.messages.specs.Console.{cell_char}
use Rattle.messages.proofs.console.push_cells.Given as goal

abbrev pub invariant-loop-cell : goal.invariant-loop-cell
invariant-loop-cell l = record {
  bytes : l.line.bytes ≡ l.fn.line.bytes ++ map cell_char (take l.cell-index l.cell-items);
  len : array_string_len l.line ≤ array_string_len l.fn.line + l.cell-index;
}
