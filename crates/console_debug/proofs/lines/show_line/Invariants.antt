-- The bytes so far are the first of the address's text, and then that text and the first cells.
use Rattle.std.proofs.Common.{◌≡◌, ◌≤◌, ◌+◌, ◌-◌, ◌++◌, ◌∷◌, [], length, take, drop, map}
use Rattle.digit_core.specs.Cell.{read_cell}
use Rattle.report_lines.specs.Numbers.{digits_to_width}
use Rattle.console_debug.specs.Lines.{shown_cell}
use Rattle.console_debug.proofs.lines.show_line.Given as goal

abbrev pub invariant-loop-byte : goal.invariant-loop-byte
invariant-loop-byte g l = l.line.items ≡ take l.byte-index l.byte-items

abbrev pub invariant-loop-address : goal.invariant-loop-address
invariant-loop-address g l = record {
  few : length l.line.items ≤ 11 + (l.address - l.at);
  cells : l.line.items ≡ (digits_to_width 5 l.at ++ 32 ∷ []) ++ map (λ cell. shown_cell (read_cell cell)) (take (l.address - l.at) (drop l.at l.core));
}
