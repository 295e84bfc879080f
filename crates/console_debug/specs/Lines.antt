-- The lines that a debugger prints, and the line of a run's end.
use Rattle.std.specs.Prelude.{ℕ, List, [], ◌++◌, take, drop, map, codes, unwrap_or, Result, Ok, Err}
use Rattle.digit_core.specs.Cell.{read_cell}
use Rattle.digit_core.specs.declared.Digit.{Digit}
use Rattle.digit_core.specs.declared.CellFault.{CellFault}
use Rattle.card_code.specs.Characters.{object_char}
use Rattle.operator_script.specs.declared.turns.Ending.{Ending}
use Rattle.operator_script.specs.declared.turns.Ending.TheVariants as ending
use Rattle.sps_pass_two.specs.Assembled.{PlacedText}
use Rattle.outside_io.specs.Lines.{with_line_feed}
use Rattle.report_lines.specs.Numbers.{digits_to_width, at_count, at_steps}
use Rattle.report_lines.specs.Endings.{halt_line, check_line, limit_line, need_cards_line, need_keys_line, jam_line}
use Rattle.sps_listing.specs.Listing.{statement_at}

-- THE LINE OF AN ENDING, after `steps` steps; a fault of the host has no line
abbrev pub ending_line : Ending → ℕ → List ℕ
ending_line (ending.Halted at) steps = halt_line at steps
ending_line (ending.Stopped kind at) steps = check_line kind at steps
ending_line ending.Limit steps = limit_line steps
ending_line (ending.NeedCards at) steps = need_cards_line at steps
ending_line (ending.NeedKeys at) steps = need_keys_line at steps
ending_line (ending.Jam u line) steps = jam_line u line
ending_line ending.Failed steps = []

-- the line of STEP before the instruction at an address is executed, after `steps` steps
abbrev pub at_line : ℕ → ℕ → List ℕ
at_line at steps = codes "AT " ++ at_steps at steps

-- the number of the last instruction at an address, or 0 without an instruction
abbrev pub statement_number : List PlacedText → ℕ → ℕ
statement_number placed at = unwrap_or (statement_at placed at) 0

-- the line of a breakpoint at an address: its statement, the address, and the steps so far
abbrev pub break_line : List PlacedText → ℕ → ℕ → List ℕ
break_line placed at steps = codes "BREAK " ++ digits_to_width 5 (statement_number placed at) ++ codes " " ++ at_steps at steps

-- the line of a statement that is no instruction
abbrev pub no_statement_line : ℕ → List ℕ
no_statement_line s = codes "NO STATEMENT " ++ at_count s

-- the line of a BACK over n places that is not possible
abbrev pub no_back_line : ℕ → List ℕ
no_back_line n = codes "NO BACK " ++ at_count n

-- a cell as an object character; a bad cell is `?`
abbrev pub shown_cell : Result Digit CellFault → ℕ
shown_cell (Ok d) = object_char d
shown_cell (Err fault) = 63

-- some cells from an address on
abbrev pub shown_cells : List ℕ → ℕ → ℕ → List ℕ
shown_cells core at count = map (λ cell. shown_cell (read_cell cell)) (take count (drop at core))

-- the line of some cells from an address on
abbrev pub show_line : List ℕ → ℕ → ℕ → List ℕ
show_line core at count = digits_to_width 5 at ++ codes " " ++ with_line_feed (shown_cells core at count)
