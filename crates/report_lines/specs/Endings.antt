-- The lines of a run's end.
use Rattle.std.specs.Prelude.{ℕ, List, ◌++◌, codes}
use Rattle.outside_io.specs.declared.host.Unit as unit
use Rattle.addr_indirect.specs.declared.Stop.{Stop}
use Rattle.addr_indirect.specs.Stops.{stop_number}
use Rattle.report_lines.specs.Numbers.{digits_to_width, at_count, at_steps}
use Rattle.report_lines.specs.Units.{unit_name}

-- the number of a check stop in two digits
abbrev pub check_number : Stop → List ℕ
check_number kind = digits_to_width 2 (stop_number kind)

-- the machine halted at an address
abbrev pub halt_line : ℕ → ℕ → List ℕ
halt_line at steps = codes "HALT " ++ at_steps at steps

-- the instruction at an address stopped the machine
abbrev pub check_line : Stop → ℕ → ℕ → List ℕ
check_line kind at steps = codes "CHECK " ++ check_number kind ++ codes " " ++ at_steps at steps

-- the limit of steps was reached
abbrev pub limit_line : ℕ → List ℕ
limit_line steps = codes "LIMIT STEPS " ++ at_count steps

-- no card was left for the instruction at an address
abbrev pub need_cards_line : ℕ → ℕ → List ℕ
need_cards_line at steps = codes "NEED CARDS " ++ at_steps at steps

-- no line of the keyboard was left for the instruction at an address
abbrev pub need_keys_line : ℕ → ℕ → List ℕ
need_keys_line at steps = codes "NEED KEYS " ++ at_steps at steps

-- a line of a unit, by its number, is too long to be read
abbrev pub jam_line : unit.Unit → ℕ → List ℕ
jam_line u number = codes "JAM " ++ unit_name u ++ codes " " ++ at_count number
