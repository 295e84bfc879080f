-- What a script means, and what reading it gives.
use Rattle.std.specs.Prelude.{ℕ, ◌≡◌, ◌≤◌, ◌<◌, ⊤, List, drop, length, Result, Ok, Err}
use Rattle.operator_script.specs.declared.script.Due.{Due}
use Rattle.operator_script.specs.declared.script.Due.TheVariants as due
use Rattle.operator_script.specs.declared.script.Action.{Action}
use Rattle.operator_script.specs.declared.script.Action.TheVariants as action
use Rattle.operator_script.specs.declared.script.ScriptLine.{ScriptLine}
use Rattle.operator_script.specs.declared.script.Script.{Script}
use Rattle.operator_script.specs.declared.script.ScriptFault.{ScriptFault}
use Rattle.operator_script.specs.declared.script.ScriptFault.TheVariants as fault
use Rattle.operator_script.specs.Script.{script_of}
use Rattle.line_words.specs.Words.{largest_number}
use Rattle.operator_script.specs.declared.lines.LineFault.{LineFault}
use Rattle.operator_script.specs.declared.lines.LineFault.TheVariants as lines

-- the lines that have not acted yet
abbrev pub lines_left : Script → List ScriptLine
lines_left script = drop script.front script.lines.items

-- at least one line has not acted yet
abbrev pub HasFront : Script → Type 0
HasFront script = script.front < length script.lines.items

-- a line in the ranges of the grammar, for a core of `positions` positions: a number of at most 15 digits, one of the four
-- program switches, and one of the six bits of a cell of core
abbrev pub IsDue : Due → Type 0
IsDue (due.At n) = n ≤ largest_number
IsDue due.Halt = ⊤

abbrev pub IsAction : ℕ → Action → Type 0
IsAction positions (action.Switch k on) = (1 ≤ k) × (k ≤ 4)
IsAction positions (action.Flip at bit) = (at < positions) × (bit ≤ 5)
IsAction positions other = ⊤

abbrev pub IsLine : ℕ → ScriptLine → Type 0
IsLine positions line = IsDue line.due × IsAction positions line.action

-- the reading of a script: the lines in the bytes, or their first bad line, or no memory
abbrev pub ReadsAsScript : ℕ → List ℕ → Result Script ScriptFault → Type 0
ReadsAsScript positions bytes (Ok script) = script_of positions bytes ≡ Ok (lines_left script)
ReadsAsScript positions bytes (Err (fault.BadLine line)) = script_of positions bytes ≡ Err line
ReadsAsScript positions bytes (Err fault.Memory) = ⊤

-- the error of a script, from the error of its lines
abbrev pub script_fault_of : LineFault → ScriptFault
script_fault_of (lines.BadLine line) = fault.BadLine line
script_fault_of lines.Memory = fault.Memory
