-- What commands mean, and what reading them gives.
use Rattle.std.specs.Prelude.{ℕ, ◌≡◌, ◌+◌, ◌≤◌, ⊤, List, count_by, Result, Ok, Err}
use Rattle.console_debug.specs.declared.commands.DebugCommand.{DebugCommand}
use Rattle.console_debug.specs.declared.commands.DebugCommand.TheVariants as command
use Rattle.console_debug.specs.declared.commands.Commands.{Commands}
use Rattle.console_debug.specs.declared.commands.CommandFault.{CommandFault}
use Rattle.console_debug.specs.declared.commands.CommandFault.TheVariants as fault
use Rattle.console_debug.specs.Breakpoints.{HasRoomIn}
use Rattle.console_debug.specs.Grammar.{commands_of, is_break, most_back, most_shown}
use Rattle.line_words.specs.Words.{largest_number}
use Rattle.operator_script.specs.declared.lines.LineFault.{LineFault}
use Rattle.operator_script.specs.declared.lines.LineFault.TheVariants as lines

-- the commands, in their order
abbrev pub command_list : Commands → List DebugCommand
command_list commands = commands.list.items

-- the statements whose breakpoints are set
abbrev pub breakpoints : Commands → List ℕ
breakpoints commands = commands.breaks.statements.items

-- there is room for the breakpoint of each BREAK, and the tables by statement are long enough
abbrev pub HasBreakRoom : Commands → Type 0
HasBreakRoom commands = HasRoomIn (count_by is_break (command_list commands)) commands.breaks

-- a command in the ranges of the grammar: numbers of at most 15 digits, 1 to 1,000 places, and 1 to 1,000 cells in a core of `positions`
-- positions
abbrev pub IsCommand : ℕ → DebugCommand → Type 0
IsCommand positions (command.Step n) = n ≤ largest_number
IsCommand positions (command.Back n) = (1 ≤ n) × (n ≤ most_back)
IsCommand positions (command.Break s) = s ≤ largest_number
IsCommand positions (command.Clear s) = s ≤ largest_number
IsCommand positions (command.Show at count) = (1 ≤ count) × (count ≤ most_shown) × (at + count ≤ positions)
IsCommand positions other = ⊤

-- the reading of commands: the list in the bytes, or their first bad line, or no memory
abbrev pub ReadsAsCommands : ℕ → List ℕ → Result Commands CommandFault → Type 0
ReadsAsCommands positions bytes (Ok commands) = commands_of positions bytes ≡ Ok (command_list commands)
ReadsAsCommands positions bytes (Err (fault.BadLine line)) = commands_of positions bytes ≡ Err line
ReadsAsCommands positions bytes (Err fault.Memory) = ⊤

-- the error of commands, from the error of their lines
abbrev pub command_fault_of : LineFault → CommandFault
command_fault_of (lines.BadLine line) = fault.BadLine line
command_fault_of lines.Memory = fault.Memory
