-- How the operator's script and the debugger's commands are read.
use Rattle.std.proofs.Common.{◌≡◌, ◌≤◌, ℕ, false, List, length, ap, arith}
use Rattle.std.proofs.lemmas.Bool.Decides.{nat_tests}
use Rattle.std.specs.Prelude.{Result, Ok, nat_lt}
use Rattle.digit_core.specs.Size.{size}
use Rattle.outside_io.specs.declared.host.Unit.TheVariants as units
use Rattle.operator_script.specs.declared.script.ScriptLine.{ScriptLine}
use Rattle.operator_script.specs.Script.{script_of}
use Rattle.console_debug.specs.declared.commands.DebugCommand.{DebugCommand}
use Rattle.console_debug.specs.Grammar.{commands_of}
use Rattle.outside_io.specs.World.{Seen}
use Rattle.ibm1620_cli.specs.declared.status.Status.{Status}
use Rattle.ibm1620_cli.specs.Reading.{text_read}
use Rattle.ibm1620_cli.specs.LoadJob.{lines_or_status, longest_script, script_read}
use Rattle.ibm1620_cli.specs.Parts.{TakesFrom, Unread}
use Rattle.ibm1620_cli.proofs.Readings.{takes_on, unread_on}
use Rattle.ibm1620_cli.specs.DebugJob.{commands_or_status, longest_commands, commands_read}

-- how a short script is read
pub short_read : (m : ℕ) (script : List ℕ) (r : Result (List ScriptLine) ℕ) → length script ≤ longest_script → script_of (size m) script ≡ r → (script_read m) script ≡ lines_or_status r
unfolding script_read
short_read m script r short is =
    let test : nat_lt longest_script (length script) ≡ false = grind (arith, nat_tests) in
    rw test (ap lines_or_status is)

-- what is read of a script, and of commands, by what their grammars say of their bytes
pub script_takes : (m : ℕ) (start later : Seen) (bytes : List ℕ) (r : Result (List ScriptLine) ℕ) → TakesFrom units.Script start later (λ text. text_read longest_script units.Script text ≡ Ok bytes) → script_of (size m) bytes ≡ r → TakesFrom units.Script start later (λ text. script_read m text ≡ lines_or_status r)
unfolding script_read
script_takes m start later bytes r takes is = takes_on longest_script units.Script (λ text. lines_or_status (script_of (size m) text)) (lines_or_status r) start later bytes takes (ap lines_or_status is)

pub script_unread : (m : ℕ) (start later : Seen) (s : Status) → Unread units.Script (text_read longest_script units.Script) start later s → Unread units.Script (script_read m) start later s
unfolding script_read
script_unread m start later s none = unread_on longest_script units.Script (λ text. lines_or_status (script_of (size m) text)) start later s none

pub commands_takes : (m : ℕ) (start later : Seen) (bytes : List ℕ) (r : Result (List DebugCommand) ℕ) → TakesFrom units.Commands start later (λ text. text_read longest_commands units.Commands text ≡ Ok bytes) → commands_of (size m) bytes ≡ r → TakesFrom units.Commands start later (λ text. commands_read m text ≡ commands_or_status r)
unfolding commands_read
commands_takes m start later bytes r takes is = takes_on longest_commands units.Commands (λ text. commands_or_status (commands_of (size m) text)) (commands_or_status r) start later bytes takes (ap commands_or_status is)

pub commands_unread : (m : ℕ) (start later : Seen) (s : Status) → Unread units.Commands (text_read longest_commands units.Commands) start later s → Unread units.Commands (commands_read m) start later s
unfolding commands_read
commands_unread m start later s none = unread_on longest_commands units.Commands (λ text. commands_or_status (commands_of (size m) text)) start later s none
