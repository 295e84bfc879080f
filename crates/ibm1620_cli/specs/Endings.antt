-- How a trial and a session end, whatever the host reveals of the input of the machine.
use Rattle.std.specs.Prelude.{ℕ, ◌≡◌, ◌≢◌, ◌⊎◌, Bool, true, false, List, Some, None, Ok}
use Rattle.outside_io.specs.declared.host.Unit.TheVariants as units
use Rattle.outside_io.specs.World.{World, Seen}
use Rattle.digit_core.specs.Size.{size}
use Rattle.operator_script.specs.declared.script.ScriptLine.{ScriptLine}
use Rattle.console_debug.specs.declared.commands.DebugCommand as commands
use Rattle.sps_pass_two.specs.Broken.{refusal_of}
use Rattle.command_line.specs.declared.words.Command.TheVariants.{Debug, Trial}
use Rattle.command_line.specs.Words.{WordsSaid, plain}
use Rattle.ibm1620_cli.specs.declared.status.Status.{Status}
use Rattle.ibm1620_cli.specs.declared.status.Status.TheVariants.{Refused, SessionEnded, HostFault, OutOfMemory}
use Rattle.ibm1620_cli.specs.Binding.{all_bound}
use Rattle.ibm1620_cli.specs.Turns.{ends_a_run}
use Rattle.ibm1620_cli.specs.Source.{source_read}
use Rattle.ibm1620_cli.specs.LoadJob.{script_read}
use Rattle.ibm1620_cli.specs.DebugJob.{commands_read}
use Rattle.ibm1620_cli.specs.Job.{modules_of}

-- a trial: the words say `trial`; its source is made from the words alone
pub record SaidTrial (words : List (List ℕ)) : Type 0 where
  pub said : WordsSaid
  pub said_is : plain words ≡ Some said
  pub command : said.command ≡ Trial

-- a statement of the source breaks a rule
abbrev pub is_refused : Status → Bool
is_refused (Refused statement rule) = true
is_refused answer = false

-- A trial whose status is neither `HostFault` nor `OutOfMemory` ends in one of the six ways of a run, or its source is refused.
abbrev pub TrialEnds : List (List ℕ) → Seen → Seen → Status → Type 0
TrialEnds words old new answer =
    SaidTrial words → answer ≢ HostFault → answer ≢ OutOfMemory
    → (ends_a_run answer ≡ true) ⊎ (is_refused answer ≡ true)

-- a sound session: the words say `debug`; its script, its commands and its source are read, and no statement of the source breaks
-- a rule. The host reveals their bytes.
pub record SoundSession (words : List (List ℕ)) (w : World) : Type 0 where
  pub said : WordsSaid
  pub said_is : plain words ≡ Some said
  pub command : said.command ≡ Debug
  pub script : List ℕ
  pub script_is : (all_bound said.names w).left units.Script ≡ Some script
  pub lines : List ScriptLine
  pub lines_are : script_read (modules_of said.core) script ≡ Ok lines
  pub text : List ℕ
  pub text_is : (all_bound said.names w).left units.Commands ≡ Some text
  pub commands : List commands.DebugCommand
  pub commands_are : commands_read (modules_of said.core) text ≡ Ok commands
  pub source : List ℕ
  pub source_is : (all_bound said.names w).left units.Source ≡ Some source
  pub source_fits : source_read source ≡ Ok source
  pub unbroken : refusal_of (size (modules_of said.core)) source ≡ None

-- A sound session whose status is neither `HostFault` nor `OutOfMemory` ends with the status `SessionEnded`.
abbrev pub SessionEnds : List (List ℕ) → Seen → Seen → Status → Type 0
SessionEnds words old new answer =
    SoundSession words old.world → answer ≢ HostFault → answer ≢ OutOfMemory → answer ≡ SessionEnded
