-- The headline over a host in memory, in which no call can fail.
use Rattle.std.specs.Prelude.{ℕ, ◌≡◌, ◌≢◌, ◌<◌, true, List, [], Some}
use Rattle.outside_io.specs.declared.host.Unit as unit
use Rattle.outside_io.specs.World.{Limits, Seen, is_output}
use Rattle.outside_io.specs.Events.{Event, bytes_written}
use Rattle.ibm1620_cli.specs.declared.answer.Answer.{Answer}
use Rattle.ibm1620_cli.specs.declared.status.Status.TheVariants.{OutOfMemory}
use Rattle.ibm1620_cli.specs.Headline.{SoundRun, job_in, DoesProgram}

-- no fault was counted so far, no call is listed to fail, and each output has room for more bytes than these events write on it
pub record HasRoomFor (events : List Event) (old : Seen) : Type 0 where
  pub unfailed : old.faults ≡ 0
  pub limits : Limits
  pub limits_are : old.world.limits ≡ Some limits
  pub unlisted : limits.failing ≡ []
  pub room : (u : unit.Unit) → is_output u ≡ true → bytes_written u events < limits.room u

-- A sound run over a host with room for all that it does, for which memory was found, does the program of its source.
abbrev pub HeadlineOverMemory : List (List ℕ) → Seen → Seen → Answer → Type 0
HeadlineOverMemory words old new answer =
    (r : SoundRun words old.world) → HasRoomFor (job_in r).events old → answer.status ≢ OutOfMemory
    → DoesProgram old r new answer
