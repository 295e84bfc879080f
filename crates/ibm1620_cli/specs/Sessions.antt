-- The session of a machine that has been set up, and its job.
use Rattle.std.specs.Prelude.{ℕ, Bool, List, ◌++◌, Option, Some, true, false, option_map}
use Rattle.outside_io.specs.Events.{Event}
use Rattle.operator_script.specs.declared.script.ScriptLine.{ScriptLine}
use Rattle.operator_script.specs.Turn.{RunPlace}
use Rattle.sps_pass_two.specs.Assembled.{PlacedText}
use Rattle.console_debug.specs.declared.commands.DebugCommand.{DebugCommand}
use Rattle.console_debug.specs.Session.{Course as SessionCourse, Session, session_of, at_first, place_of_session, session_events}
use Rattle.ibm1620_cli.specs.declared.status.Status.{Status}
use Rattle.ibm1620_cli.specs.declared.status.Status.TheVariants.{SessionEnded}
use Rattle.ibm1620_cli.specs.Report.{report_line}
use Rattle.ibm1620_cli.specs.Ways.{BySession}
use Rattle.ibm1620_cli.specs.Promise.{Job, job_leaving, texts_alone, Promise}
use Rattle.ibm1620_cli.specs.Turns.{LoadedMachine}

-- the inputs of a session: the limit of steps, the operator's script, the placed statements of the source, and the commands
pub record Debugging : Type 0 where
  pub limit : ℕ
  pub lines : List ScriptLine
  pub placed : List PlacedText
  pub commands : List DebugCommand

-- the course of the session, from a place on
abbrev pub course_from : Debugging → RunPlace → SessionCourse
course_from g p = record { limit = g.limit; placed = g.placed; first = p }

-- the session from a place on
abbrev pub session_from : Debugging → RunPlace → Session
session_from g p = session_of g.commands (course_from g p) at_first

-- the job of the session of a machine that was loaded, after all that was done before, with these cards in its reader's pile; it
-- ends at the session's place, and outside the machine all is as at the furthest place that it has reached
abbrev pub session_job : Option (List (List ℕ)) → List Event → Debugging → LoadedMachine → Job
session_job own before g loaded =
    let session = session_from g loaded.first in
    let place = place_of_session (course_from g loaded.first) session in
    job_leaving (Some (record { state = place.state; own = own; pile = loaded.pile; cards = loaded.cards; keys = loaded.keys }))
    (Some (BySession loaded.powered (course_from g loaded.first) session.acts)) SessionEnded (report_line SessionEnded)
    (before ++ (loaded.taken ++ session_events (course_from g loaded.first) session.acts))

-- the status of a session that reached its end
abbrev pub ends_a_session : Status → Bool
ends_a_session SessionEnded = true
ends_a_session other = false

-- THE PROMISE OF A SESSION over a machine that is loaded from the revealed input, after all that was done before; a session
-- reaches its end, whatever the host reveals; if no memory was found, only a first part of the earlier events is done
abbrev pub session_promise : {A : Type 0} → Option (List (List ℕ)) → List Event → Debugging → (A → LoadedMachine) → Option A → Promise
session_promise own before g loaded told = record {
  job = option_map (λ a. session_job own before g (loaded a)) told;
  outline = Some (record { ends = ends_a_session; before = before });
  made = texts_alone (Some before);
  usage = false;
}
