-- What a session does to a machine, its script, its breakpoints and its host.
use Rattle.std.specs.Prelude.{ℕ, ◌≡◌, Bool, false, ◌||◌, All, List, ◌∷◌, ◌++◌, drop, Some, IfSome}
use Rattle.digit_core.specs.Size.{size}
use Rattle.outside_io.specs.declared.host.Unit as unit
use Rattle.outside_io.specs.declared.host.Unit.TheVariants as units
use Rattle.outside_io.specs.World.{World, Seen, Rose, same_unit}
use Rattle.outside_io.specs.Events.{Event, cards_in, lines_in, IsFirstPart, DidAll}
use Rattle.cpu_step.specs.declared.machine.Machine.{Machine}
use Rattle.cpu_step.specs.Machine.{is_faulted, is_written, FramesBut}
use Rattle.operator_script.specs.declared.script.Script.{Script}
use Rattle.operator_script.specs.Scripts.{IsLine, lines_left}
use Rattle.operator_script.specs.Turn.{RunPlace, IsCutTurn}
use Rattle.operator_script.specs.Run.{Moment, moment, place_in}
use Rattle.sps_pass_two.specs.Assembled.{PlacedText}
use Rattle.console_debug.specs.declared.commands.DebugCommand.{DebugCommand}
use Rattle.console_debug.specs.declared.debugger.SessionEnd.{SessionEnd}
use Rattle.console_debug.specs.declared.debugger.SessionEnd.TheVariants as end
use Rattle.console_debug.specs.Session.{Course, Act, PrintsLine, MakesTurn, Session, nth_place, session_of, at_first, place_as_seen, place_of_session, act_events, session_events, turns_in}

-- the units that a session writes: the machine's units, and Report
abbrev pub is_said : unit.Unit → Bool
is_said u = is_written u || same_unit units.Report u

-- what stays as it was over a session, which may also write on Report
abbrev pub Attends : (m : ℕ) → Machine m → Machine m → Seen → Seen → Type 0
Attends m old new before after = FramesBut is_said m old new before after

-- a moment is at the session's place, with its breakpoints, and all that the session does outside was done; the cards and keyboard lines of
-- the first place are left, without the taken ones
pub record StandsBy (m : ℕ) (c : Course) (x : Moment m) (breaks : List ℕ) (before : World) (s : Session) : Type 0 where
  pub place : place_in m x ≡ Some (place_of_session c s)
  pub breaks_are : breaks ≡ s.breaks
  pub did : DidAll (session_events c s.acts) before x.seen.world
  pub cards : (place_of_session c s).state.hopper ≡ drop (cards_in (session_events c s.acts)) c.first.state.hopper
  pub lines : (place_of_session c s).state.keys ≡ drop (lines_in (session_events c s.acts)) c.first.state.keys

-- the place of the machine and its units within an act, after `turns` turns: within a line, the machine is at the line's place, and
-- all outside is as the turns left it; within a turn, a part of the turn is done
abbrev pub IsWithinAct : Course → ℕ → Act → RunPlace → Type 0
IsWithinAct c turns (PrintsLine at text) place = place ≡ place_as_seen (nth_place c at) (nth_place c turns)
IsWithinAct c turns (MakesTurn from) place = IsCutTurn c.limit (nth_place c from) place

-- ONE MOMENT within a list of acts: the first of them are done, and a part of the next. The machine, its cards and lines, the script, and
-- all that was printed, punched, typed and written belong to that moment. The cards and keyboard lines of the first place are left, without
-- the ones that were taken so far.
pub record StandsWithin (m : ℕ) (c : Course) (x : Moment m) (before : World) (acts : List Act) : Type 0 where
  pub done : List Act
  pub next : Act
  pub rest : List Act
  pub parts : done ++ next ∷ rest ≡ acts
  pub place : RunPlace
  pub place_is : place_in m x ≡ Some place
  pub within : IsWithinAct c (turns_in done) next place
  pub part : List Event
  pub first : IsFirstPart part (act_events c next)
  pub did : DidAll (session_events c done ++ part) before x.seen.world
  pub cards : place.state.hopper ≡ drop (cards_in (session_events c done ++ part)) c.first.state.hopper
  pub lines : place.state.keys ≡ drop (lines_in (session_events c done ++ part)) c.first.state.keys

-- the task of a session: the limit of steps, the placed statements, and the commands
pub record SessionTask : Type 0 where
  pub limit : ℕ
  pub placed : List PlacedText
  pub commands : List DebugCommand

abbrev pub task : ℕ → List PlacedText → List DebugCommand → SessionTask
task limit placed commands = record { limit = limit; placed = placed; commands = commands }

-- the course of its session, from the first place of a run on
abbrev pub course_of : SessionTask → RunPlace → Course
course_of t first = record { limit = t.limit; placed = t.placed; first = first }

-- its whole session
abbrev pub whole_session : SessionTask → RunPlace → Session
whole_session t first = session_of t.commands (course_of t first) at_first

-- a moment without its count of steps
pub record Uncounted (m : ℕ) : Type 0 where
  pub machine : Machine m
  pub script : Script
  pub seen : Seen

abbrev pub without_count : (m : ℕ) → Machine m → Script → Seen → Uncounted m
without_count m machine script seen = record { machine = machine; script = script; seen = seen }

abbrev pub with_count : (m : ℕ) → Uncounted m → ℕ → Moment m
with_count m x steps = moment m x.machine x.script steps x.seen

-- a session that came to its end: if the host reveals the first place, the commands were carried out from there
pub record EndsSession (m : ℕ) (t : SessionTask) (old : Moment m) (new : Uncounted m) (breaks : List ℕ) : Type 0 where
  pub steps : ℕ
  pub told : IfSome (place_in m old)
      (λ first. StandsBy m (course_of t first) (with_count m new steps) breaks old.seen.world (whole_session t first))
  pub sound : is_faulted new.machine.mode ≡ false
  pub lines : All (IsLine (size m)) (lines_left new.script)
  pub frames : Attends m old.at.machine new.machine old.seen new.seen

-- the host failed within a session, in one of its acts; its breakpoints are left open
pub record BreaksSession (m : ℕ) (t : SessionTask) (old : Moment m) (new : Uncounted m) : Type 0 where
  pub steps : ℕ
  pub told : IfSome (place_in m old)
      (λ first. StandsWithin m (course_of t first) (with_count m new steps) old.seen.world (whole_session t first).acts)
  pub rose : Rose old.seen.faults new.seen.faults
  pub frames : Attends m old.at.machine new.machine old.seen new.seen

-- WHAT `session` DOES
abbrev pub Debugs : (m : ℕ) → SessionTask → Moment m → Uncounted m → List ℕ → SessionEnd → Type 0
Debugs m t old new breaks end.Ended = EndsSession m t old new breaks
Debugs m t old new breaks end.Failed = BreaksSession m t old new
