-- What the commands of a session do to its cursor, its breakpoints and its host.
use Rattle.std.specs.Prelude.{ℕ, ◌≡◌, ◌+◌, Bool, true, false, List, drop, vec_len, Option, Some, None}
use Rattle.outside_io.specs.declared.host.Unit.TheVariants as units
use Rattle.outside_io.specs.declared.whole.Sent.{Sent}
use Rattle.outside_io.specs.declared.whole.Sent.TheVariants as sent
use Rattle.outside_io.specs.World.{World, Seen, Rose}
use Rattle.outside_io.specs.Whole.{Sends}
use Rattle.outside_io.specs.Events.{cards_in, lines_in, DidAll}
use Rattle.operator_script.specs.Run.{Moment, moment_at}
use Rattle.sps_listing.specs.Listing.{placed_texts}
use Rattle.sps_pass_two.specs.Assembled.{PlacedText}
use Rattle.console_debug.specs.declared.debugger.Debugger.{Debugger}
use Rattle.console_debug.specs.Breakpoints.{HasTables, HasRoomIn, set_now}
use Rattle.console_debug.specs.Lines.{no_statement_line}
use Rattle.console_debug.specs.Places.{is_instruction_at}
use Rattle.console_debug.specs.Session.{Course, Session, nth_place, says, goes_to, place_line, session_events, steps, turns_in}
use Rattle.console_debug.specs.CursorStates.{CursorState, cursor_state_of, IsSameCursor, IsOn, IsFit}
use Rattle.console_debug.specs.Debugs.{Attends, StandsWithin}

-- all that a command works on: the cursor state, and the breakpoints that are set
pub record DebuggerState (m : ℕ) : Type 0 where
  pub cursor_state : CursorState m
  pub breaks : List ℕ

abbrev pub debugger_state : (m : ℕ) → CursorState m → List ℕ → DebuggerState m
debugger_state m x breaks = record { cursor_state = x; breaks = breaks }

-- the debugger state of a debugger
abbrev pub debugger_state_of : (m : ℕ) → Debugger m → Seen → DebuggerState m
debugger_state_of m d seen = debugger_state m (cursor_state_of m d.cursor seen) (set_now d.breaks.now)

-- one debugger at two of its moments: over the same run, the same kept places, statements and breakpoints
abbrev pub IsSameDebugger : (m : ℕ) → Debugger m → Debugger m → Type 0
IsSameDebugger m old new =
    IsSameCursor m old.cursor new.cursor × (new.assembled.now ≡ old.assembled.now)
    × (new.breaks.ghost_name ≡ old.breaks.ghost_name)

-- a debugger that can carry out commands that set at most n breakpoints
pub record IsReadyFor (m n : ℕ) (d : Debugger m) (seen : Seen) : Type 0 where
  pub fit : IsFit m d.cursor.run.limit (cursor_state_of m d.cursor seen)
  pub tables : HasTables (placed_texts d.assembled.now) d.breaks.now
  pub room : HasRoomIn (vec_len d.breaks.now.log + n) d.breaks.now

-- the moment of a debugger state
abbrev pub moment_of : (m : ℕ) → DebuggerState m → Moment m
moment_of m x = moment_at m x.cursor_state.at x.cursor_state.seen

-- a debugger state belongs to a session over a course, which began in a world; the cards and keyboard lines of the first place are left,
-- without the ones that were taken so far
pub record StandsIn (m : ℕ) (c : Course) (x : DebuggerState m) (start : World) (s : Session) : Type 0 where
  pub on_it : IsOn m c s.at s.furthest x.cursor_state
  pub breaks_are : x.breaks ≡ s.breaks
  pub turns : turns_in s.acts ≡ s.furthest
  pub did : DidAll (session_events c s.acts) start x.cursor_state.seen.world
  pub cards : (nth_place c s.furthest).state.hopper ≡ drop (cards_in (session_events c s.acts)) c.first.state.hopper
  pub lines : (nth_place c s.furthest).state.keys ≡ drop (lines_in (session_events c s.acts)) c.first.state.keys

-- a debugger state belongs to a moment within the acts of a session, which began in a world
abbrev pub StopsIn : (m : ℕ) → Course → DebuggerState m → World → Session → Type 0
StopsIn m c x start s = StandsWithin m c (moment_of m x) start s.acts

-- a course over these statements, under this limit
pub record IsCourseOver (limit : ℕ) (placed : List PlacedText) (c : Course) : Type 0 where
  pub limit_is : c.limit ≡ limit
  pub placed_is : c.placed ≡ placed

-- over each course with this limit and these statements, a session became the session that f gives
pub record Does (m limit : ℕ) (placed : List PlacedText) (f : Course → Session → Session) (old new : DebuggerState m) : Type 0 where
  pub told : (c : Course) → IsCourseOver limit placed c → (start : World) (s : Session)
      → StandsIn m c old start s → StandsIn m c new start (f c s)
  pub fit : IsFit m limit new.cursor_state
  pub frames : Attends m old.cursor_state.at.machine new.cursor_state.at.machine old.cursor_state.seen new.cursor_state.seen

-- the host failed on the way to that session
pub record FailsInPart (m limit : ℕ) (placed : List PlacedText) (f : Course → Session → Session) (old new : DebuggerState m) : Type 0 where
  pub told : (c : Course) → IsCourseOver limit placed c → (start : World) (s : Session)
      → StandsIn m c old start s → StopsIn m c new start (f c s)
  pub rose : Rose old.cursor_state.seen.faults new.cursor_state.seen.faults
  pub frames : Attends m old.cursor_state.at.machine new.cursor_state.at.machine old.cursor_state.seen new.cursor_state.seen

-- a part of a session was carried out
abbrev pub CarriesPart : (m limit : ℕ) → List PlacedText → (Course → Session → Session) → DebuggerState m → DebuggerState m → Sent → Type 0
CarriesPart m limit placed f old new sent.Done = Does m limit placed f old new
CarriesPart m limit placed f old new sent.Failed = FailsInPart m limit placed f old new

-- a part of what f does to a session is done, and g is left to do
pub record PartsUnderway (m limit : ℕ) (placed : List PlacedText) (f g : Course → Session → Session) (first now : DebuggerState m) : Type 0 where
  pub told : (c : Course) → IsCourseOver limit placed c → (start : World) (s : Session) → StandsIn m c first start s → (t : Session) × StandsIn m c now start t × (f c s ≡ g c t)
  pub fit : IsFit m limit now.cursor_state
  pub frames : Attends m first.cursor_state.at.machine now.cursor_state.at.machine first.cursor_state.seen now.cursor_state.seen

-- `count` steps over kept places: how many of them are left, or the host failed
abbrev pub StepsOver : (m limit : ℕ) → List PlacedText → ℕ → DebuggerState m → DebuggerState m → Option ℕ → Type 0
StepsOver m limit placed count old new (Some left) = PartsUnderway m limit placed (steps count) (steps left) old new
StepsOver m limit placed count old new None = FailsInPart m limit placed (steps count) old new

-- The move of a step.

-- the line of the place is printed, and the session goes on by one place
abbrev pub step_on : Course → Session → Session
step_on c s = goes_to (s.at + 1) (says (place_line (nth_place c s.at)) s)

-- What BREAK and CLEAR do to the breakpoints, and to the host.

-- the breakpoints that are set, and what the host has seen
pub record Marks : Type 0 where
  pub breaks : List ℕ
  pub seen : Seen

abbrev pub marks : List ℕ → Seen → Marks
marks breaks seen = record { breaks = breaks; seen = seen }

-- if the statement is an instruction, the breakpoints change by `change`; if not, its line is printed
abbrev pub SetsIf : Bool → ℕ → (List ℕ → List ℕ) → Marks → Marks → Sent → Type 0
SetsIf true n change old new how = (new.breaks ≡ change old.breaks) × (new.seen ≡ old.seen) × (how ≡ sent.Done)
SetsIf false n change old new how =
    (new.breaks ≡ old.breaks) × Sends old.seen new.seen units.Report (no_statement_line n) how

abbrev pub Sets : List PlacedText → ℕ → (List ℕ → List ℕ) → Marks → Marks → Sent → Type 0
Sets placed n change old new how = SetsIf (is_instruction_at placed n) n change old new how
