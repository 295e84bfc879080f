-- A session: the commands one after another, over the numbered places of a run.
use Rattle.std.specs.Prelude.{ℕ, zero, suc, Bool, true, false, not, ◌+◌, ◌-◌, ◌==◌, ◌&&◌, nat_le, nat_lt, max, List, [], ◌∷◌, ◌++◌, length, Option, Some, None, if◌then◌else◌}
use Rattle.std.specs.List.{filter}
use Rattle.outside_io.specs.declared.host.Unit.TheVariants as units
use Rattle.outside_io.specs.Events.{Event, text_events}
use Rattle.operator_script.specs.Turn.{RunPlace, ending_of, last_within}
use Rattle.operator_script.specs.TurnEvents.{turn_events}
use Rattle.sps_pass_two.specs.Assembled.{PlacedText}
use Rattle.rewind_log.specs.Kept.{most_places}
use Rattle.console_debug.specs.declared.commands.DebugCommand.{DebugCommand}
use Rattle.console_debug.specs.declared.commands.DebugCommand.TheVariants as command
use Rattle.console_debug.specs.Lines.{ending_line, at_line, break_line, no_statement_line, no_back_line, show_line}
use Rattle.console_debug.specs.Places.{Reached, later, is_instruction_at, turns_to_stop, turns_to_step}

-- the course of a session: the places of a run from the first on, under a limit, and the placed statements
pub record Course : Type 0 where
  pub limit : ℕ
  pub placed : List PlacedText
  pub first : RunPlace

-- the place with number n; the first place has number 0, and a number after the last gives the last place
abbrev pub nth_place : Course → ℕ → RunPlace
nth_place c n = last_within c.limit n c.first

-- the places after the place with number n
abbrev pub places_ahead : Course → ℕ → List Reached
places_ahead c n = later c.limit (nth_place c n)

-- an act of a session: it prints a line while the machine is at the place with this number, or it makes the turn from there
pub data Act : Type 0 where
  PrintsLine : (at : ℕ) (text : List ℕ) → Act
  MakesTurn : (from : ℕ) → Act

-- a session: the numbers of its current place and of the furthest place reached, its breakpoints, and all its acts, in order
pub record Session : Type 0 where
  pub at : ℕ
  pub furthest : ℕ
  pub breaks : List ℕ
  pub acts : List Act

abbrev pub says : List ℕ → Session → Session
says line s = record s { acts = s.acts ++ PrintsLine s.at line ∷ [] }

-- k turns, one after another; the first turn leads on from the place with number n
unfoldable pub turns_from : ℕ → ℕ → List Act
turns_from n zero = []
turns_from n (suc k) = MakesTurn n ∷ turns_from (suc n) k

-- on to the place with number n: the turns after the furthest place are made; the earlier turns are not made again
abbrev pub goes_to : ℕ → Session → Session
goes_to n s = record s {
  at = n;
  furthest = max s.furthest n;
  acts = s.acts ++ turns_from s.furthest (n - s.furthest);
}

-- the AT line of a place
abbrev pub place_line : RunPlace → List ℕ
place_line p = at_line p.state.regs.ir p.steps

-- the line of the ending of the run's last place
abbrev pub end_line : RunPlace → List ℕ
end_line p = ending_line (ending_of p.state) p.steps

-- to the end of the run, and the line of the ending
abbrev pub to_end : Course → Session → Session
to_end c s =
    let last = s.at + length (places_ahead c s.at) in
    says (end_line (nth_place c last)) (goes_to last s)

-- GO: to the next stop, or to the end if no stop follows
abbrev pub to_stop : Course → Session → Option ℕ → Session
to_stop c s None = to_end c s
to_stop c s (Some turns) =
    let p = nth_place c (s.at + turns) in
    says (break_line c.placed p.state.regs.ir p.steps) (goes_to (s.at + turns) s)

abbrev pub go : Course → Session → Session
go c s = to_stop c s (turns_to_stop c.placed s.breaks (places_ahead c s.at))

-- to the place of a step, the line of the place, and on to the next place
abbrev pub session_after_step : Course → Session → ℕ → Session
session_after_step c s turns =
    goes_to (s.at + turns + 1) (says (place_line (nth_place c (s.at + turns))) (goes_to (s.at + turns) s))

-- STEP n: the next step, n times, or to the end if no step follows
unfoldable pub steps : ℕ → Course → Session → Session
steps zero c s = s
steps (suc n) c s = elim (turns_to_step (places_ahead c s.at)) [
  | None ↦ to_end c s
  | Some turns ↦ steps n c (session_after_step c s turns)
]

-- the place with a number is kept: it is the furthest, or one of the 1,000 before it
abbrev pub is_kept : Session → ℕ → Bool
is_kept s n = nat_lt (s.furthest - n) most_places

-- BACK n: n places back, if there are that many and the place is kept
abbrev pub back : ℕ → Course → Session → Session
back n c s =
    if nat_le n s.at && is_kept s (s.at - n)
    then says (place_line (nth_place c (s.at - n))) (record s { at = s.at - n })
    else says (no_back_line n) s

-- the breakpoints with one more, of a statement, and without all breakpoints of a statement
abbrev pub with_break : ℕ → List ℕ → List ℕ
with_break n breaks = breaks ++ n ∷ []

abbrev pub without_break : ℕ → List ℕ → List ℕ
without_break n breaks = filter (λ b. not (b == n)) breaks

-- BREAK s
abbrev pub set_break : List PlacedText → ℕ → Session → Session
set_break placed n s =
    if is_instruction_at placed n then record s { breaks = with_break n s.breaks }
    else says (no_statement_line n) s

-- CLEAR s
abbrev pub clear_break : List PlacedText → ℕ → Session → Session
clear_break placed n s =
    if is_instruction_at placed n then record s { breaks = without_break n s.breaks }
    else says (no_statement_line n) s

-- SHOW a n
abbrev pub show : ℕ → ℕ → Course → Session → Session
show from count c s = says (show_line (nth_place c s.at).state.core from count) s

-- WHAT A COMMAND DOES
unfoldable pub session_after : DebugCommand → Course → Session → Session
session_after command.Go c s = go c s
session_after (command.Step n) c s = steps n c s
session_after (command.Back n) c s = back n c s
session_after (command.Break n) c s = set_break c.placed n s
session_after (command.Clear n) c s = clear_break c.placed n s
session_after (command.Show from count) c s = show from count c s
session_after command.Quit c s = s

abbrev pub is_quit : DebugCommand → Bool
is_quit command.Quit = true
is_quit other = false

-- THE SESSION: one command after another, up to a QUIT
unfoldable pub session_of : List DebugCommand → Course → Session → Session
session_of [] c s = s
session_of (x ∷ xs) c s = if is_quit x then s else session_of xs c (session_after x c s)

-- before the first command: at the first place, no breakpoint is set, and nothing is done
abbrev pub at_first : Session
at_first = record { at = 0; furthest = 0; breaks = []; acts = [] }

-- WHAT A SESSION SHOWS: inside the machine, its current place; outside, the furthest place that it has reached. The outside is the
-- cards and keyboard lines that are left, the script, the texts and the sectors.
abbrev pub place_as_seen : RunPlace → RunPlace → RunPlace
place_as_seen at furthest = record {
  state = record furthest.state {
    core = at.state.core;
    regs = at.state.regs;
    panel = at.state.panel;
    arms = at.state.arms;
    mode = at.state.mode;
  };
  steps = at.steps;
  script = furthest.script;
}

abbrev pub place_of_session : Course → Session → RunPlace
place_of_session c s = place_as_seen (nth_place c s.at) (nth_place c s.furthest)

-- What a session does outside, in order: the bytes of its lines on Report, the bytes and sectors that its turns write, and the cards and
-- lines of Keys that its turns take.

abbrev pub act_events : Course → Act → List Event
act_events c (PrintsLine at text) = text_events units.Report text
act_events c (MakesTurn from) = turn_events c.limit (nth_place c from)

abbrev pub session_events : Course → List Act → List Event
session_events c [] = []
session_events c (a ∷ acts) = act_events c a ++ session_events c acts

-- how many of some acts are turns
abbrev pub turns_in : List Act → ℕ
turns_in [] = 0
turns_in (PrintsLine at text ∷ acts) = turns_in acts
turns_in (MakesTurn from ∷ acts) = suc (turns_in acts)
