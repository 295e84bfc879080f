-- The place of a session among the places of a run, and the effect of a move to the next place.
use Rattle.std.specs.Prelude.{ℕ, suc, Bool, ◌≡◌, ◌+◌, ◌-◌, ◌*◌, ◌<◌, ◌≤◌, ◌⊎◌, true, false, max, All, List, length, slice_get, Option, Some, None, IfSome, option_map}
use Rattle.digit_core.specs.Mixed.{AgreeOutside}
use Rattle.digit_core.specs.Size.{size}
use Rattle.outside_io.specs.World.{Seen, Rose}
use Rattle.cpu_step.specs.declared.machine.Machine.{Machine}
use Rattle.cpu_step.specs.Machine.{is_faulted, Frames}
use Rattle.cpu_step.specs.Stores.{ShowsTheSame}
use Rattle.operator_script.specs.declared.script.Script.{Script}
use Rattle.operator_script.specs.declared.turns.Ending.{Ending}
use Rattle.operator_script.specs.declared.turns.Ending.TheVariants as ending
use Rattle.operator_script.specs.declared.turns.TurnEnd.{TurnEnd}
use Rattle.operator_script.specs.declared.turns.TurnEnd.TheVariants as end
use Rattle.operator_script.specs.Scripts.{IsLine, lines_left}
use Rattle.operator_script.specs.Turn.{RunPlace, Turning, Acted, Stepped, Ended, turn, is_step, place_after, IsCutTurn, ending_at}
use Rattle.operator_script.specs.Run.{RunState, run_state, standing_of, IsSameRun, place_of}
use Rattle.sps_pass_two.specs.Assembled.{PlacedText}
use Rattle.rewind_log.specs.Kept.{Kept, machine_at, newest, most_places}
use Rattle.console_debug.specs.declared.walking.Cursor.{Cursor}
use Rattle.console_debug.specs.Places.{Reached, turns_to_stop, turns_to_step}
use Rattle.console_debug.specs.Session.{Course, nth_place, places_ahead, place_as_seen}

-- the machine with its script and its count of steps, the kept places, how many of them come after the machine's place,
-- and what the host has seen
pub record CursorState (m : ℕ) : Type 0 where
  pub at : RunState m
  pub kept : List Kept
  pub behind : ℕ
  pub seen : Seen

abbrev pub cursor_state_at : (m : ℕ) → RunState m → List Kept → ℕ → Seen → CursorState m
cursor_state_at m x kept behind seen = record { at = x; kept = kept; behind = behind; seen = seen }

abbrev pub cursor_state : (m : ℕ) → Machine m → Script → ℕ → List Kept → ℕ → Seen → CursorState m
cursor_state m machine script steps kept behind seen = cursor_state_at m (run_state m machine script steps) kept behind seen

-- the cursor state of a cursor
abbrev pub cursor_state_of : (m : ℕ) → Cursor m → Seen → CursorState m
cursor_state_of m x seen = cursor_state_at m (standing_of m x.run) x.rewind.now x.behind seen

-- one cursor at two of its moments: over the same run and the same kept places
abbrev pub IsSameCursor : (m : ℕ) → Cursor m → Cursor m → Type 0
IsSameCursor m old new = IsSameRun m old.run new.run × (new.rewind.ghost_name ≡ old.rewind.ghost_name)

-- one cursor at two of its moments: its script and its kept places are unchanged
abbrev pub KeepsScriptAndPlaces : (m : ℕ) → Cursor m → Cursor m → Type 0
KeepsScriptAndPlaces m old new =
    IsSameCursor m old new × (new.run.script.now ≡ old.run.script.now) × (new.rewind.now ≡ old.rewind.now)

-- a place as it is kept
abbrev pub kept_at_place : RunPlace → Kept
kept_at_place p = record {
  core = p.state.core;
  regs = p.state.regs;
  panel = p.state.panel;
  arms = p.state.arms;
  mode = p.state.mode;
  steps = p.steps;
}

-- all places up to the furthest are kept, or the last `most_places` of them
abbrev pub AreAllOrLast : ℕ → ℕ → Type 0
AreAllOrLast furthest count = (count ≡ suc furthest) ⊎ ((count ≡ most_places) × (most_places ≤ suc furthest))

-- a cursor state is at the place with number n of a course, and the furthest place has number f
pub record IsOn (m : ℕ) (c : Course) (n f : ℕ) (x : CursorState m) : Type 0 where
  pub told : place_of m x.at x.seen.world ≡ Some (place_as_seen (nth_place c n) (nth_place c f))
  pub reached : place_after c.limit f c.first ≡ Some (nth_place c f)
  pub number : f ≡ n + x.behind
  pub count : AreAllOrLast f (length x.kept)
  pub kept : (i : ℕ) → i < length x.kept
      → slice_get x.kept i ≡ Some (kept_at_place (nth_place c (suc f - length x.kept + i)))

-- a kept place from which the run can go on
pub record IsFitPlace (limit : ℕ) (k : Kept) : Type 0 where
  pub within : k.steps ≤ limit
  pub sound : is_faulted k.mode ≡ false

-- the count of steps of the newest place
abbrev pub newest_count : List Kept → ℕ
newest_count ks = elim (newest ks) [ None ↦ 0 | Some k ↦ k.steps ]

-- whatever the host reveals: the run can go on from here, and from each kept place
pub record IsFit (m limit : ℕ) (x : CursorState m) : Type 0 where
  pub within : x.at.steps ≤ limit
  pub sound : is_faulted x.at.machine.mode ≡ false
  pub lines : All (IsLine (size m)) (lines_left x.at.script)
  pub few : x.behind < length x.kept
  pub most : length x.kept ≤ most_places
  pub kept : All (IsFitPlace limit) x.kept
  pub tip : x.behind ≡ 0 → newest_count x.kept ≡ x.at.steps
  pub core : x.behind ≡ 0 → IfSome (newest x.kept) (λ k. k.core ≡ x.at.machine.core)

-- how many moves are left at most
abbrev pub moves_left : (m : ℕ) → ℕ → CursorState m → ℕ
moves_left m limit x = x.behind + ((limit - newest_count x.kept) + length (lines_left x.at.script))

-- it moved on by one place, by a turn of this kind
pub record MovesOn (m limit : ℕ) (leads : RunPlace → Turning) (old new : CursorState m) : Type 0 where
  pub told : (c : Course) (n f : ℕ) → c.limit ≡ limit → IsOn m c n f old
      → (turn limit (nth_place c n) ≡ leads (nth_place c (suc n))) × IsOn m c (suc n) (max f (suc n)) new
  pub fit : IsFit m limit new
  pub frames : Frames m old.at.machine new.at.machine old.seen new.seen
  pub fewer : suc (moves_left m limit new) ≤ moves_left m limit old

-- a cursor state with this machine
abbrev pub with_machine : (m : ℕ) → CursorState m → Machine m → CursorState m
with_machine m x machine = record x { at = record x.at { machine = machine } }

-- the run is over, and nothing that the machine shows has changed
pub record StaysOn (m limit : ℕ) (how : Ending) (old new : CursorState m) : Type 0 where
  pub told : (c : Course) (n f : ℕ) → c.limit ≡ limit → IsOn m c n f old → turn limit (nth_place c n) ≡ Ended how
  pub shows : ShowsTheSame m old.at.machine new.at.machine
  pub same : new ≡ with_machine m old new.at.machine
  pub ending : how ≡ ending_at new.at.machine.mode new.at.machine.regs.ir

-- the host failed in a turn from the furthest place, which was the current place
pub record BreaksOn (m limit : ℕ) (old new : CursorState m) : Type 0 where
  pub told : (c : Course) (n f : ℕ) → c.limit ≡ limit → IsOn m c n f old
      → (n ≡ f) × ((q : RunPlace) × (place_of m new.at new.seen.world ≡ Some q) × IsCutTurn limit (nth_place c f) q)
  pub within : new.at.steps ≤ limit
  pub rose : Rose old.seen.faults new.seen.faults
  pub frames : Frames m old.at.machine new.at.machine old.seen new.seen

-- WHAT A MOVE BY ONE PLACE DOES
abbrev pub Advances : (m limit : ℕ) → CursorState m → CursorState m → TurnEnd → Type 0
Advances m limit old new end.Acted = MovesOn m limit Acted old new
Advances m limit old new end.Stepped = MovesOn m limit Stepped old new
Advances m limit old new (end.Ended ending.Failed) = BreaksOn m limit old new
Advances m limit old new (end.Ended how) = StaysOn m limit how old new

-- it went k places back
pub record GoesBack (m limit k : ℕ) (old new : CursorState m) : Type 0 where
  pub told : (c : Course) (n f : ℕ) → c.limit ≡ limit → IsOn m c n f old
      → (k ≤ n) × (f - (n - k) < most_places) × IsOn m c (n - k) f new
  pub fit : IsFit m limit new
  pub frames : Frames m old.at.machine new.at.machine old.seen new.seen

-- the place k places back does not exist or is not kept, and nothing changed
pub record StaysThere (m limit k : ℕ) (old new : CursorState m) : Type 0 where
  pub told : (c : Course) (n f : ℕ) → c.limit ≡ limit → IsOn m c n f old → k ≤ n → most_places ≤ f - (n - k)
  pub same : new ≡ old

-- WHAT BACK DOES
abbrev pub Backs : (m limit k : ℕ) → CursorState m → CursorState m → Bool → Type 0
Backs m limit k old new true = GoesBack m limit k old new
Backs m limit k old new false = StaysThere m limit k old new

-- the machine was brought to a kept place
pub record IsAtKept (m : ℕ) (old new : Machine m) (count : ℕ) (k : Kept) : Type 0 where
  pub machine : new ≡ machine_at m k old
  pub count_is : count ≡ k.steps

-- it is at the place with `behind` kept places after it: it stayed there, or was brought there
abbrev pub IsThere : (m : ℕ) → CursorState m → Machine m → ℕ → ℕ → Type 0
IsThere m old machine steps behind =
    ((behind ≡ old.behind) × (machine ≡ old.at.machine) × (steps ≡ old.at.steps))
    ⊎ ((behind < old.behind) × IfSome (slice_get old.kept (length old.kept - 1 - behind)) (IsAtKept m old.at.machine machine steps))

-- whether a step comes next from the current place
abbrev pub IsStepAhead : (m limit : ℕ) → CursorState m → Bool → Type 0
IsStepAhead m limit x answer =
    (c : Course) (n f : ℕ) → c.limit ≡ limit → IsOn m c n f x → is_step (turn limit (nth_place c n)) ≡ answer

-- the words of core from number `from` on and below number `to` exist, and no cell outside them has changed
pub record AreStoredWords (m : ℕ) (before after : List ℕ) (from to : ℕ) : Type 0 where
  pub order : from ≤ to
  pub room : to ≤ m * 2000
  pub outside : AgreeOutside before after (10 * from) (10 * to)

-- Moves to a target among the places ahead, or to the end of the run; `turns_to` gives the number of turns to the target.

-- it moved on by `turns` turns
abbrev pub IsLed : (m : ℕ) → Course → ℕ → ℕ → ℕ → CursorState m → Type 0
IsLed m c n f turns new = IsOn m c (n + turns) (max f (n + turns)) new

pub record ToTheEnd (m limit : ℕ) (turns_to : List Reached → Option ℕ) (how : Ending) (old new : CursorState m) : Type 0 where
  pub told : (c : Course) (n f : ℕ) → c.limit ≡ limit → IsOn m c n f old
      → (turns_to (places_ahead c n) ≡ None) × IsLed m c n f (length (places_ahead c n)) new
  pub ending : how ≡ ending_at new.at.machine.mode new.at.machine.regs.ir
  pub fit : IsFit m limit new
  pub frames : Frames m old.at.machine new.at.machine old.seen new.seen

-- the number of turns to the target, or of all turns without a target
abbrev pub turns_or_all : Option ℕ → ℕ → ℕ
turns_or_all None all = all
turns_or_all (Some turns) all = turns

-- the host failed in one of the turns to the target or to the end
pub record BreaksOnTheWay (m limit : ℕ) (turns_to : List Reached → Option ℕ) (old new : CursorState m) : Type 0 where
  pub told : (c : Course) (n f : ℕ) → c.limit ≡ limit → IsOn m c n f old
      → (turns : ℕ) × (turns < turns_or_all (turns_to (places_ahead c n)) (length (places_ahead c n))) × (f ≤ n + turns)
      × ((q : RunPlace) × (place_of m new.at new.seen.world ≡ Some q) × IsCutTurn limit (nth_place c (n + turns)) q)
  pub within : new.at.steps ≤ limit
  pub rose : Rose old.seen.faults new.seen.faults
  pub frames : Frames m old.at.machine new.at.machine old.seen new.seen

-- it moved on by `turns` turns, and not past the target
pub record IsLedOn (m : ℕ) (turns_to : List Reached → Option ℕ) (c : Course) (n f : ℕ) (now : CursorState m) : Type 0 where
  pub turns : ℕ
  pub on_it : IsLed m c n f turns now
  pub ahead : turns_to (places_ahead c n) ≡ option_map (λ k. turns + k) (turns_to (places_ahead c (n + turns)))
  pub all : length (places_ahead c n) ≡ turns + length (places_ahead c (n + turns))

-- it moved on, and not past the target
pub record PassesOn (m limit : ℕ) (turns_to : List Reached → Option ℕ) (first now : CursorState m) : Type 0 where
  pub told : (c : Course) (n f : ℕ) → c.limit ≡ limit → IsOn m c n f first → IsLedOn m turns_to c n f now
  pub fit : IsFit m limit now
  pub frames : Frames m first.at.machine now.at.machine first.seen now.seen

-- Moves to the place of the next step.

pub record ToAStep (m limit : ℕ) (old new : CursorState m) : Type 0 where
  pub told : (c : Course) (n f : ℕ) → c.limit ≡ limit → IsOn m c n f old
      → (turns : ℕ) × (turns_to_step (places_ahead c n) ≡ Some turns) × IsLed m c n f turns new
  pub next : IsStepAhead m limit new true
  pub fit : IsFit m limit new
  pub frames : Frames m old.at.machine new.at.machine old.seen new.seen

-- WHAT THE MOVES TO A STEP DO
abbrev pub ToStep : (m limit : ℕ) → CursorState m → CursorState m → Option Ending → Type 0
ToStep m limit old new None = ToAStep m limit old new
ToStep m limit old new (Some ending.Failed) = BreaksOnTheWay m limit turns_to_step old new
ToStep m limit old new (Some how) = ToTheEnd m limit turns_to_step how old new

-- Moves to the next stop.

pub record ToAStop (m limit : ℕ) (placed : List PlacedText) (breaks : List ℕ) (old new : CursorState m) : Type 0 where
  pub told : (c : Course) (n f : ℕ) → c.limit ≡ limit → IsOn m c n f old
      → (turns : ℕ) × (turns_to_stop placed breaks (places_ahead c n) ≡ Some turns) × IsLed m c n f turns new
  pub fit : IsFit m limit new
  pub frames : Frames m old.at.machine new.at.machine old.seen new.seen

-- WHAT THE MOVES TO A STOP DO
abbrev pub ToStop : (m limit : ℕ) → List PlacedText → List ℕ → CursorState m → CursorState m → Option Ending → Type 0
ToStop m limit placed breaks old new None = ToAStop m limit placed breaks old new
ToStop m limit placed breaks old new (Some ending.Failed) = BreaksOnTheWay m limit (turns_to_stop placed breaks) old new
ToStop m limit placed breaks old new (Some how) = ToTheEnd m limit (turns_to_stop placed breaks) how old new

-- a move over the kept places: to the first stop among them, or on without a stop
abbrev pub ToKeptStop : (m limit : ℕ) → List PlacedText → List ℕ → CursorState m → CursorState m → Bool → Type 0
ToKeptStop m limit placed breaks old new true = ToAStop m limit placed breaks old new
ToKeptStop m limit placed breaks old new false = PassesOn m limit (turns_to_stop placed breaks) old new
