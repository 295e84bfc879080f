-- A session, command by command, and what it comes to.
use Rattle.std.proofs.Common.{◌≡◌, ◌∙◌, ◌≤◌, ◌<◌, ℕ, zero, suc, ◌+◌, ◌-◌, inl, Bool, true, false, All, List, [], ◌∷◌, refl, ap, count_by, arith}
use Rattle.std.proofs.lemmas.List.Sums.{sum_by-cons}
use Rattle.std.specs.Prelude.{Option, Some, None, IfSome, slice_get, if◌then◌else◌}
use Rattle.digit_core.specs.Size.{size}
use Rattle.outside_io.specs.declared.whole.Sent.{Sent}
use Rattle.outside_io.specs.declared.whole.Sent.TheVariants as sent
use Rattle.outside_io.specs.World.{Seen}
use Rattle.outside_io.proofs.EventLemmas.{did_none}
use Rattle.cpu_step.specs.declared.machine.Machine.{Machine}
use Rattle.cpu_step.specs.Machine.{is_faulted}
use Rattle.operator_script.specs.declared.script.Script.{Script}
use Rattle.operator_script.specs.Scripts.{IsLine, lines_left}
use Rattle.operator_script.specs.Turn.{RunPlace, place_after, last_within}
use Rattle.operator_script.specs.Run.{run_state, moment, place_of}
use Rattle.sps_pass_two.specs.Assembled.{PlacedText}
use Rattle.rewind_log.specs.Kept.{Kept, place_of_machine, places_with}
use Rattle.console_debug.specs.declared.commands.DebugCommand.{DebugCommand}
use Rattle.console_debug.specs.Grammar.{is_break}
use Rattle.console_debug.specs.Session.{Course, Session, session_after, is_quit, session_of, at_first}
use Rattle.console_debug.specs.CursorStates.{CursorState, cursor_state, kept_at_place, IsOn, IsFitPlace, IsFit}
use Rattle.console_debug.specs.Carries.{DebuggerState, debugger_state, StandsIn, Does, FailsInPart, CarriesPart, PartsUnderway}
use Rattle.console_debug.specs.Debugs.{task, course_of, without_count, StandsBy, StandsWithin, EndsSession, BreaksSession}
use Rattle.console_debug.proofs.Stepping.{kept_told}
use Rattle.console_debug.proofs.Onward.{session_onward}
use Rattle.console_debug.proofs.DebuggerStates.{begins, goes_on, does_first, ends_with, all_done, fails_first}

-- the commands from one on that is no QUIT
front_of : (x : DebugCommand) (xs left : List DebugCommand) (c : Course) (s : Session) → left ≡ x ∷ xs → is_quit x ≡ false → session_of left c s ≡ session_of xs c (session_after x c s)
unfolding session_of
front_of x xs left c s is other =
    ap (λ (all : List DebugCommand). session_of all c s) is
    ∙ ap (λ (b : Bool). if b then s else session_of xs c (session_after x c s)) other

quit_of : (x : DebugCommand) (xs left : List DebugCommand) (c : Course) (s : Session) → left ≡ x ∷ xs → is_quit x ≡ true → session_of left c s ≡ s
unfolding session_of
quit_of x xs left c s is quits =
    ap (λ (all : List DebugCommand). session_of all c s) is
    ∙ ap (λ (b : Bool). if b then s else session_of xs c (session_after x c s)) quits

none_of : (left : List DebugCommand) (c : Course) (s : Session) → left ≡ [] → session_of left c s ≡ s
unfolding session_of
none_of left c s is = ap (λ (all : List DebugCommand). session_of all c s) is

module _ (m limit : ℕ) (placed : List PlacedText) (f : Course → Session → Session) (first now : DebuggerState m) where
  -- the front command was carried out
  pub command_done : (x : DebugCommand) (xs left : List DebugCommand) (next : DebuggerState m) → left ≡ x ∷ xs → is_quit x ≡ false → PartsUnderway m limit placed f (session_of left) first now
      → Does m limit placed (session_after x) now next → PartsUnderway m limit placed f (session_of xs) first next
  command_done x xs left next is other under does =
      goes_on m limit placed f (session_of left) (session_of xs) first now next under
      (does_first m limit placed (session_of left) (session_of xs) (session_after x) now next (λ c s. front_of x xs left c s is other) does)

  -- the host failed in it
  pub command_failed : (x : DebugCommand) (xs left : List DebugCommand) (next : DebuggerState m) → left ≡ x ∷ xs → is_quit x ≡ false → PartsUnderway m limit placed f (session_of left) first now
      → FailsInPart m limit placed (session_after x) now next → FailsInPart m limit placed f first next
  command_failed x xs left next is other under fails =
      ends_with m limit placed f (session_of left) first now next sent.Failed under
      (fails_first m limit placed (session_of left) (session_of xs) (session_after x) now next (λ c s. front_of x xs left c s is other) (λ c s. session_onward xs c s) fails)

  all_over : (left : List DebugCommand) → ((c : Course) (s : Session) → session_of left c s ≡ s) → PartsUnderway m limit placed f (session_of left) first now → Does m limit placed f first now
  all_over left over under =
      all_done m limit placed f first now
      (goes_on m limit placed f (session_of left) (λ c s. s) first now now under (begins m limit placed (session_of left) (λ c s. s) now over under.fit))

  -- it is QUIT
  pub command_quits : (x : DebugCommand) (xs left : List DebugCommand) → left ≡ x ∷ xs → is_quit x ≡ true → PartsUnderway m limit placed f (session_of left) first now → Does m limit placed f first now
  command_quits x xs left is quits under = all_over left (λ c s. quit_of x xs left c s is quits) under

  -- there is none
  pub none_left : (left : List DebugCommand) → left ≡ [] → PartsUnderway m limit placed f (session_of left) first now → Does m limit placed f first now
  none_left left is under = all_over left (λ c s. none_of left c s is) under

-- Where there was room for the breakpoint of each BREAK that is left, there is room behind the first of these commands.
pub room_left : (breaks next capacity next_capacity : ℕ) (c : DebugCommand) (cs left : List DebugCommand) → left ≡ c ∷ cs → breaks + count_by is_break left ≤ capacity
    → next ≤ breaks + (if is_break c then 1 else 0) → next_capacity ≡ capacity → next + count_by is_break cs ≤ next_capacity
room_left breaks next capacity next_capacity c cs left is room few same =
    let counted : count_by is_break left ≡ (if is_break c then 1 else 0) + count_by is_break cs =
    ap (λ (all : List DebugCommand). count_by is_break all) is ∙ sum_by-cons (λ x. if is_break x then 1 else 0) c cs in
    omega (arith, counted)

-- What a whole session comes to.

if_told : {A : Type 0} (P : A → Type 0) (o : Option A) → ((x : A) → o ≡ Some x → P x) → IfSome o P
if_told P None holds = tt
if_told P (Some x) holds = holds x refl

-- Before the first command the first place is kept.

pub first_kept : (m : ℕ) (machine : Machine m) (old kept : List Kept) → kept ≡ places_with old (place_of_machine m machine 0) → old ≡ [] → kept ≡ place_of_machine m machine 0 ∷ []
first_kept m machine old kept is none = is ∙ ap (λ (ks : List Kept). places_with ks (place_of_machine m machine 0)) none

module _ (m limit : ℕ) (placed : List PlacedText) (machine : Machine m) (script : Script) (seen : Seen) where
  abbrev pub first_cursor_state : CursorState m
  first_cursor_state = cursor_state m machine script 0 (place_of_machine m machine 0 ∷ []) 0 seen

  pub first_fit : is_faulted machine.mode ≡ false → All (IsLine (size m)) (lines_left script) → IsFit m limit first_cursor_state
  first_fit sound lines = record {
    within = omega arith;
    sound = sound;
    lines = lines;
    few = omega arith;
    most = omega arith;
    kept = one_fit (record { within = omega arith; sound = sound });
    tip = λ none. refl;
    core = λ none. refl;
  }
    where
      one_fit : IsFitPlace limit (place_of_machine m machine 0) → All (IsFitPlace limit) (place_of_machine m machine 0 ∷ [])
      one_fit fit zero k inside = fit
      one_fit fit (suc i) k inside = absurd (omega (arith, inside))

  -- what was carried out from there, where the kept place, the breakpoints and the commands are these
  pub from_first : (kept : List Kept) (set : List ℕ) (list commands : List DebugCommand) (next : DebuggerState m) (how : Sent) → kept ≡ place_of_machine m machine 0 ∷ [] → set ≡ [] → list ≡ commands
      → CarriesPart m limit placed (session_of list) (debugger_state m (cursor_state m machine script 0 kept 0 seen) set) next how
      → CarriesPart m limit placed (session_of commands) (debugger_state m first_cursor_state []) next how
  from_first kept set list commands next how one none same carries = rw (one, none, same) at carries

  first_on : (p : RunPlace) → place_of m (run_state m machine script 0) seen.world ≡ Some p → IsOn m (record { limit = limit; placed = placed; first = p }) 0 0 first_cursor_state
  unfolding place_after last_within
  first_on p here = record {
    told = here;
    reached = refl;
    number = refl;
    count = inl refl;
    kept = λ i inside. by_index (λ j. kept_at_place (last_within limit (1 - 1 + j) p)) i inside (ap (λ (k : Kept). Some k) (kept_told m (run_state m machine script 0) seen.world p here));
  }
    where
      by_index : (q : ℕ → Kept) (i : ℕ) → i < 1 → Some (place_of_machine m machine 0) ≡ Some (q 0) → slice_get (place_of_machine m machine 0 ∷ []) i ≡ Some (q i)
      by_index q zero inside is = is
      by_index q (suc i) inside is = absurd (omega (arith, inside))

  starts : (p : RunPlace) → place_of m (run_state m machine script 0) seen.world ≡ Some p → StandsIn m (record { limit = limit; placed = placed; first = p }) (debugger_state m first_cursor_state []) seen.world at_first
  unfolding last_within
  starts p here = record { on_it = first_on p here; breaks_are = refl; turns = refl; did = did_none seen.world; cards = refl; lines = refl }

  module _ (commands : List DebugCommand) (last : CursorState m) (breaks : List ℕ) where
    pub session_ended : Does m limit placed (session_of commands) (debugger_state m first_cursor_state []) (debugger_state m last breaks)
        → EndsSession m (task limit placed commands) (moment m machine script 0 seen) (without_count m last.at.machine last.at.script last.seen) breaks
    session_ended does = record {
      steps = last.at.steps;
      told = if_told (λ first. StandsBy m (course_of (task limit placed commands) first) (moment m last.at.machine last.at.script last.at.steps last.seen) breaks seen.world (session_of commands (course_of (task limit placed commands) first) at_first))
          (place_of m (run_state m machine script 0) seen.world)
          (λ p here.
          let there = does.told (course_of (task limit placed commands) p) (record { limit_is = refl; placed_is = refl }) seen.world at_first (starts p here) in
          record { place = there.on_it.told; breaks_are = there.breaks_are; did = there.did; cards = there.cards; lines = there.lines });
      sound = does.fit.sound;
      lines = does.fit.lines;
      frames = does.frames;
    }

    pub session_broke : FailsInPart m limit placed (session_of commands) (debugger_state m first_cursor_state []) (debugger_state m last breaks)
        → BreaksSession m (task limit placed commands) (moment m machine script 0 seen) (without_count m last.at.machine last.at.script last.seen)
    session_broke fails = record {
      steps = last.at.steps;
      told = if_told (λ first. StandsWithin m (course_of (task limit placed commands) first) (moment m last.at.machine last.at.script last.at.steps last.seen) seen.world (session_of commands (course_of (task limit placed commands) first) at_first).acts)
          (place_of m (run_state m machine script 0) seen.world)
          (λ p here. fails.told (course_of (task limit placed commands) p) (record { limit_is = refl; placed_is = refl }) seen.world at_first (starts p here));
      rose = fails.rose;
      frames = fails.frames;
    }
