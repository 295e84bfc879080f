-- Runs, turn by turn.
use Rattle.std.proofs.Common.{◌≡◌, ◌⊎◌, inl, inr, ℕ, suc, ◌+◌, ◌-◌, ◌≤◌, true, false, List, length, All, refl, sym, ◌∙◌, ap, subst, arith}
use Rattle.std.specs.Prelude.{Option, Some, None, IfSome, option_map, is_some}
use Rattle.digit_core.specs.Size.{size}
use Rattle.outside_io.specs.World.{World, Seen}
use Rattle.outside_io.specs.Frame.{Tells}
use Rattle.cpu_step.specs.State.{State}
use Rattle.cpu_step.specs.Machine.{state_of, Frames, is_faulted}
use Rattle.cpu_step.proofs.ShownStates.{frames_same}
use Rattle.cpu_step.proofs.ExactCards.{state_told, states_told, frames_both}
use Rattle.operator_script.specs.declared.script.ScriptLine.{ScriptLine}
use Rattle.operator_script.specs.declared.turns.Ending.{Ending}
use Rattle.operator_script.specs.declared.turns.TurnEnd.{TurnEnd}
use Rattle.operator_script.specs.declared.turns.TurnEnd.TheVariants as end
use Rattle.operator_script.specs.Scripts.{IsLine, lines_left}
use Rattle.operator_script.specs.Turn.{RunPlace, Turning, Acted, Stepped, Ended, turn, place_after, most_turns, ending_at, ending_of, IsLast, IsCutTurn, IsOnTheWay}
pub use Rattle.operator_script.specs.Run.{Underway, turns_left}
use Rattle.operator_script.specs.Run.{RunState, StandsAt, moment_at, place_with, place_of, Moves, Rests, BreaksTurn, Turns, RunsOut, BreaksOff, Runs, GoesOn, BreaksFrom}
use Rattle.operator_script.proofs.ByEnding.{by_ending}
use Rattle.operator_script.proofs.Turning.{Less, Follows, turn_follows}
use Rattle.operator_script.proofs.LastPlace.{on, turn_on}

placed : (m : ℕ) (x : RunState m) (p : RunPlace) → p.steps ≡ x.steps → p.script ≡ lines_left x.script → (o : Option State) → Tells o p.state → Tells (option_map (place_with m x) o) p
placed m x p steps script None told = tt
placed m x p steps script (Some s) told = λ i. record { state = told i; steps = sym steps i; script = sym script i }

-- where they stand is told, that is the place
pub place_told : (m : ℕ) (x : RunState m) (w : World) (p : RunPlace) → StandsAt m x w p → Tells (place_of m x w) p
place_told m x w p stands = placed m x p stands.steps stands.script (state_of m x.machine w) (state_told m x.machine w p.state stands.state)

is_with : (m : ℕ) (x : RunState m) (o : Option State) (p : RunPlace) → option_map (place_with m x) o ≡ Some p → (o ≡ Some p.state) × (p.steps ≡ x.steps)
is_with m x None p is = cc
is_with m x (Some s) p is = let same : place_with m x s ≡ p = cc in (ap (λ (q : RunPlace). Some q.state) same, sym (ap (λ (q : RunPlace). q.steps) same))

-- a told place is that of the machine's state and of the count
pub place_is : (m : ℕ) (x : RunState m) (w : World) (p : RunPlace) → place_of m x w ≡ Some p → (state_of m x.machine w ≡ Some p.state) × (p.steps ≡ x.steps)
place_is m x w p is = is_with m x (state_of m x.machine w) p is

map_some : {A B : Type 0} (f : A → B) (o : Option A) → is_some (option_map f o) ≡ is_some o
map_some f None = refl
map_some f (Some x) = refl

-- a place is told before a turn where it's told behind it
pub places_told : (m : ℕ) (old new : RunState m) (before after : Seen) → Frames m old.machine new.machine before after → is_some (place_of m new after.world) ≡ is_some (place_of m old before.world)
places_told m old new before after frames =
    map_some (place_with m new) (state_of m new.machine after.world) ∙ states_told m old.machine new.machine before after frames ∙ sym (map_some (place_with m old) (state_of m old.machine before.world))

pub the_told : {A : Type 0} (o : Option A) (x : A) → Tells o x → is_some o ≡ true → o ≡ Some x
the_told None x told some = cc
the_told (Some y) x told some = ap Some told

-- what is reached, and the next place
reach_on : (limit : ℕ) (o now next : Option RunPlace) (leads : RunPlace → Turning) → ((r : RunPlace) → on limit 0 (leads r) ≡ Some r) → is_some now ≡ is_some o → is_some next ≡ is_some now
    → (from to : RunPlace) → Tells now from → Tells next to → turn limit from ≡ leads to → IfSome o (λ p. (n : ℕ) × (place_after limit n p ≡ now)) → IfSome o (λ p. (n : ℕ) × (place_after limit n p ≡ next))
reach_on limit None now next leads goes same told from to at_now at_next turned reached = tt
reach_on limit (Some p) now next leads goes same told from to at_now at_next turned reached =
    let here : now ≡ Some from = the_told now from at_now same in
    let there : next ≡ Some to = the_told next to at_next (told ∙ same) in
    (suc reached.0, turn_on limit reached.0 p from to (leads to) (reached.1 ∙ here) turned (goes to) ∙ sym there)

begins : (o : Option RunPlace) (limit : ℕ) → IfSome o (λ p. (n : ℕ) × (place_after limit n p ≡ o))
unfolding place_after
begins None limit = tt
begins (Some p) limit = (0, refl)

pub starts : (m limit : ℕ) (first : RunState m) (start : Seen) → first.steps ≤ limit → is_faulted first.machine.mode ≡ false → All (IsLine (size m)) (lines_left first.script) → Underway m limit first start first start
starts m limit first start within sound lines = record { reached = begins (place_of m first start.world) limit; within = within; sound = sound; lines = lines; frames = frames_same m first.machine first.machine start refl refl }

fewer_by : (limit : ℕ) (p q : RunPlace) (a b : ℕ) (xs ys : List ScriptLine) → p.steps ≡ a → p.script ≡ xs → q.steps ≡ b → q.script ≡ ys → suc (most_turns limit q) ≤ most_turns limit p → suc ((limit - b) + length ys) ≤ (limit - a) + length xs
fewer_by limit p q a b xs ys a_is xs_is b_is ys_is less = rw (a_is, xs_is, b_is, ys_is) at less

module _ (m limit : ℕ) (first : RunState m) (start : Seen) (now : RunState m) (seen : Seen) (under : Underway m limit first start now seen) where
  less_by : (leads : RunPlace → Turning) (next : RunState m) (after : Seen) (moves : Moves m limit leads (moment_at m now seen) (moment_at m next after)) → Follows limit moves.from (leads moves.to) ≡ Less limit moves.from moves.to → Less limit moves.from moves.to
  less_by leads next after moves is =
      let follows : Follows limit moves.from (turn limit moves.from) = turn_follows limit moves.from (subst (λ k. k ≤ limit) (sym moves.stands.steps) under.within) in
      subst (λ (T : Type 0). T) is (subst (Follows limit moves.from) moves.turned follows)

  moved_on : (leads : RunPlace → Turning) → ((r : RunPlace) → on limit 0 (leads r) ≡ Some r) → (next : RunState m) (after : Seen) (moves : Moves m limit leads (moment_at m now seen) (moment_at m next after)) → Less limit moves.from moves.to → Underway m limit first start next after × (suc (turns_left limit m next) ≤ turns_left limit m now)
  moved_on leads goes next after moves less =
      let told = places_told m first now start seen under.frames in
      let less_steps : next.steps ≤ limit = subst (λ k. k ≤ limit) moves.there.steps less.within in (
        record {
          reached = reach_on limit (place_of m first start.world) (place_of m now seen.world) (place_of m next after.world) leads goes told (places_told m now next seen after moves.frames)
              moves.from moves.to (place_told m now seen.world moves.from moves.stands) (place_told m next after.world moves.to moves.there) moves.turned under.reached;
          within = less_steps;
          sound = moves.sound;
          lines = subst (All (IsLine (size m))) moves.there.script (less.lines (size m) (subst (All (IsLine (size m))) (sym moves.stands.script) under.lines));
          frames = frames_both m first.machine now.machine next.machine start seen after under.frames moves.frames;
        },
        fewer_by limit moves.from moves.to now.steps next.steps (lines_left now.script) (lines_left next.script) moves.stands.steps moves.stands.script moves.there.steps moves.there.script less.less,
      )

  -- one turn more
  pub acted_on : (next : RunState m) (after : Seen) → Moves m limit Acted (moment_at m now seen) (moment_at m next after) → Underway m limit first start next after × (suc (turns_left limit m next) ≤ turns_left limit m now)
  unfolding place_after
  acted_on next after moves = moved_on Acted (λ r. refl) next after moves (less_by Acted next after moves refl)

  pub stepped_on : (next : RunState m) (after : Seen) → Moves m limit Stepped (moment_at m now seen) (moment_at m next after) → Underway m limit first start next after × (suc (turns_left limit m next) ≤ turns_left limit m now)
  unfolding place_after
  stepped_on next after moves = moved_on Stepped (λ r. refl) next after moves (less_by Stepped next after moves refl)

  last_at : (o here : Option RunPlace) (from : RunPlace) (how : Ending) → is_some here ≡ is_some o → Tells here from → turn limit from ≡ Ended how → IfSome o (λ p. (n : ℕ) × (place_after limit n p ≡ here))
      → IfSome o (λ p. (n : ℕ) × (q : RunPlace) × (here ≡ Some q) × IsLast limit p n q how)
  last_at None here from how same told turned reached = tt
  last_at (Some p) here from how same told turned reached =
      let is : here ≡ Some from = the_told here from told same in
      (reached.0, from, is, record { reached = reached.1 ∙ is; ends = turned })

  rests_out : (how : Ending) (next : RunState m) (after : Seen) → Rests m limit (moment_at m now seen) (moment_at m next after) how → RunsOut m limit (moment_at m first start) (moment_at m next after) how
  rests_out how next after rests =
      let follows : how ≡ ending_of rests.from.state = subst (Follows limit rests.from) rests.turned (turn_follows limit rests.from (subst (λ k. k ≤ limit) (sym rests.stands.steps) under.within)) in
      rw (rests.same, rests.outside) (record {
        last = last_at (place_of m first start.world) (place_of m now seen.world) rests.from how (places_told m first now start seen under.frames) (place_told m now seen.world rests.from rests.stands) rests.turned under.reached;
        ending = follows ∙ ap (λ (s : State). ending_at s.mode s.regs.ir) rests.stands.state.is;
        at_limit = rests.at_limit;
        none_due = rests.none_due;
        within = under.within;
        frames = under.frames;
      })

  broken_at : (o here there : Option RunPlace) (from to : RunPlace) → is_some here ≡ is_some o → is_some there ≡ is_some here → Tells here from → Tells there to → IsCutTurn limit from to
      → IfSome o (λ p. (n : ℕ) × (place_after limit n p ≡ here)) → IfSome o (λ p. (q : RunPlace) × (there ≡ Some q) × IsOnTheWay limit p q)
  broken_at None here there from to same same_there told told_there is_cut reached = tt
  broken_at (Some p) here there from to same same_there told told_there is_cut reached =
      (to, the_told there to told_there (same_there ∙ same), record { turns = reached.0; place = from; reached = reached.1 ∙ the_told here from told same; is_cut = is_cut })

  breaks_off : (next : RunState m) (after : Seen) → BreaksTurn m limit (moment_at m now seen) (moment_at m next after) → BreaksOff m limit (moment_at m first start) (moment_at m next after)
  breaks_off next after broke = record {
    on_the_way = broken_at (place_of m first start.world) (place_of m now seen.world) (place_of m next after.world) broke.from broke.to (places_told m first now start seen under.frames) (places_told m now next seen after broke.frames)
        (place_told m now seen.world broke.from broke.stands) (place_told m next after.world broke.to broke.there) broke.is_cut under.reached;
    faulted = broke.faulted;
    within = broke.within;
    rose = omega (arith, under.frames.later, broke.rose);
    frames = frames_both m first.machine now.machine next.machine start seen after under.frames broke.frames;
  }

  -- a turn that ends the run
  pub ended_on : (how : Ending) (next : RunState m) (after : Seen) → Turns m limit (moment_at m now seen) (moment_at m next after) (end.Ended how) → Runs m limit (moment_at m first start) (moment_at m next after) how
  ended_on how next after turns =
      by_ending (BreaksTurn m limit (moment_at m now seen) (moment_at m next after)) (BreaksOff m limit (moment_at m first start) (moment_at m next after)) (Rests m limit (moment_at m now seen) (moment_at m next after)) (RunsOut m limit (moment_at m first start) (moment_at m next after))
      (breaks_off next after) (λ e rests. rests_out e next after rests) how turns

  -- one turn more, of whichever kind
  pub moved_by : (r : TurnEnd) (next : RunState m) (after : Seen) → (r ≡ end.Acted) ⊎ (r ≡ end.Stepped) → Turns m limit (moment_at m now seen) (moment_at m next after) r → Underway m limit first start next after × (suc (turns_left limit m next) ≤ turns_left limit m now)
  moved_by r next after (inl is) turns = acted_on next after (rw is at turns)
  moved_by r next after (inr is) turns = stepped_on next after (rw is at turns)

-- Several turns, one after another, that lead a run on.
pub goes_none : (m limit : ℕ) (x : RunState m) (seen : Seen) → GoesOn m limit x seen x seen
goes_none m limit x seen = λ first start under. (under, omega arith)

pub goes_stepped : (m limit : ℕ) (old now next : RunState m) (before seen after : Seen) → GoesOn m limit old before now seen → Moves m limit Stepped (moment_at m now seen) (moment_at m next after) → GoesOn m limit old before next after
goes_stepped m limit old now next before seen after goes moves = λ first start under.
    let here = goes first start under in
    let there = stepped_on m limit first start now seen here.0 next after moves in
    let fewer = here.1 in
    let less = there.1 in
    (there.0, omega arith)

pub goes_broken : (m limit : ℕ) (old now next : RunState m) (before seen after : Seen) → GoesOn m limit old before now seen → BreaksTurn m limit (moment_at m now seen) (moment_at m next after) → BreaksFrom m limit old before next after
goes_broken m limit old now next before seen after goes broke = λ first start under.
    breaks_off m limit first start now seen (goes first start under).0 next after broke
