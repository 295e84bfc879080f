-- Turns of a machine that shows a state.
use Rattle.std.proofs.Common.{◌≡◌, ℕ, ◌+◌, ◌≤◌, true, false, drop, refl, sym, ◌∙◌, ap, subst, arith}
use Rattle.std.proofs.lemmas.Bool.{true≢false}
use Rattle.std.specs.Prelude.{Some, None}
use Rattle.outside_io.specs.World.{Seen}
use Rattle.cpu_step.specs.declared.machine.Machine.{Machine}
use Rattle.cpu_step.specs.declared.machine.Mode.{Mode}
use Rattle.cpu_step.specs.declared.machine.Mode.TheVariants as mode
use Rattle.cpu_step.specs.State.{State}
use Rattle.cpu_step.specs.Step.{step, partial_step}
use Rattle.cpu_step.specs.Load.{load_cut}
use Rattle.cpu_step.specs.Machine.{Makes, StopsShort, is_faulted, is_running}
use Rattle.cpu_step.proofs.ShownStates.{some_state, some_shown}
use Rattle.cpu_step.proofs.ExactCards.{Sound}
use Rattle.operator_script.specs.declared.script.Action.{Action}
use Rattle.operator_script.specs.declared.turns.Ending.{Ending}
use Rattle.operator_script.specs.declared.turns.Ending.TheVariants as ending
use Rattle.operator_script.specs.declared.turns.TurnEnd.{TurnEnd}
use Rattle.operator_script.specs.declared.turns.TurnEnd.TheVariants as end
use Rattle.operator_script.specs.Scripts.{lines_left}
use Rattle.operator_script.specs.Turn.{RunPlace, Acted, Ended, turn, state_after_action, place_after_action, place_after_step, can_go, due_action, ending_at, in_step, in_load}
use Rattle.operator_script.specs.Run.{RunState, StandsAt, moment_at, Rests, BreaksTurn, BreaksLoad, Turns, StepsBy, ActsAsOperator}
use Rattle.operator_script.proofs.ByEnding.{says_ended}
use Rattle.operator_script.proofs.Turning.{turn_acts, turn_steps, turn_full, turn_still, turn_over, room_for_one, counts_same, counts_differ}

no_fail : (m : Mode) (ir : ℕ) → is_faulted m ≡ false → ending.Failed ≡ ending_at m ir → ⊥
no_fail mode.Running ir sound is = cc
no_fail (mode.Halted at) ir sound is = cc
no_fail (mode.Stopped kind at) ir sound is = cc
no_fail mode.Empty ir sound is = cc
no_fail mode.NoKeys ir sound is = cc
no_fail (mode.Jam u n) ir sound is = cc
no_fail mode.Faulted ir sound is = cc

limit_runs : (m : Mode) (ir : ℕ) → ending.Limit ≡ ending_at m ir → m ≡ mode.Running
limit_runs mode.Running ir is = refl
limit_runs (mode.Halted at) ir is = cc
limit_runs (mode.Stopped kind at) ir is = cc
limit_runs mode.Empty ir is = cc
limit_runs mode.NoKeys ir is = cc
limit_runs (mode.Jam u n) ir is = cc
limit_runs mode.Faulted ir is = cc

-- what is cut short leaves the machine faulted
cut_faults : (done : ℕ) (s : State) → is_faulted (partial_step done s).mode ≡ true
unfolding partial_step
cut_faults done s = refl

load_cut_faults : (done : ℕ) (s : State) → is_faulted (load_cut done s).mode ≡ true
unfolding load_cut
load_cut_faults done s = refl

at_limit_is : (m : Mode) (ir : ℕ) → is_running m ≡ true → ending.Limit ≡ ending_at m ir
at_limit_is mode.Running ir running = refl
at_limit_is (mode.Halted at) ir running = cc
at_limit_is (mode.Stopped kind at) ir running = cc
at_limit_is mode.Empty ir running = cc
at_limit_is mode.NoKeys ir running = cc
at_limit_is (mode.Jam u n) ir running = cc
at_limit_is mode.Faulted ir running = cc

-- a machine, its script and count before a turn
module _ (m limit : ℕ) (old : RunState m) (before : Seen) where
  -- a place where they stand, at a state that the machine shows
  abbrev pub place_with : State → RunPlace
  place_with s = record { state = s; steps = old.steps; script = lines_left old.script }

  -- and the one at the state that it shows in any case
  abbrev some_place : RunPlace
  some_place = place_with (some_state m old.machine before.world)

  some_stands : StandsAt m old before.world some_place
  some_stands = record { state = some_shown m old.machine before.world; steps = refl; script = refl }

  abbrev NoneDue : Type 0
  NoneDue = due_action old.machine.mode old.steps (lines_left old.script) ≡ None

  rests : (how : Ending) → how ≡ ending_at old.machine.mode old.machine.regs.ir → turn limit some_place ≡ Ended (ending_at old.machine.mode old.machine.regs.ir)
      → (how ≡ ending.Limit → old.steps ≡ limit) → (can_go old.machine.mode ≡ true → NoneDue) → Rests m limit (moment_at m old before) (moment_at m old before) how
  rests how is over at_limit none = record { from = some_place; stands = some_stands; turned = over ∙ ap Ended (sym is); at_limit = at_limit; none_due = none; same = refl; outside = refl }

  ends_with : (how : Ending) → is_faulted old.machine.mode ≡ false → how ≡ ending_at old.machine.mode old.machine.regs.ir → turn limit some_place ≡ Ended (ending_at old.machine.mode old.machine.regs.ir)
      → (how ≡ ending.Limit → old.steps ≡ limit) → (can_go old.machine.mode ≡ true → NoneDue) → Turns m limit (moment_at m old before) (moment_at m old before) (end.Ended how)
  ends_with how sound is over at_limit none =
      says_ended (BreaksTurn m limit (moment_at m old before) (moment_at m old before)) (Rests m limit (moment_at m old before) (moment_at m old before)) how
      (λ failed. no_fail old.machine.mode old.machine.regs.ir sound (sym failed ∙ is)) (rests how is over at_limit none)

  -- an ending that comes at the limit is that of a running machine
  runs_at : (how : Ending) → how ≡ ending_at old.machine.mode old.machine.regs.ir → how ≡ ending.Limit → old.machine.mode ≡ mode.Running
  runs_at how is limits = limit_runs old.machine.mode old.machine.regs.ir (sym limits ∙ is)

  -- the run ends: in a mode that can't go on, at a halt, or at the limit
  pub over : (how : Ending) → is_faulted old.machine.mode ≡ false → how ≡ ending_at old.machine.mode old.machine.regs.ir → can_go old.machine.mode ≡ false → Turns m limit (moment_at m old before) (moment_at m old before) (end.Ended how)
  over how sound is none = ends_with how sound is (turn_over limit some_place none) (λ limits. absurd (true≢false (sym (ap can_go (runs_at how is limits)) ∙ none))) (λ go. absurd (true≢false (sym go ∙ none)))

  pub still : (how : Ending) → is_faulted old.machine.mode ≡ false → how ≡ ending_at old.machine.mode old.machine.regs.ir → can_go old.machine.mode ≡ true → NoneDue → is_running old.machine.mode ≡ false → Turns m limit (moment_at m old before) (moment_at m old before) (end.Ended how)
  still how sound is go due halted =
      ends_with how sound is (turn_still limit some_place halted due go) (λ limits. absurd (true≢false (sym (ap is_running (runs_at how is limits)) ∙ halted))) (λ goes. due)

  pub full : is_faulted old.machine.mode ≡ false → can_go old.machine.mode ≡ true → NoneDue → is_running old.machine.mode ≡ true → old.steps ≡ limit → Turns m limit (moment_at m old before) (moment_at m old before) (end.Ended ending.Limit)
  full sound go due running at_limit =
      ends_with ending.Limit sound (at_limit_is old.machine.mode old.machine.regs.ir running) (turn_full limit some_place (counts_same old.steps limit at_limit) due running go) (λ limits. at_limit) (λ goes. due)

  module _ (new : RunState m) (after : Seen) where
    -- a step is made
    pub moves_stepped : can_go old.machine.mode ≡ true → NoneDue → is_running old.machine.mode ≡ true → (old.steps ≡ limit → ⊥) → new.steps ≡ old.steps + 1 → lines_left new.script ≡ lines_left old.script
        → Sound m step old.machine new.machine before after → Turns m limit (moment_at m old before) (moment_at m new after) end.Stepped
    moves_stepped go due running below steps script s =
        let is : s.makes.state.mode ≡ old.machine.mode = ap (λ (x : State). x.mode) s.makes.shown.is in
        record {
          from = place_with s.makes.state;
          stands = record { state = s.makes.shown; steps = refl; script = refl };
          to = place_after_step (place_with s.makes.state);
          turned = turn_steps limit (place_with s.makes.state) (ap is_running is ∙ running) (counts_differ old.steps limit below) (ap (λ x. due_action x old.steps (lines_left old.script)) is ∙ due) (ap can_go is ∙ go);
          there = record { state = s.makes.made; steps = sym steps; script = sym script };
          sound = s.sound;
          frames = s.makes.frames;
        }

    -- a step is cut short
    pub breaks_stepped : can_go old.machine.mode ≡ true → NoneDue → is_running old.machine.mode ≡ true → old.steps ≤ limit → (old.steps ≡ limit → ⊥) → new.steps ≡ old.steps + 1 → lines_left new.script ≡ lines_left old.script
        → StopsShort m partial_step old.machine new.machine before after → Turns m limit (moment_at m old before) (moment_at m new after) (end.Ended ending.Failed)
    breaks_stepped go due running within below steps script broke =
        let room = room_for_one old.steps limit (counts_differ old.steps limit below) within in
        let is : broke.makes.state.mode ≡ old.machine.mode = ap (λ (x : State). x.mode) broke.makes.shown.is in
        record {
          from = place_with broke.makes.state;
          stands = record { state = broke.makes.shown; steps = refl; script = refl };
          to = record { state = partial_step broke.done broke.makes.state; steps = old.steps + 1; script = lines_left old.script };
          is_cut = in_step broke.done (turn_steps limit (place_with broke.makes.state) (ap is_running is ∙ running) (counts_differ old.steps limit below) (ap (λ x. due_action x old.steps (lines_left old.script)) is ∙ due) (ap can_go is ∙ go)) refl;
          there = record { state = broke.makes.made; steps = sym steps; script = sym script };
          faulted = sym (ap (λ (x : State). is_faulted x.mode) broke.makes.made.is) ∙ cut_faults broke.done broke.makes.state;
          within = omega arith;
          frames = broke.makes.frames;
          rose = broke.rose;
        }

    module _ (a : Action) (go : can_go old.machine.mode ≡ true) (due : due_action old.machine.mode old.steps (lines_left old.script) ≡ Some a) (within : old.steps ≤ limit) where
      turned_at : (s : State) → s.mode ≡ old.machine.mode → turn limit (place_with s) ≡ Acted (place_after_action (place_with s) a (drop 1 (lines_left old.script)))
      turned_at s is = turn_acts limit (place_with s) a (ap can_go is ∙ go) (ap (λ x. due_action x old.steps (lines_left old.script)) is ∙ due)

      moves_acted : new.steps ≡ old.steps → lines_left new.script ≡ drop 1 (lines_left old.script) → Makes m (state_after_action a) old.machine new.machine before after → is_faulted new.machine.mode ≡ false → Turns m limit (moment_at m old before) (moment_at m new after) end.Acted
      moves_acted steps script makes sound = record {
        from = place_with makes.state;
        stands = record { state = makes.shown; steps = refl; script = refl };
        to = place_after_action (place_with makes.state) a (drop 1 (lines_left old.script));
        turned = turned_at makes.state (ap (λ (x : State). x.mode) makes.shown.is);
        there = record { state = makes.made; steps = sym steps; script = sym script };
        sound = sound;
        frames = makes.frames;
      }

      breaks_acted : new.steps ≡ old.steps → lines_left new.script ≡ drop 1 (lines_left old.script) → BreaksLoad m a old.machine new.machine before after → Turns m limit (moment_at m old before) (moment_at m new after) (end.Ended ending.Failed)
      breaks_acted steps script broke =
          let s : State = broke.breaks.makes.state in
          record {
            from = place_with s;
            stands = record { state = broke.breaks.makes.shown; steps = refl; script = refl };
            to = record { state = load_cut broke.breaks.done s; steps = old.steps; script = drop 1 (lines_left old.script) };
            is_cut = in_load broke.breaks.done (drop 1 (lines_left old.script))
                (ap (λ (x : Mode). due_action x old.steps (lines_left old.script)) (ap (λ (x : State). x.mode) broke.breaks.makes.shown.is) ∙ due ∙ ap Some broke.is)
                (turned_at s (ap (λ (x : State). x.mode) broke.breaks.makes.shown.is) ∙ ap (λ (x : Action). Acted (place_after_action (place_with s) x (drop 1 (lines_left old.script)))) broke.is) refl;
            there = record { state = broke.breaks.makes.made; steps = sym steps; script = sym script };
            faulted = sym (ap (λ (x : State). is_faulted x.mode) broke.breaks.makes.made.is) ∙ load_cut_faults broke.breaks.done s;
            within = subst (λ k. k ≤ limit) (sym steps) within;
            frames = broke.breaks.makes.frames;
            rose = broke.breaks.rose;
          }

      -- the front line acts
      pub acts_turn : (r : TurnEnd) → new.steps ≡ old.steps → lines_left new.script ≡ drop 1 (lines_left old.script) → ActsAsOperator m a old.machine new.machine before after r
          → Turns m limit (moment_at m old before) (moment_at m new after) r
      acts_turn end.Acted steps script acts = moves_acted steps script acts.0 acts.1
      acts_turn end.Stepped steps script acts = absurd acts
      acts_turn (end.Ended ending.Failed) steps script acts = breaks_acted steps script acts
      acts_turn (end.Ended how) steps script acts = absurd acts

-- no action is a step
pub acts_stepped : (m : ℕ) (a : Action) (old new : Machine m) (before after : Seen) (r : TurnEnd) → ActsAsOperator m a old new before after r → StepsBy m r old new before after
acts_stepped m a old new before after end.Acted acts = tt
acts_stepped m a old new before after end.Stepped acts = absurd acts
acts_stepped m a old new before after (end.Ended how) acts = tt
