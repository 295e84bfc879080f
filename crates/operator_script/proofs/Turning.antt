-- What a turn is, by what is due, and what follows it.
use Rattle.std.proofs.Common.{◌≡◌, ℕ, zero, suc, ◌+◌, ◌≤◌, Bool, true, false, List, [], ◌∷◌, length, drop, All, refl, ◌∙◌, ap, subst, arith, if◌then◌else◌, ◌==◌, sym}
use Rattle.std.proofs.lemmas.Bool.Decides.{nat_tests}
use Rattle.std.proofs.lemmas.List.Elements.{All-drop}
use Rattle.std.specs.Prelude.{Option, Some, None, is_some}
use Rattle.cpu_step.specs.declared.machine.Mode.{Mode}
use Rattle.cpu_step.specs.declared.machine.Mode.TheVariants as mode
use Rattle.cpu_step.specs.Machine.{is_running}
use Rattle.operator_script.specs.declared.script.Action.{Action}
use Rattle.operator_script.specs.declared.script.ScriptLine.{ScriptLine}
use Rattle.operator_script.specs.Turn.{RunPlace, Turning, Acted, Stepped, Ended, turn, place_after_action, place_after_step, by_mode, by_script, can_go, is_due, most_turns, ending_of, due_action}
use Rattle.operator_script.specs.Scripts.{IsLine, IsAction}

-- WHAT A TURN IS, by four things: whether the mode can go, what is due, whether the machine runs, and whether the count is at the limit.
abbrev pub turning_by : RunPlace → Bool → Option Action → Bool → Bool → Turning
turning_by p false due running full = Ended (ending_of p.state)
turning_by p true (Some a) running full = Acted (place_after_action p a (drop 1 p.script))
turning_by p true None false full = Ended (ending_of p.state)
turning_by p true None true false = Stepped (place_after_step p)
turning_by p true None true true = Ended (ending_of p.state)

module _ (limit : ℕ) (p : RunPlace) where
  abbrev without_line : Mode → Turning
  without_line m = turning_by p true None (is_running m) (p.steps == limit)

  limit_is : (full : Bool) → (if full then Ended (ending_of p.state) else Stepped (place_after_step p)) ≡ turning_by p true None true full
  limit_is true = refl
  limit_is false = refl

  mode_is : (m : Mode) → by_mode limit p m ≡ without_line m
  mode_is mode.Running = limit_is (p.steps == limit)
  mode_is (mode.Halted at) = refl
  mode_is (mode.Stopped kind at) = refl
  mode_is mode.Empty = refl
  mode_is mode.NoKeys = refl
  mode_is (mode.Jam u n) = refl
  mode_is mode.Faulted = refl

  line_is : (line : ScriptLine) (rest : List ScriptLine) → p.script ≡ line ∷ rest → (b : Bool)
      → (if b then Acted (place_after_action p line.action rest) else by_mode limit p p.state.mode) ≡ turning_by p true (if b then Some line.action else None) (is_running p.state.mode) (p.steps == limit)
  line_is line rest is true = ap (λ xs. Acted (place_after_action p line.action (drop 1 xs))) (sym is)
  line_is line rest is false = mode_is p.state.mode

  script_is : (lines : List ScriptLine) → p.script ≡ lines → by_script limit p lines ≡ turning_by p true (due_action p.state.mode p.steps lines) (is_running p.state.mode) (p.steps == limit)
  script_is [] is = mode_is p.state.mode
  script_is (line ∷ rest) is = line_is line rest is (is_due line.due p.steps p.state.mode)

  going_is : (goes : Bool) → (if goes then by_script limit p p.script else Ended (ending_of p.state)) ≡ turning_by p goes (due_action p.state.mode p.steps p.script) (is_running p.state.mode) (p.steps == limit)
  going_is true = script_is p.script refl
  going_is false = refl

  pub turn_is : turn limit p ≡ turning_by p (can_go p.state.mode) (due_action p.state.mode p.steps p.script) (is_running p.state.mode) (p.steps == limit)
  unfolding turn
  turn_is = going_is (can_go p.state.mode)

  -- the front line acts where it's due
  pub turn_acts : (a : Action) → can_go p.state.mode ≡ true → due_action p.state.mode p.steps p.script ≡ Some a → turn limit p ≡ Acted (place_after_action p a (drop 1 p.script))
  turn_acts a go is = turn_is ∙ rw (go, is) refl

  -- else a step is made, below the limit
  pub turn_steps : is_running p.state.mode ≡ true → (p.steps == limit) ≡ false → due_action p.state.mode p.steps p.script ≡ None → can_go p.state.mode ≡ true → turn limit p ≡ Stepped (place_after_step p)
  turn_steps running below is go = turn_is ∙ rw (go, is, running, below) refl

  -- the run ends at the limit
  pub turn_full : (p.steps == limit) ≡ true → due_action p.state.mode p.steps p.script ≡ None → is_running p.state.mode ≡ true → can_go p.state.mode ≡ true → turn limit p ≡ Ended (ending_of p.state)
  turn_full full is running go = turn_is ∙ rw (go, is, running, full) refl

  -- and at a halt
  pub turn_still : is_running p.state.mode ≡ false → due_action p.state.mode p.steps p.script ≡ None → can_go p.state.mode ≡ true → turn limit p ≡ Ended (ending_of p.state)
  turn_still still is go = turn_is ∙ rw (go, is, still) refl

  -- and in any other mode
  pub turn_over : can_go p.state.mode ≡ false → turn limit p ≡ Ended (ending_of p.state)
  turn_over over = turn_is ∙ rw over refl

  -- What holds of the front line that acts, of a step below the limit and of the end holds of the turn.
  module _ (Holds : Turning → Type 0) (acts : (a : Action) → due_action p.state.mode p.steps p.script ≡ Some a → Holds (Acted (place_after_action p a (drop 1 p.script))))
      (steps : (p.steps == limit) ≡ false → Holds (Stepped (place_after_step p))) (ends : Holds (Ended (ending_of p.state))) where
    holds_by : (goes : Bool) (due : Option Action) (running full : Bool) → due_action p.state.mode p.steps p.script ≡ due → (p.steps == limit) ≡ full → Holds (turning_by p goes due running full)
    holds_by false due running full is at_limit = ends
    holds_by true (Some a) running full is at_limit = acts a is
    holds_by true None false full is at_limit = ends
    holds_by true None true false is at_limit = steps at_limit
    holds_by true None true true is at_limit = ends

    pub turn_holds : Holds (turn limit p)
    turn_holds = subst Holds (sym turn_is) (holds_by (can_go p.state.mode) (due_action p.state.mode p.steps p.script) (is_running p.state.mode) (p.steps == limit) refl refl)

-- What follows a turn.

-- the place that follows has less to do, its count is no more than the limit, and its lines are among the lines
pub record Less (limit : ℕ) (p q : RunPlace) : Type 0 where
  pub within : q.steps ≤ limit
  pub less : suc (most_turns limit q) ≤ most_turns limit p
  pub lines : (positions : ℕ) → All (IsLine positions) p.script → All (IsLine positions) q.script

abbrev pub Follows : ℕ → RunPlace → Turning → Type 0
Follows limit p (Acted q) = Less limit p q
Follows limit p (Stepped q) = Less limit p q
Follows limit p (Ended how) = how ≡ ending_of p.state

-- a count below the limit has room for one more
pub room_for_one : (a b : ℕ) → (a == b) ≡ false → a ≤ b → suc a ≤ b
room_for_one a b e h = grind (arith, nat_tests)

-- a line that is due is one of the lines
less_lines : (m : Mode) (steps : ℕ) (lines : List ScriptLine) (a : Action) → due_action m steps lines ≡ Some a → suc (length (drop 1 lines)) ≤ length lines
less_lines m steps [] a is = cc
less_lines m steps (line ∷ rest) a is = omega arith

pub turn_follows : (limit : ℕ) (p : RunPlace) → p.steps ≤ limit → Follows limit p (turn limit p)
turn_follows limit p h =
    turn_holds limit p (Follows limit p)
    (λ a is.
    let k = less_lines p.state.mode p.steps p.script a is in
    record { within = h; less = omega arith; lines = λ positions all. All-drop (IsLine positions) 1 p.script all })
    (λ below. let k = room_for_one p.steps limit below h in record { within = omega arith; less = omega arith; lines = λ positions all. all }) refl

due_by : (positions : ℕ) (line : ScriptLine) (a : Action) (b : Bool) → (if b then Some line.action else None) ≡ Some a → IsLine positions line → IsAction positions a
due_by positions line a true is fits = let same : line.action ≡ a = cc in subst (IsAction positions) same fits.1
due_by positions line a false is fits = cc

-- the action of a line that is due is one of the grammar's
pub due_fits : (positions : ℕ) (m : Mode) (steps : ℕ) (lines : List ScriptLine) (a : Action) → due_action m steps lines ≡ Some a → All (IsLine positions) lines → IsAction positions a
due_fits positions m steps [] a is all = cc
due_fits positions m steps (line ∷ rest) a is all = due_by positions line a (is_due line.due steps m) is (all 0 line (omega arith))

drop_suc : (n : ℕ) (lines : List ScriptLine) → drop (suc n) lines ≡ drop 1 (drop n lines)
drop_suc zero lines = refl
drop_suc (suc n) [] = refl
drop_suc (suc n) (line ∷ rest) = drop_suc n rest

-- one line more is taken off
pub drop_one : (n : ℕ) (lines : List ScriptLine) → drop (n + 1) lines ≡ drop 1 (drop n lines)
drop_one n lines = let more : n + 1 ≡ suc n = omega arith in ap (λ k. drop k lines) more ∙ drop_suc n lines

-- two counts that are, or aren't, the same
pub counts_same : (a b : ℕ) → a ≡ b → (a == b) ≡ true
counts_same a b same = grind (arith, nat_tests)

pub counts_differ : (a b : ℕ) → (a ≡ b → ⊥) → (a == b) ≡ false
counts_differ a b other = grind (arith, nat_tests)

-- no action is due where there is not some
pub due_none : (due : Option Action) → is_some due ≡ false → due ≡ None
due_none None none = refl
due_none (Some a) none = cc
