-- STEP over the kept places: each step behind its line, while the machine stays where it is; at the end it is brought there.
use Rattle.std.proofs.Common.{◌≡◌, ◌∙◌, ℕ, suc, ◌+◌, ◌-◌, ◌<◌, ◌≤◌, max, inr, true, false, List, length, refl, sym, ap, subst, arith}
use Rattle.std.specs.Prelude.{IfSome, slice_get, option_map}
use Rattle.outside_io.specs.declared.host.Unit.TheVariants as units
use Rattle.outside_io.specs.declared.whole.Sent.TheVariants as sent
use Rattle.outside_io.specs.World.{Seen}
use Rattle.outside_io.specs.Whole.{Sends}
use Rattle.branch_ops.specs.declared.Regs.{Regs}
use Rattle.cpu_step.specs.declared.machine.Machine.{Machine}
use Rattle.operator_script.specs.declared.turns.TurnEnd.TheVariants as end
use Rattle.operator_script.specs.Turn.{Acted, turn}
use Rattle.sps_pass_two.specs.Assembled.{PlacedText}
use Rattle.console_debug.specs.Lines.{at_line}
use Rattle.console_debug.specs.Places.{turns_to_step}
use Rattle.console_debug.specs.Session.{nth_place, places_ahead, goes_to, steps}
use Rattle.console_debug.specs.CursorStates.{CursorState, IsOn, IsFit, MovesOn, IsThere, ToAStep}
use Rattle.console_debug.specs.Carries.{DebuggerState, debugger_state, FailsInPart, PartsUnderway}
use Rattle.console_debug.proofs.Courses.{led_by}
use Rattle.console_debug.proofs.DebuggerStates.{begins, goes_on, moved}
use Rattle.console_debug.proofs.Passing.{sets_out, within_limit}
use Rattle.console_debug.proofs.Heading.{next_step, step_there, no_step}
use Rattle.console_debug.proofs.KeptMoves.{would_be, starts, less, not_less, brought_there, next_there, next_machine, next_kept, next_is, next_moves}
use Rattle.console_debug.proofs.Later.{later_on}
use Rattle.console_debug.proofs.Onward.{steps_by, steps_acted}
use Rattle.console_debug.proofs.PlaceLines.{at_said}
use Rattle.console_debug.proofs.StepByStep.{step_then, step_made_on, step_failed, line_failed}
use Rattle.console_debug.proofs.Stepping.{if_some}

-- a move that was no step leaves all steps to be made
acts_over : (m limit : ℕ) (placed : List PlacedText) (set : List ℕ) (n : ℕ) (x new : CursorState m) → IsFit m limit x → MovesOn m limit Acted x new
    → PartsUnderway m limit placed (steps (suc n)) (steps (suc n)) (debugger_state m x set) (debugger_state m new set)
acts_over m limit placed set n x new fit moves =
    moved m limit placed (steps (suc n)) (steps (suc n)) x new set moves.frames moves.fit
    (λ c over s are on_it.
    let one : suc s.at ≡ s.at + 1 = omega arith in
    let on = moves.told c s.at s.furthest over.limit_is on_it in
    let q = nth_place c (suc s.at) in
    let led : turn c.limit (nth_place c s.at) ≡ led_by false q = ap (λ i. turn i (nth_place c s.at)) over.limit_is ∙ on.0 in
    let ahead = later_on c.limit false (nth_place c s.at) q (within_limit m limit c s.at s.furthest x over.limit_is fit on_it) led in
    let longer : length (places_ahead c s.at) ≡ suc (length (places_ahead c (s.at + 1))) = ap length ahead ∙ ap (λ i. suc (length (places_ahead c i))) one in
    let none : turns_to_step (places_ahead c s.at) ≡ option_map suc (turns_to_step (places_ahead c (s.at + 1))) =
    ap turns_to_step ahead ∙ no_step q (places_ahead c (suc s.at)) ∙ ap (λ i. option_map suc (turns_to_step (places_ahead c i))) one in
    let there = goes_to (s.at + 1) s in (
      1,
      subst (λ i. IsOn m c i (max s.furthest i) new) one on.1,
      steps_by c n s ∙ steps_acted c n s (turns_to_step (places_ahead c s.at)) (turns_to_step (places_ahead c (s.at + 1))) none longer ∙ sym (steps_by c n there),
    ))

module _ (m limit : ℕ) (placed : List PlacedText) (set : List ℕ) (all : ℕ) (old : CursorState m) where
  abbrev first : DebuggerState m
  first = debugger_state m old set

  -- where it would stand under way, with the IR of that place, and how many steps are left
  pub record StepsOn (seen : Seen) (ir count behind left : ℕ) : Type 0 where
    pub would : Machine m
    pub there : IsThere m old would count behind
    pub ir_is : ir ≡ would.regs.ir
    pub under : PartsUnderway m limit placed (steps all) (steps left) first (debugger_state m (would_be m limit old would count behind seen) set)

  pub steps_first : IsFit m limit old → StepsOn old.seen old.at.machine.regs.ir old.at.steps old.behind all
  steps_first fit = record {
    would = old.at.machine;
    there = starts m limit old;
    ir_is = refl;
    under = begins m limit placed (steps all) (steps all) first (λ c s. refl) fit;
  }

  module _ (seen : Seen) (ir count behind left next_count next n : ℕ) (on : StepsOn seen ir count behind left) (is_left : left ≡ suc n) (some : 0 < behind) (one : next + 1 ≡ behind)
      (count_is : IfSome (slice_get old.kept (length old.kept - behind)) (λ k. next_count ≡ k.steps)) where
    abbrev x : CursorState m
    x = would_be m limit old on.would count behind seen

    abbrev here : DebuggerState m
    here = debugger_state m x set

    few : behind < length old.kept
    few = on.under.fit.few

    abbrev would_next : Machine m
    would_next = next_machine m limit old on.would count behind next next_count on.there few some one count_is

    there_next : IsThere m old would_next next_count next
    there_next = next_there m limit old on.would count behind next next_count on.there few some one count_is

    ir_next : (regs : Regs) → IfSome (slice_get old.kept (length old.kept - behind)) (λ k. regs ≡ k.regs) → regs.ir ≡ would_next.regs.ir
    ir_next regs is =
        let k = next_kept m limit old on.would count behind next next_count on.there few some one count_is in
        ap (λ (r : Regs). r.ir)
        (if_some (λ k. regs ≡ k.regs) (slice_get old.kept (length old.kept - behind)) k (next_is m limit old on.would count behind next next_count on.there few some one count_is) is)

    under_x : PartsUnderway m limit placed (steps all) (steps (suc n)) first here
    under_x = subst (λ j. PartsUnderway m limit placed (steps all) (steps j) first here) is_left on.under

    -- no step led there
    pub passes : next_count ≤ count → (regs : Regs) → IfSome (slice_get old.kept (length old.kept - behind)) (λ k. regs ≡ k.regs) → StepsOn seen regs.ir next_count next left
    passes past regs is =
        let new = would_be m limit old would_next next_count next seen in
        let moves : MovesOn m limit Acted x new = next_moves m limit old on.would count behind next next_count on.there few some one count_is seen on.under.fit false (not_less count next_count past) in
        record {
          would = would_next;
          there = there_next;
          ir_is = ir_next regs is;
          under = subst (λ j. PartsUnderway m limit placed (steps all) (steps j) first (debugger_state m new set)) (sym is_left)
              (goes_on m limit placed (steps all) (steps (suc n)) (steps (suc n)) first here (debugger_state m new set) under_x (acts_over m limit placed set n x new on.under.fit moves));
        }

    -- a step led there, which comes next
    to_it : count < next_count → ToAStep m limit x x
    to_it step =
        let moves = next_moves m limit old on.would count behind next next_count on.there few some one count_is seen on.under.fit true (less count next_count step) in
        step_there m limit x x (sets_out turns_to_step m limit x on.under.fit) (next_step m limit true x (would_be m limit old would_next next_count next seen) moves)

    -- the line was printed
    pub steps_over : count < next_count → (after : Seen) → Sends seen after units.Report (at_line ir count) sent.Done
        → (regs : Regs) → IfSome (slice_get old.kept (length old.kept - behind)) (λ k. regs ≡ k.regs) → StepsOn after regs.ir next_count next n
    steps_over step after sends regs is =
        let line : Sends seen after units.Report (at_line on.would.regs.ir count) sent.Done = subst (λ i. Sends seen after units.Report (at_line i count) sent.Done) on.ir_is sends in
        let new = would_be m limit old would_next next_count next after in
        let said = at_said m limit placed x set after on.under.fit sent.Done line in
        let moves = next_moves m limit old on.would count behind next next_count on.there few some one count_is after said.fit true (less count next_count step) in
        record {
          would = would_next;
          there = there_next;
          ir_is = ir_next regs is;
          under = step_then m limit placed set (steps all) first left n x x is_left on.under (to_it step) (debugger_state m new set)
              (step_made_on m limit placed x set after on.under.fit new end.Stepped (inr refl) line moves);
        }

    -- the host failed: the machine is brought to that place
    pub line_fails : count < next_count → (after : Seen) → Sends seen after units.Report (at_line ir count) sent.Failed
        → (y : Machine m) (k : ℕ) → IsThere m old y k behind → FailsInPart m limit placed (steps all) first (debugger_state m (would_be m limit old y k behind after) set)
    line_fails step after sends y k at =
        let line : Sends seen after units.Report (at_line on.would.regs.ir count) sent.Failed = subst (λ i. Sends seen after units.Report (at_line i count) sent.Failed) on.ir_is sends in
        brought_there m limit old (λ (z : CursorState m). FailsInPart m limit placed (steps all) first (debugger_state m z set)) after on.would y count k behind few on.there at
        (step_failed m limit placed set (steps all) first left n x x is_left on.under (to_it step) (debugger_state m (record x { seen = after }) set) (line_failed m limit placed x set after on.under.fit line))

  -- so far the kept places or the steps lead: the machine is brought there
  pub steps_end : (seen : Seen) (ir count behind left : ℕ) → StepsOn seen ir count behind left → (y : Machine m) (k : ℕ) → IsThere m old y k behind
      → PartsUnderway m limit placed (steps all) (steps left) first (debugger_state m (would_be m limit old y k behind seen) set)
  steps_end seen ir count behind left on y k at =
      brought_there m limit old (λ (z : CursorState m). PartsUnderway m limit placed (steps all) (steps left) first (debugger_state m z set)) seen on.would y count k behind on.under.fit.few on.there at on.under
