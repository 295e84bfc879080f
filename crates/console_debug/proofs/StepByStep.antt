-- What STEP comes to: to the next step, its line, and one move; or to the end.
use Rattle.std.proofs.Common.{◌≡◌, ◌∙◌, ◌⊎◌, ℕ, suc, ◌+◌, ◌-◌, max, true, false, List, length, inl, inr, refl, sym, ap, subst, arith}
use Rattle.outside_io.specs.declared.host.Unit.TheVariants as units
use Rattle.outside_io.specs.declared.whole.Sent.{Sent}
use Rattle.outside_io.specs.declared.whole.Sent.TheVariants as sent
use Rattle.outside_io.specs.World.{Seen}
use Rattle.outside_io.specs.Whole.{Sends}
use Rattle.operator_script.specs.declared.turns.Ending.{Ending}
use Rattle.operator_script.specs.declared.turns.Ending.TheVariants as ending
use Rattle.operator_script.specs.declared.turns.TurnEnd.{TurnEnd}
use Rattle.operator_script.specs.declared.turns.TurnEnd.TheVariants as end
use Rattle.operator_script.specs.Turn.{RunPlace, Turning, Acted, Stepped, Ended, IsCutTurn, is_step, turn}
use Rattle.operator_script.proofs.ByEnding.{not_failed}
use Rattle.sps_pass_two.specs.Assembled.{PlacedText}
use Rattle.console_debug.specs.Lines.{at_line, ending_line}
use Rattle.console_debug.specs.Places.{turns_to_step}
use Rattle.console_debug.specs.Session.{Course, Session, nth_place, places_ahead, goes_to, steps}
use Rattle.console_debug.specs.CursorStates.{CursorState, IsOn, IsFit, MovesOn, StaysOn, BreaksOn, Advances, IsStepAhead, ToAStep, ToTheEnd, BreaksOnTheWay}
use Rattle.console_debug.specs.Carries.{DebuggerState, debugger_state, Does, FailsInPart, CarriesPart, step_on, PartsUnderway}
use Rattle.console_debug.proofs.Looking.{stays_fit, stays_frames}
use Rattle.console_debug.proofs.Onward.{MakesTurns, step_by, steps_by, steps_onward, goes_onward, goes_makes, step_makes}
use Rattle.console_debug.proofs.DebuggerStates.{still_on, fails_first, goes_on, does_first, ends_with, all_done, moved, broke, broken_at}
use Rattle.console_debug.proofs.PlaceLines.{says_at, says_end, at_said, end_said}

-- one place on
abbrev goes_on_one : Course → Session → Session
goes_on_one c s = goes_to (s.at + 1) s

-- THE STEP THAT COMES NEXT

module _ (m limit : ℕ) (placed : List PlacedText) (x : CursorState m) (set : List ℕ) (after : Seen) (fit : IsFit m limit x) where
  abbrev behind_line : CursorState m
  behind_line = record x { seen = after }

  pub line_failed : Sends x.seen after units.Report (at_line x.at.machine.regs.ir x.at.steps) sent.Failed → FailsInPart m limit placed step_on (debugger_state m x set) (debugger_state m behind_line set)
  line_failed sends = fails_first m limit placed step_on goes_on_one says_at (debugger_state m x set) (debugger_state m behind_line set) (λ c s. refl) (λ c s. goes_onward (s.at + 1) s) (at_said m limit placed x set after fit sent.Failed sends)

  line_done : Sends x.seen after units.Report (at_line x.at.machine.regs.ir x.at.steps) sent.Done → PartsUnderway m limit placed step_on goes_on_one (debugger_state m x set) (debugger_state m behind_line set)
  line_done sends = does_first m limit placed step_on goes_on_one says_at (debugger_state m x set) (debugger_state m behind_line set) (λ c s. refl) (at_said m limit placed x set after fit sent.Done sends)

  -- one place on
  one_on : (leads : RunPlace → Turning) (new : CursorState m) → MovesOn m limit leads behind_line new → Does m limit placed goes_on_one (debugger_state m behind_line set) (debugger_state m new set)
  one_on leads new moves =
      all_done m limit placed goes_on_one (debugger_state m behind_line set) (debugger_state m new set)
      (moved m limit placed goes_on_one (λ c s. s) behind_line new set moves.frames moves.fit
      (λ c over s are on_it.
      let one : suc s.at ≡ s.at + 1 = omega arith in
      (1, subst (λ i. IsOn m c i (max s.furthest i) new) one (moves.told c s.at s.furthest over.limit_is on_it).1, refl)))

  pub step_made_on : (new : CursorState m) (r : TurnEnd) → (r ≡ end.Acted) ⊎ (r ≡ end.Stepped) → Sends x.seen after units.Report (at_line x.at.machine.regs.ir x.at.steps) sent.Done → Advances m limit behind_line new r
      → Does m limit placed step_on (debugger_state m x set) (debugger_state m new set)
  step_made_on new r which sends advances =
      ends_with m limit placed step_on goes_on_one (debugger_state m x set) (debugger_state m behind_line set) (debugger_state m new set) sent.Done (line_done sends) (elim which [
        | inl acted ↦ one_on Acted new (subst (Advances m limit behind_line new) acted advances)
        | inr stepped ↦ one_on Stepped new (subst (Advances m limit behind_line new) stepped advances)
      ])

  -- the host failed in the move
  pub step_cut : (new : CursorState m) → Sends x.seen after units.Report (at_line x.at.machine.regs.ir x.at.steps) sent.Done → BreaksOn m limit behind_line new → FailsInPart m limit placed step_on (debugger_state m x set) (debugger_state m new set)
  step_cut new sends fails =
      ends_with m limit placed step_on goes_on_one (debugger_state m x set) (debugger_state m behind_line set) (debugger_state m new set) sent.Failed (line_done sends)
      (broke m limit placed goes_on_one behind_line new set fails.frames fails.rose
      (λ c over s are on_it.
      let at = fails.told c s.at s.furthest over.limit_is on_it in
      let here : s.furthest ≡ s.at + 0 = omega (arith, at.0) in
      broken_at m limit placed goes_on_one new c over s 0 (omega (arith, at.0)) (at.1.0, at.1.1, subst (λ i. IsCutTurn limit (nth_place c i) at.1.0) here at.1.2)
      (goes_makes s (s.at + 1) (suc (s.at + 0 - s.furthest)) (omega (arith, at.0)))))

  -- the run can't be over
  no_both : {A : Type 0} (t : Turning) (how : Ending) → t ≡ Ended how → is_step t ≡ true → A
  no_both t how over is = absurd_by (sym (ap is_step over) ∙ is)
    where
      absurd_by : {A : Type 0} → false ≡ true → A
      absurd_by is = cc

  stays_over : (new : CursorState m) (how : Ending) → IsStepAhead m limit x true → Sends x.seen after units.Report (at_line x.at.machine.regs.ir x.at.steps) sent.Done → StaysOn m limit how behind_line new
      → Does m limit placed step_on (debugger_state m x set) (debugger_state m new set)
  stays_over new how next sends stays =
      let said = line_done sends in
      record {
        told = λ c over start s stands.
            no_both (turn limit (nth_place c s.at)) how
            (stays.told c s.at s.furthest over.limit_is (still_on m limit placed x set after (at_line x.at.machine.regs.ir x.at.steps) sends c s.at s.furthest stands.on_it))
            (next c s.at s.furthest over.limit_is stands.on_it);
        fit = stays_fit m limit how behind_line new stays said.fit;
        frames = stays_frames m limit how behind_line new stays x.at.machine x.seen said.frames;
      }

  pub step_over : (new : CursorState m) (how : Ending) → (how ≡ ending.Failed → ⊥) → IsStepAhead m limit x true → Sends x.seen after units.Report (at_line x.at.machine.regs.ir x.at.steps) sent.Done
      → Advances m limit behind_line new (end.Ended how) → Does m limit placed step_on (debugger_state m x set) (debugger_state m new set)
  step_over new how other next sends advances = stays_over new how next sends (not_failed (BreaksOn m limit behind_line new) (λ e. StaysOn m limit e behind_line new) how other advances)

-- how many steps are left, written otherwise
pub steps_left : (m limit : ℕ) (placed : List PlacedText) (k j : ℕ) (f : Course → Session → Session) (first now : DebuggerState m) → k ≡ j → PartsUnderway m limit placed f (steps k) first now → PartsUnderway m limit placed f (steps j) first now
steps_left m limit placed k j f first now same under = subst (λ i. PartsUnderway m limit placed f (steps i) first now) same under

-- STEP, of whose steps some are left: the next of them
module _ (m limit : ℕ) (placed : List PlacedText) (set : List ℕ) (f : Course → Session → Session) (first : DebuggerState m) (k n : ℕ) (old mid : CursorState m) (one : k ≡ suc n)
    (under : PartsUnderway m limit placed f (steps k) first (debugger_state m old set)) where
  abbrev here : DebuggerState m
  here = debugger_state m old set

  abbrev there : DebuggerState m
  there = debugger_state m mid set

  under_one : PartsUnderway m limit placed f (steps (suc n)) first here
  under_one = steps_left m limit placed k (suc n) f first here one under

  -- the step, and the others behind it
  abbrev then_steps : Course → Session → Session
  then_steps c s = steps n c (step_on c s)

  at_step : ToAStep m limit old mid → PartsUnderway m limit placed f then_steps first there
  at_step to = goes_on m limit placed f (steps (suc n)) then_steps first here there under_one
      (moved m limit placed (steps (suc n)) then_steps old mid set to.frames to.fit
      (λ c over s are on_it.
      let led = to.told c s.at s.furthest over.limit_is on_it in
      (led.0, led.2, steps_by c n s ∙ ap (step_by c n s) led.1)))

  -- no step comes any more
  pub stepped_out : (ends : Ending) (after : Seen) (how : Sent) → ToTheEnd m limit turns_to_step ends old mid → Sends mid.seen after units.Report (ending_line ends mid.at.steps) how
      → CarriesPart m limit placed f first (debugger_state m (record mid { seen = after }) set) how
  stepped_out ends after how to sends =
      let last = debugger_state m (record mid { seen = after }) set in
      ends_with m limit placed f (steps (suc n)) first here last how under_one
      (ends_with m limit placed (steps (suc n)) says_end here there last how
      (moved m limit placed (steps (suc n)) says_end old mid set to.frames to.fit
      (λ c over s are on_it.
      let led = to.told c s.at s.furthest over.limit_is on_it in
      (length (places_ahead c s.at), led.1, steps_by c n s ∙ ap (step_by c n s) led.0)))
      (end_said m limit placed mid set after to.fit ends how to.ending sends))

  -- the host failed before the step
  pub step_broke : BreaksOnTheWay m limit turns_to_step old mid → FailsInPart m limit placed f first there
  step_broke fails = ends_with m limit placed f (steps (suc n)) first here there sent.Failed under_one
      (broke m limit placed (steps (suc n)) old mid set fails.frames fails.rose
      (λ c over s are on_it.
      let at = fails.told c s.at s.furthest over.limit_is on_it in
      let o = turns_to_step (places_ahead c s.at) in
      let j = s.at + at.0 - s.furthest in
      broken_at m limit placed (steps (suc n)) mid c over s at.0 at.2 at.3
      (subst (MakesTurns s (suc j)) (sym (steps_by c n s)) (step_makes c n s o (suc j) (omega (arith, at.1, at.2))))))

  -- a step that was made, or in which the host failed
  pub step_then : ToAStep m limit old mid → (last : DebuggerState m) → Does m limit placed step_on there last → PartsUnderway m limit placed f (steps n) first last
  step_then to last does =
      goes_on m limit placed f then_steps (steps n) first there last (at_step to)
      (does_first m limit placed then_steps (steps n) step_on there last (λ c s. refl) does)

  pub step_failed : ToAStep m limit old mid → (last : DebuggerState m) → FailsInPart m limit placed step_on there last → FailsInPart m limit placed f first last
  step_failed to last fails =
      ends_with m limit placed f then_steps first there last sent.Failed (at_step to)
      (fails_first m limit placed then_steps (steps n) step_on there last (λ c s. refl) (λ c s. steps_onward n c s) fails)

-- none is left
pub steps_done : (m limit : ℕ) (placed : List PlacedText) (k : ℕ) (f : Course → Session → Session) (first now : DebuggerState m) → k ≡ 0 → PartsUnderway m limit placed f (steps k) first now → Does m limit placed f first now
unfolding steps
steps_done m limit placed k f first now none under = all_done m limit placed f first now (steps_left m limit placed k 0 f first now none under)
