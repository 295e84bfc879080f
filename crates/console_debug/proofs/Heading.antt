-- Under way to the next step.
use Rattle.std.proofs.Common.{◌≡◌, ℕ, suc, ◌+◌, ◌≤◌, ◌⊎◌, max, Bool, true, false, List, [], ◌∷◌, inl, inr, refl, sym, ◌∙◌, ap, subst, arith}
use Rattle.std.specs.Prelude.{Some, None, option_map}
use Rattle.cpu_step.proofs.ExactCards.{frames_both}
use Rattle.operator_script.specs.declared.turns.Ending.{Ending}
use Rattle.operator_script.specs.declared.turns.Ending.TheVariants as ending
use Rattle.operator_script.specs.declared.turns.TurnEnd.TheVariants as end
use Rattle.operator_script.specs.declared.turns.TurnEnd.{TurnEnd}
use Rattle.operator_script.specs.Turn.{RunPlace, Turning, Acted, Stepped, Ended, turn, is_step}
use Rattle.operator_script.proofs.ByEnding.{by_ending, not_failed}
use Rattle.console_debug.specs.Places.{Reached, later, turns_to_step}
use Rattle.console_debug.specs.Session.{Course, nth_place}
use Rattle.console_debug.specs.CursorStates.{CursorState, IsOn, MovesOn, StaysOn, BreaksOn, Advances, IsStepAhead, ToAStep, ToTheEnd, BreaksOnTheWay, ToStep, PassesOn, moves_left}
use Rattle.console_debug.proofs.Courses.{led_by}
use Rattle.console_debug.proofs.Later.{later_on}
use Rattle.console_debug.proofs.Passing.{IsPassed, within_limit, passes_by, ends_at, breaks_at}

step_by : (by_step : Bool) (q : RunPlace) → is_step (led_by by_step q) ≡ by_step
step_by true q = refl
step_by false q = refl

-- a move on tells whether a step comes next
pub next_step : (m limit : ℕ) (by_step : Bool) (x new : CursorState m) → MovesOn m limit (led_by by_step) x new → IsStepAhead m limit x by_step
next_step m limit by_step x new moves c n f within on_it = ap is_step (moves.told c n f within on_it).0 ∙ step_by by_step (nth_place c (suc n))

pub no_step : (q : RunPlace) (rs : List Reached) → turns_to_step (record { place = q; by_step = false } ∷ rs) ≡ option_map suc (turns_to_step rs)
unfolding turns_to_step
no_step q rs = refl

nothing : turns_to_step [] ≡ None
unfolding turns_to_step
nothing = refl

here : (j : ℕ) (q : RunPlace) (rs : List Reached) → option_map (λ k. j + k) (turns_to_step (record { place = q; by_step = true } ∷ rs)) ≡ Some (j + 0)
unfolding turns_to_step
here j q rs = refl

-- after some turns, none of which was a step
abbrev pub Heading : (m limit : ℕ) → CursorState m → CursorState m → Type 0
Heading m limit first now = PassesOn m limit turns_to_step first now

module _ (m limit : ℕ) (first now new : CursorState m) (heading : Heading m limit first now) where
  -- a turn that was no step
  pub acts_on : MovesOn m limit Acted now new → Heading m limit first new
  acts_on moves = passes_by turns_to_step m limit first now new heading Acted false (λ p. refl) (λ c n f on_it rs. no_step (nth_place c n) rs) moves

  -- a step can't have been made
  pub steps_on : IsStepAhead m limit now false → MovesOn m limit Stepped now new → Heading m limit first new
  steps_on none moves = record {
    told = λ c n f within on_first.
        let head = heading.told c n f within on_first in
        let moved = moves.told c (n + head.turns) (max f (n + head.turns)) within head.on_it in
        no_both (is_step (turn limit (nth_place c (n + head.turns)))) (ap is_step moved.0) (none c (n + head.turns) (max f (n + head.turns)) within head.on_it);
    fit = moves.fit;
    frames = frames_both m first.at.machine now.at.machine new.at.machine first.seen now.seen new.seen heading.frames moves.frames;
  }
    where
      no_both : {A : Type 0} (b : Bool) → b ≡ true → b ≡ false → A
      no_both true is other = cc
      no_both false is other = cc

  pub moves_on : (r : TurnEnd) → IsStepAhead m limit now false → (r ≡ end.Acted) ⊎ (r ≡ end.Stepped) → Advances m limit now new r → Heading m limit first new × (suc (moves_left m limit new) ≤ moves_left m limit now)
  moves_on r none which advances = elim which [
    | inl acted ↦ let moves : MovesOn m limit Acted now new = subst (Advances m limit now new) acted advances in (acts_on moves, moves.fewer)
    | inr stepped ↦ let moves : MovesOn m limit Stepped now new = subst (Advances m limit now new) stepped advances in (steps_on none moves, moves.fewer)
  ]

  -- a turn that is no step leads past a place
  no_step_led : IsStepAhead m limit now false → (c : Course) (n f : ℕ) → c.limit ≡ limit → IsOn m c n f now → (by_step : Bool) (q : RunPlace) → turn limit (nth_place c n) ≡ led_by by_step q
      → (rs : List Reached) → IsPassed turns_to_step (record { place = q; by_step = by_step }) rs
  no_step_led none c n f within on_it by_step q led rs =
      let no : by_step ≡ false = sym (step_by by_step q) ∙ sym (ap is_step led) ∙ none c n f within on_it in
      ap (λ b. turns_to_step (record { place = q; by_step = b } ∷ rs)) no ∙ no_step q rs

  pub ends_on : (how : Ending) → IsStepAhead m limit now false → Advances m limit now new (end.Ended how) → ToStep m limit first new (Some how)
  ends_on how none advances =
      by_ending (BreaksOn m limit now new) (BreaksOnTheWay m limit turns_to_step first new) (λ e. StaysOn m limit e now new) (λ e. ToTheEnd m limit turns_to_step e first new)
      (breaks_at turns_to_step m limit first now new heading (λ c n f within on_it by_step q led. inl (no_step_led none c n f within on_it by_step q led (later c.limit q))))
      (ends_at turns_to_step m limit first now new heading nothing) how advances

-- a move that ended otherwise than by a failure came to the end
pub to_the_end : (m limit : ℕ) (old new : CursorState m) (how : Ending) → (how ≡ ending.Failed → ⊥) → ToStep m limit old new (Some how) → ToTheEnd m limit turns_to_step how old new
to_the_end m limit old new = not_failed (BreaksOnTheWay m limit turns_to_step old new) (λ e. ToTheEnd m limit turns_to_step e old new)

-- the step comes next
pub step_there : (m limit : ℕ) (first now : CursorState m) → Heading m limit first now → IsStepAhead m limit now true → ToAStep m limit first now
step_there m limit first now heading next = record {
  told = λ c n f within on_first.
      let head = heading.told c n f within on_first in
      let j = head.turns in
      let p = nth_place c (n + j) in
      let is : is_step (turn c.limit p) ≡ true = ap (λ i. is_step (turn i p)) within ∙ next c (n + j) (max f (n + j)) within head.on_it in
      let led = step_led (turn c.limit p) is in
      let ahead_is = later_on c.limit true p led.0 (within_limit m limit c (n + j) (max f (n + j)) now within heading.fit head.on_it) led.1 in
      let none_more : j + 0 ≡ j = omega arith in
      (j, head.ahead ∙ ap (λ (rs : List Reached). option_map (λ k. j + k) (turns_to_step rs)) ahead_is ∙ here j led.0 (later c.limit led.0) ∙ ap Some none_more, head.on_it);
  next = next;
  fit = heading.fit;
  frames = heading.frames;
}
  where
    step_led : (t : Turning) → is_step t ≡ true → (q : RunPlace) × (t ≡ led_by true q)
    step_led (Acted q) is = cc
    step_led (Stepped q) is = (q, refl)
    step_led (Ended how) is = cc
