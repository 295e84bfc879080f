-- Under way to the next stop.
use Rattle.std.proofs.Common.{◌≡◌, ℕ, suc, ◌+◌, ◌⊎◌, ◌&&◌, max, Bool, true, false, List, [], ◌∷◌, inl, inr, refl, ◌∙◌, ap, subst, arith}
use Rattle.std.specs.Prelude.{Some, None, option_map}
use Rattle.cpu_step.proofs.ExactCards.{frames_both}
use Rattle.operator_script.specs.declared.turns.Ending.{Ending}
use Rattle.operator_script.specs.declared.turns.Ending.TheVariants as ending
use Rattle.operator_script.specs.declared.turns.TurnEnd.TheVariants as end
use Rattle.operator_script.specs.Turn.{RunPlace, Turning, Acted, Stepped, turn}
use Rattle.operator_script.proofs.ByEnding.{by_ending, not_failed}
use Rattle.sps_pass_two.specs.Assembled.{PlacedText}
use Rattle.console_debug.specs.Places.{Reached, later, is_at_break, is_stop, turns_to_stop}
use Rattle.console_debug.specs.Session.{Course, nth_place, places_ahead, place_as_seen}
use Rattle.console_debug.specs.CursorStates.{CursorState, IsOn, MovesOn, StaysOn, BreaksOn, Advances, ToAStop, ToTheEnd, BreaksOnTheWay, ToStop, PassesOn}
use Rattle.console_debug.proofs.Courses.{led_by}
use Rattle.cpu_step.specs.declared.machine.Mode.{Mode}
use Rattle.cpu_step.proofs.ExactCards.{state_is}
use Rattle.cpu_step.specs.State.{State}
use Rattle.operator_script.proofs.Running.{place_is}
use Rattle.console_debug.proofs.Passing.{IsPassed, within_limit, passes_by, ends_at, breaks_at}
use Rattle.console_debug.proofs.Later.{later_on}

module _ (placed : List PlacedText) (set : List ℕ) where
  abbrev stops : Mode → ℕ → Bool
  stops mode ir = is_at_break placed set mode ir

  stop_passed : (r : Reached) (rs : List Reached) → is_stop placed set r ≡ false → turns_to_stop placed set (r ∷ rs) ≡ option_map suc (turns_to_stop placed set rs)
  unfolding turns_to_stop
  stop_passed r rs is = rw is refl

  stop_here : (r : Reached) (rs : List Reached) → is_stop placed set r ≡ true → turns_to_stop placed set (r ∷ rs) ≡ Some 1
  unfolding turns_to_stop
  stop_here r rs is = rw is refl

  none_left : turns_to_stop placed set [] ≡ None
  unfolding turns_to_stop
  none_left = refl

  -- after some turns, none of which led to a stop
  abbrev pub StopHeading : (m limit : ℕ) → CursorState m → CursorState m → Type 0
  StopHeading m limit first now = PassesOn m limit (turns_to_stop placed set) first now

  -- mode and IR of the place where it stands are the machine's
  pub judged : (m : ℕ) (c : Course) (n f : ℕ) (x : CursorState m) → IsOn m c n f x → stops (nth_place c n).state.mode (nth_place c n).state.regs.ir ≡ stops x.at.machine.mode x.at.machine.regs.ir
  judged m c n f x on_it =
      let here = place_is m x.at x.seen.world (place_as_seen (nth_place c n) (nth_place c f)) on_it.told in
      ap (λ (s : State). stops s.mode s.regs.ir) (state_is m x.at.machine x.seen.world (place_as_seen (nth_place c n) (nth_place c f)).state here.0)

  module _ (m limit : ℕ) (first now new : CursorState m) (heading : StopHeading m limit first now) where
    -- one move more, which led to no stop
    pub on_by : (leads : RunPlace → Turning) (by_step : Bool) → ((p : RunPlace) → leads p ≡ led_by by_step p) → (by_step ≡ true → stops new.at.machine.mode new.at.machine.regs.ir ≡ false) → MovesOn m limit leads now new → StopHeading m limit first new
    on_by leads by_step is_led none moves = passes_by (turns_to_stop placed set) m limit first now new heading leads by_step is_led
        (λ c n f on_it rs. stop_passed (record { place = nth_place c n; by_step = by_step }) rs (by_kind by_step refl (λ step. judged m c n f new on_it ∙ none step))) moves
      where
        by_kind : {x : Bool} (b : Bool) → by_step ≡ b → (by_step ≡ true → x ≡ false) → (b && x) ≡ false
        by_kind true is none = none is
        by_kind false is none = refl

    pub acted_on : MovesOn m limit Acted now new → StopHeading m limit first new
    acted_on moves = on_by Acted false (λ p. refl) (λ is. absurd_by is) moves
      where
        absurd_by : {A : Type 0} → false ≡ true → A
        absurd_by is = cc

    pub stepped_on : stops new.at.machine.mode new.at.machine.regs.ir ≡ false → MovesOn m limit Stepped now new → StopHeading m limit first new
    stepped_on none moves = on_by Stepped true (λ p. refl) (λ is. none) moves

    -- it led to a stop
    pub stopped_on : stops new.at.machine.mode new.at.machine.regs.ir ≡ true → MovesOn m limit Stepped now new → ToAStop m limit placed set first new
    stopped_on here moves = record {
      told = λ c n f within on_first.
          let head = heading.told c n f within on_first in
          let j = head.turns in
          let q = nth_place c (suc (n + j)) in
          let moved = moves.told c (n + j) (max f (n + j)) within head.on_it in
          let led : turn c.limit (nth_place c (n + j)) ≡ led_by true q = ap (λ i. turn i (nth_place c (n + j))) within ∙ moved.0 in
          let later_is = later_on c.limit true (nth_place c (n + j)) q (within_limit m limit c (n + j) (max f (n + j)) now within heading.fit head.on_it) led in
          let one : suc (n + j) ≡ n + (j + 1) = omega arith in
          let furthest : max (max f (n + j)) (suc (n + j)) ≡ max f (n + (j + 1)) = omega arith in
          let is_stop : is_stop placed set (record { place = q; by_step = true }) ≡ true = judged m c (suc (n + j)) (max (max f (n + j)) (suc (n + j))) new moved.1 ∙ here in (
            j + 1,
            head.ahead ∙ ap (λ (rs : List Reached). option_map (λ k. j + k) (turns_to_stop placed set rs)) later_is ∙ ap (option_map (λ k. j + k)) (stop_here (record { place = q; by_step = true }) (places_ahead c (suc (n + j))) is_stop),
            subst (λ i. IsOn m c (n + (j + 1)) i new) furthest (subst (λ i. IsOn m c i (max (max f (n + j)) (suc (n + j))) new) one moved.1),
          );
      fit = moves.fit;
      frames = frames_both m first.at.machine now.at.machine new.at.machine first.seen now.seen new.seen heading.frames moves.frames;
    }

    -- a turn leads to a stop, or past a place
    stops_or_passes : (b : Bool) (r : Reached) (rs : List Reached) → is_stop placed set r ≡ b → IsPassed (turns_to_stop placed set) r rs ⊎ (turns_to_stop placed set (r ∷ rs) ≡ Some 1)
    stops_or_passes true r rs is = inr (stop_here r rs is)
    stops_or_passes false r rs is = inl (stop_passed r rs is)

    pub ends_on : (how : Ending) → Advances m limit now new (end.Ended how) → ToStop m limit placed set first new (Some how)
    ends_on how advances =
        by_ending (BreaksOn m limit now new) (BreaksOnTheWay m limit (turns_to_stop placed set) first new) (λ e. StaysOn m limit e now new) (λ e. ToTheEnd m limit (turns_to_stop placed set) e first new)
        (breaks_at (turns_to_stop placed set) m limit first now new heading (λ c n f within on_it by_step q led. stops_or_passes (is_stop placed set (record { place = q; by_step = by_step })) (record { place = q; by_step = by_step }) (later c.limit q) refl))
        (ends_at (turns_to_stop placed set) m limit first now new heading none_left) how advances

  -- a move that ended otherwise than by a failure came to the end
  pub to_the_last : (m limit : ℕ) (old new : CursorState m) (how : Ending) → (how ≡ ending.Failed → ⊥) → ToStop m limit placed set old new (Some how) → ToTheEnd m limit (turns_to_stop placed set) how old new
  to_the_last m limit old new = not_failed (BreaksOnTheWay m limit (turns_to_stop placed set) old new) (λ e. ToTheEnd m limit (turns_to_stop placed set) e old new)
