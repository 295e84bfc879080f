-- Under way over the places ahead, none of which is the one that is looked for.
use Rattle.std.proofs.Common.{◌≡◌, ℕ, suc, ◌+◌, ◌<◌, ◌≤◌, ◌⊎◌, max, Bool, true, false, List, [], ◌∷◌, length, inl, inr, refl, sym, ◌∙◌, ap, subst, arith}
use Rattle.std.specs.Prelude.{Option, Some, None, option_map}
use Rattle.cpu_step.proofs.ShownStates.{frames_same}
use Rattle.cpu_step.proofs.ExactCards.{frames_both}
use Rattle.operator_script.specs.declared.turns.Ending.{Ending}
use Rattle.operator_script.specs.Turn.{RunPlace, Turning, Ended, turn, place_after_step, IsCutTurn, in_step, in_load}
use Rattle.console_debug.specs.Places.{Reached, later}
use Rattle.console_debug.specs.Session.{Course, nth_place, places_ahead}
use Rattle.console_debug.specs.CursorStates.{CursorState, IsOn, IsFit, IsLed, MovesOn, StaysOn, BreaksOn, ToTheEnd, BreaksOnTheWay, PassesOn, turns_or_all}
use Rattle.console_debug.proofs.Looking.{stays_on, stays_fit, stays_frames}
use Rattle.console_debug.proofs.Courses.{led_by}
use Rattle.console_debug.proofs.Later.{later_on, later_none}
use Rattle.console_debug.proofs.Stepping.{count_told}

same_option : (o : Option ℕ) → o ≡ option_map (λ k. 0 + k) o
same_option None = refl
same_option (Some k) = ap Some (omega arith)

option_more : (j : ℕ) (o p : Option ℕ) → o ≡ option_map suc p → option_map (λ k. j + k) o ≡ option_map (λ k. suc j + k) p
option_more j o None is = ap (option_map (λ k. j + k)) is
option_more j o (Some k) is = ap (option_map (λ k. j + k)) is ∙ ap Some (omega arith)

-- a turn that is cut short would have led to a place
cut_leads : (limit : ℕ) (p q : RunPlace) → IsCutTurn limit p q → (by_step : Bool) × (r : RunPlace) × (turn limit p ≡ led_by by_step r)
cut_leads limit p q (in_step done turned is) = (true, place_after_step p, turned)
cut_leads limit p q (in_load done rest due turned is) = (false, _, turned)

-- within the limit
pub within_limit : (m limit : ℕ) (c : Course) (n f : ℕ) (x : CursorState m) → c.limit ≡ limit → IsFit m limit x → IsOn m c n f x → (nth_place c n).steps ≤ c.limit
within_limit m limit c n f x within fit on_it = let here = count_told m x.at x.seen.world (nth_place c n) (nth_place c f) on_it.told in omega (arith, here, within, fit.within)

module _ (turns_to : List Reached → Option ℕ) where
  pub sets_out : (m limit : ℕ) (x : CursorState m) → IsFit m limit x → PassesOn m limit turns_to x x
  sets_out m limit x fit = record {
    told = λ c n f within on_it.
        let none : n ≡ n + 0 = omega arith in
        let furthest : f ≡ max f (n + 0) = omega (arith, on_it.number) in
        record {
          turns = 0;
          on_it = subst (λ i. IsOn m c (n + 0) i x) furthest (subst (λ i. IsOn m c i f x) none on_it);
          ahead = same_option (turns_to (places_ahead c n)) ∙ ap (λ i. option_map (λ k. 0 + k) (turns_to (places_ahead c i))) none;
          all = omega (arith, ap (λ i. length (places_ahead c i)) none);
        };
    fit = fit;
    frames = frames_same m x.at.machine x.at.machine x.seen refl refl;
  }

  -- a place in front of others is passed
  abbrev pub IsPassed : Reached → List Reached → Type 0
  IsPassed r rs = turns_to (r ∷ rs) ≡ option_map suc (turns_to rs)

  module _ (m limit : ℕ) (first now new : CursorState m) (passes : PassesOn m limit turns_to first now) where
    -- one move more, to a place that is passed
    pub passes_by : (leads : RunPlace → Turning) (by_step : Bool) → ((p : RunPlace) → leads p ≡ led_by by_step p)
        → ((c : Course) (n f : ℕ) → IsOn m c n f new → (rs : List Reached) → IsPassed (record { place = nth_place c n; by_step = by_step }) rs) → MovesOn m limit leads now new → PassesOn m limit turns_to first new
    passes_by leads by_step is_led passed moves = record {
      told = λ c n f within on_first.
          let head = passes.told c n f within on_first in
          let j = head.turns in
          let q = nth_place c (suc (n + j)) in
          let moved = moves.told c (n + j) (max f (n + j)) within head.on_it in
          let led : turn c.limit (nth_place c (n + j)) ≡ led_by by_step q = ap (λ i. turn i (nth_place c (n + j))) within ∙ moved.0 ∙ is_led q in
          let later_is = later_on c.limit by_step (nth_place c (n + j)) q (within_limit m limit c (n + j) (max f (n + j)) now within passes.fit head.on_it) led in
          let one : suc (n + j) ≡ n + suc j = omega arith in
          let furthest : max (max f (n + j)) (suc (n + j)) ≡ max f (n + suc j) = omega arith in
          let ahead_is : turns_to (places_ahead c (n + j)) ≡ option_map suc (turns_to (places_ahead c (suc (n + j)))) =
          ap turns_to later_is ∙ passed c (suc (n + j)) (max (max f (n + j)) (suc (n + j))) moved.1 (places_ahead c (suc (n + j))) in
          record {
            turns = suc j;
            on_it = subst (λ i. IsOn m c (n + suc j) i new) furthest (subst (λ i. IsOn m c i (max (max f (n + j)) (suc (n + j))) new) one moved.1);
            ahead = head.ahead ∙ option_more j (turns_to (places_ahead c (n + j))) (turns_to (places_ahead c (suc (n + j)))) ahead_is ∙ ap (λ i. option_map (λ k. suc j + k) (turns_to (places_ahead c i))) one;
            all =
                let longer : length (places_ahead c (n + j)) ≡ suc (length (places_ahead c (suc (n + j)))) = ap length later_is in
                let same : length (places_ahead c (suc (n + j))) ≡ length (places_ahead c (n + suc j)) = ap (λ i. length (places_ahead c i)) one in
                omega (arith, head.all, longer, same);
          };
      fit = moves.fit;
      frames = frames_both m first.at.machine now.at.machine new.at.machine first.seen now.seen new.seen passes.frames moves.frames;
    }

    -- the run is over
    pub ends_at : turns_to [] ≡ None → (how : Ending) → StaysOn m limit how now new → ToTheEnd m limit turns_to how first new
    ends_at none_left how stays = record {
      told = λ c n f within on_first.
          let head = passes.told c n f within on_first in
          let j = head.turns in
          let over : turn c.limit (nth_place c (n + j)) ≡ Ended how = ap (λ i. turn i (nth_place c (n + j))) within ∙ stays.told c (n + j) (max f (n + j)) within head.on_it in
          let none = later_none c.limit (nth_place c (n + j)) how over in
          let last : j ≡ length (places_ahead c n) = omega (arith, head.all, ap length none) in (
            head.ahead ∙ ap (λ (rs : List Reached). option_map (λ k. j + k) (turns_to rs)) none ∙ ap (option_map (λ k. j + k)) none_left,
            subst (λ i. IsLed m c n f i new) last (stays_on m limit how now new stays c (n + j) (max f (n + j)) head.on_it),
          );
      ending = stays.ending;
      fit = stays_fit m limit how now new stays passes.fit;
      frames = stays_frames m limit how now new stays first.at.machine first.seen passes.frames;
    }

    -- the host failed in a turn that leads past a place, or to the one that is looked for
    pub breaks_at : ((c : Course) (n f : ℕ) → c.limit ≡ limit → IsOn m c n f now → (by_step : Bool) (q : RunPlace) → turn limit (nth_place c n) ≡ led_by by_step q
        → IsPassed (record { place = q; by_step = by_step }) (later c.limit q) ⊎ (turns_to (record { place = q; by_step = by_step } ∷ later c.limit q) ≡ Some 1)) → BreaksOn m limit now new → BreaksOnTheWay m limit turns_to first new
    breaks_at leads broke = record {
      told = λ c n f within on_first.
          let head = passes.told c n f within on_first in
          let j = head.turns in
          let at = broke.told c (n + j) (max f (n + j)) within head.on_it in
          let reached : f ≤ n + j = omega (arith, at.0) in
          let is_cut : IsCutTurn limit (nth_place c (n + j)) at.1.0 = subst (λ i. IsCutTurn limit (nth_place c i) at.1.0) (sym at.0) at.1.2 in
          let led = cut_leads limit (nth_place c (n + j)) at.1.0 is_cut in
          let led_c : turn c.limit (nth_place c (n + j)) ≡ led_by led.0 led.1 = ap (λ i. turn i (nth_place c (n + j))) within ∙ led.2 in
          let ahead_is = later_on c.limit led.0 (nth_place c (n + j)) led.1 (within_limit m limit c (n + j) (max f (n + j)) now within passes.fit head.on_it) led_c in
          let within_all : j < length (places_ahead c n) = omega (arith, head.all, ap length ahead_is) in (
            j,
            before_it j (length (places_ahead c n)) (turns_to (places_ahead c n)) (record { place = led.1; by_step = led.0 }) (later c.limit led.1)
                (head.ahead ∙ ap (λ (rs : List Reached). option_map (λ k. j + k) (turns_to rs)) ahead_is) within_all (leads c (n + j) (max f (n + j)) within head.on_it led.0 led.1 led.2),
            reached,
            (at.1.0, at.1.1, is_cut),
          );
      within = broke.within;
      rose = omega (arith, passes.frames.later, broke.rose);
      frames = frames_both m first.at.machine now.at.machine new.at.machine first.seen now.seen new.seen passes.frames broke.frames;
    }
      where
        past_it : (j all : ℕ) (rest o : Option ℕ) → o ≡ option_map (λ k. j + k) (option_map suc rest) → j < all → j < turns_or_all o all
        past_it j all None o is inside = subst (λ (x : Option ℕ). j < turns_or_all x all) (sym is) inside
        past_it j all (Some k) o is inside = subst (λ (x : Option ℕ). j < turns_or_all x all) (sym is) (omega arith)

        before_it : (j all : ℕ) (o : Option ℕ) (r : Reached) (rs : List Reached) → o ≡ option_map (λ k. j + k) (turns_to (r ∷ rs)) → j < all → IsPassed r rs ⊎ (turns_to (r ∷ rs) ≡ Some 1) → j < turns_or_all o all
        before_it j all o r rs is inside (inl passed) = past_it j all (turns_to rs) o (is ∙ ap (option_map (λ k. j + k)) passed) inside
        before_it j all o r rs is inside (inr here) = subst (λ (x : Option ℕ). j < turns_or_all x all) (sym (is ∙ ap (option_map (λ k. j + k)) here)) (omega arith)
