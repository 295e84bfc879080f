-- The places ahead, as they are one turn on.
use Rattle.std.proofs.Common.{◌≡◌, ℕ, zero, suc, ◌≤◌, Bool, true, false, List, [], ◌∷◌, refl, sym, ◌∙◌, ap, subst, arith}
use Rattle.operator_script.specs.declared.turns.Ending.{Ending}
use Rattle.operator_script.specs.Turn.{RunPlace, Turning, Acted, Stepped, Ended, turn, most_turns, ending_of}
use Rattle.operator_script.proofs.Turning.{Less, Follows, turn_follows}
use Rattle.operator_script.proofs.LastPlace.{ends_here}
use Rattle.console_debug.specs.Places.{Reached, later_within, later}
use Rattle.console_debug.proofs.Courses.{led_by}

abbrev behind : ℕ → ℕ → Turning → List Reached
behind limit n t = elim t [
  | Acted q ↦ record { place = q; by_step = false } ∷ later_within limit n q
  | Stepped q ↦ record { place = q; by_step = true } ∷ later_within limit n q
  | Ended how ↦ []
]

-- where the run ends there is none
none_behind : (limit n : ℕ) (p : RunPlace) (how : Ending) → turn limit p ≡ Ended how → later_within limit n p ≡ []
unfolding later_within
none_behind limit zero p how is = refl
none_behind limit (suc n) p how is = ap (behind limit n) is

-- turns that the run doesn't make add none
later_same : (limit n k : ℕ) (p : RunPlace) → p.steps ≤ limit → most_turns limit p ≤ n → most_turns limit p ≤ k → later_within limit n p ≡ later_within limit k p
unfolding later_within
later_same limit zero k p within h j = sym (none_behind limit k p (ending_of p.state) (ends_here limit p (turn limit p) (turn_follows limit p within) h))
later_same limit (suc n) zero p within h j = none_behind limit (suc n) p (ending_of p.state) (ends_here limit p (turn limit p) (turn_follows limit p within) j)
later_same limit (suc n) (suc k) p within h j = by_turn limit n k p (turn limit p) (turn_follows limit p within) h j (λ q. later_same limit n k q)
  where
    by_turn : (limit n k : ℕ) (p : RunPlace) (t : Turning) → Follows limit p t → most_turns limit p ≤ suc n → most_turns limit p ≤ suc k
        → ((q : RunPlace) → q.steps ≤ limit → most_turns limit q ≤ n → most_turns limit q ≤ k → later_within limit n q ≡ later_within limit k q) → behind limit n t ≡ behind limit k t
    by_turn limit n k p (Acted q) follows h j rest =
        let less = follows.less in ap (λ (rs : List Reached). record { place = q; by_step = false } ∷ rs) (rest q follows.within (omega arith) (omega arith))
    by_turn limit n k p (Stepped q) follows h j rest =
        let less = follows.less in ap (λ (rs : List Reached). record { place = q; by_step = true } ∷ rs) (rest q follows.within (omega arith) (omega arith))
    by_turn limit n k p (Ended how) follows h j rest = refl

less_led : (limit : ℕ) (by_step : Bool) (p q : RunPlace) → Follows limit p (led_by by_step q) → Less limit p q
less_led limit true p q follows = follows
less_led limit false p q follows = follows

behind_led : (limit n : ℕ) (by_step : Bool) (q : RunPlace) → behind limit n (led_by by_step q) ≡ record { place = q; by_step = by_step } ∷ later_within limit n q
behind_led limit n true q = refl
behind_led limit n false q = refl

later_from : (limit n : ℕ) (by_step : Bool) (p q : RunPlace) → turn limit p ≡ led_by by_step q → Less limit p q → most_turns limit p ≤ n → later_within limit n p ≡ record { place = q; by_step = by_step } ∷ later limit q
unfolding later_within
later_from limit zero by_step p q is less h = let k = less.less in absurd (omega arith)
later_from limit (suc n) by_step p q is less h =
    let k = less.less in
    ap (behind limit n) is ∙ behind_led limit n by_step q ∙ ap (λ (rs : List Reached). record { place = q; by_step = by_step } ∷ rs) (later_same limit n (most_turns limit q) q less.within (omega arith) (omega arith))

-- one turn on
pub later_on : (limit : ℕ) (by_step : Bool) (p q : RunPlace) → p.steps ≤ limit → turn limit p ≡ led_by by_step q → later limit p ≡ record { place = q; by_step = by_step } ∷ later limit q
later_on limit by_step p q within is =
    let less = less_led limit by_step p q (subst (Follows limit p) is (turn_follows limit p within)) in
    later_from limit (most_turns limit p) by_step p q is less (omega arith)

-- and at the end
pub later_none : (limit : ℕ) (p : RunPlace) (how : Ending) → turn limit p ≡ Ended how → later limit p ≡ []
later_none limit p how is = none_behind limit (most_turns limit p) p how is
