-- The places of a course by their numbers.
use Rattle.std.proofs.Common.{◌≡◌, ℕ, zero, suc, ◌+◌, ◌-◌, ◌≤◌, nat_lt, Bool, true, false, if◌then◌else◌, refl, sym, ◌∙◌, ap, subst, arith}
use Rattle.std.specs.Prelude.{Some, ⊤}
use Rattle.std.proofs.lemmas.Bool.Decides.{nat_tests}
use Rattle.operator_script.specs.Turn.{RunPlace, Turning, Acted, Stepped, Ended, turn, place_after, last_within}
use Rattle.operator_script.proofs.Turning.{turn_holds}
use Rattle.operator_script.proofs.LastPlace.{on, last_on, last_from}
use Rattle.console_debug.specs.Session.{Course, nth_place}

-- the turn that led to a place
abbrev pub led_by : Bool → RunPlace → Turning
led_by by_step p = if by_step then Stepped p else Acted p

-- a place that is reached by some turns is the last within as many
pub after_last : (limit n : ℕ) (p q : RunPlace) → place_after limit n p ≡ Some q → last_within limit n p ≡ q
unfolding last_within
after_last limit n p q here = let e : n ≡ n + 0 = omega arith in ap (λ j. last_within limit j p) e ∙ last_from n 0 limit p q here

next_on : (limit n : ℕ) (p : RunPlace) (t : Turning) → turn limit p ≡ t → ((q : RunPlace) → last_within limit (suc n) q ≡ last_on limit 0 (last_within limit n q) (turn limit (last_within limit n q)))
    → last_on limit (suc n) p t ≡ last_on limit 0 (last_on limit n p t) (turn limit (last_on limit n p t))
next_on limit n p (Acted q) is rest = rest q
next_on limit n p (Stepped q) is rest = rest q
next_on limit n p (Ended how) is rest = sym (ap (last_on limit 0 p) is)

-- the last within one turn more is one turn on from there, or stays where the run has ended
pub last_next : (limit n : ℕ) (p : RunPlace) → last_within limit (suc n) p ≡ last_on limit 0 (last_within limit n p) (turn limit (last_within limit n p))
unfolding last_within
last_next limit zero p = refl
last_next limit (suc n) p = next_on limit n p (turn limit p) refl (last_next limit n)

-- what is reached by some turns more is reached behind the first of them
pub record Split (limit n k : ℕ) (p q : RunPlace) : Type 0 where
  pub mid : RunPlace
  pub first : place_after limit n p ≡ Some mid
  pub second : place_after limit k mid ≡ Some q

split_on : (limit n k : ℕ) (q : RunPlace) (t : Turning) → on limit (n + k) t ≡ Some q → ((r : RunPlace) → place_after limit (n + k) r ≡ Some q → Split limit n k r q)
    → (mid : RunPlace) × ((on limit n t ≡ Some mid) × (place_after limit k mid ≡ Some q))
split_on limit n k q (Acted r) here rest = let s = rest r here in (s.mid, (s.first, s.second))
split_on limit n k q (Stepped r) here rest = let s = rest r here in (s.mid, (s.first, s.second))
split_on limit n k q (Ended how) here rest = cc

pub splits : (limit n k : ℕ) (p q : RunPlace) → place_after limit (n + k) p ≡ Some q → Split limit n k p q
unfolding place_after
splits limit zero k p q here =
    let none : 0 + k ≡ k = omega arith in
    record { mid = p; first = refl; second = rw none at here }
splits limit (suc n) k p q here =
    let more : suc n + k ≡ suc (n + k) = omega arith in
    let there : place_after limit (suc (n + k)) p ≡ Some q = ap (λ j. place_after limit j p) (sym more) ∙ here in
    let s = split_on limit n k q (turn limit p) there (λ r from. splits limit n k r q from) in
    record { mid = s.0; first = s.1.0; second = s.1.1 }

-- one turn
led_on : (limit : ℕ) (q : RunPlace) (t : Turning) → on limit 0 t ≡ Some q → (by_step : Bool) × (t ≡ led_by by_step q)
unfolding place_after
led_on limit q (Acted r) here = let same : r ≡ q = cc in (false, ap Acted same)
led_on limit q (Stepped r) here = let same : r ≡ q = cc in (true, ap Stepped same)
led_on limit q (Ended how) here = cc

pub led_there : (limit : ℕ) (p q : RunPlace) → place_after limit 1 p ≡ Some q → (by_step : Bool) × (turn limit p ≡ led_by by_step q)
unfolding place_after
led_there limit p q here = led_on limit q (turn limit p) here

module _ (c : Course) (f : ℕ) (reached : place_after c.limit f c.first ≡ Some (nth_place c f)) where
  -- each place before the furthest
  pub reached_before : (n : ℕ) → n ≤ f → place_after c.limit n c.first ≡ Some (nth_place c n)
  reached_before n before =
      let all : n + (f - n) ≡ f = omega (arith, before) in
      let s = splits c.limit n (f - n) c.first (nth_place c f) (ap (λ j. place_after c.limit j c.first) all ∙ reached) in
      s.first ∙ ap Some (sym (after_last c.limit n c.first s.mid s.first))

  -- the turn between two of them
  pub turn_between : (n : ℕ) → suc n ≤ f → (by_step : Bool) × (turn c.limit (nth_place c n) ≡ led_by by_step (nth_place c (suc n)))
  turn_between n before =
      let one : n + 1 ≡ suc n = omega arith in
      let s = splits c.limit n 1 c.first (nth_place c (suc n)) (ap (λ j. place_after c.limit j c.first) one ∙ reached_before (suc n) before) in
      let here : s.mid ≡ nth_place c n = sym (after_last c.limit n c.first s.mid s.first) in
      subst (λ (p : RunPlace). (by_step : Bool) × (turn c.limit p ≡ led_by by_step (nth_place c (suc n)))) here (led_there c.limit s.mid (nth_place c (suc n)) s.second)

-- A step counts one more, and what the operator does nothing.

abbrev pub Counts : RunPlace → Turning → Type 0
Counts p (Acted q) = q.steps ≡ p.steps
Counts p (Stepped q) = q.steps ≡ p.steps + 1
Counts p (Ended how) = ⊤

pub turn_counts : (limit : ℕ) (p : RunPlace) → Counts p (turn limit p)
turn_counts limit p = turn_holds limit p (Counts p) (λ a is. refl) (λ below. refl) tt

less_false : (a b : ℕ) → b ≡ a → false ≡ nat_lt a b
less_false a b same = grind (arith, nat_tests)

less_true : (a b : ℕ) → b ≡ a + 1 → true ≡ nat_lt a b
less_true a b more = grind (arith, nat_tests)

-- so the counts tell what the turn was
pub led_by_count : (limit : ℕ) (p q : RunPlace) (by_step : Bool) → turn limit p ≡ led_by by_step q → by_step ≡ nat_lt p.steps q.steps
led_by_count limit p q false is = less_false p.steps q.steps (subst (Counts p) is (turn_counts limit p))
led_by_count limit p q true is = less_true p.steps q.steps (subst (Counts p) is (turn_counts limit p))
