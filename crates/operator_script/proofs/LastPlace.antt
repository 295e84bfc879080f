-- The places of a run: it comes to its last one within the turns that are counted, and that ends it.
use Rattle.std.proofs.Common.{◌≡◌, ℕ, zero, suc, ◌+◌, ◌≤◌, refl, ◌∙◌, ap, arith}
use Rattle.std.specs.Prelude.{Option, Some, None}
use Rattle.operator_script.specs.declared.turns.Ending.{Ending}
use Rattle.operator_script.specs.Turn.{RunPlace, Turning, Acted, Stepped, Ended, turn, place_after, last_within, last_place, most_turns, ending_of, IsLast}
use Rattle.operator_script.proofs.Turning.{Follows, turn_follows}

-- what follows one turn
abbrev pub on : (limit n : ℕ) → Turning → Option RunPlace
on limit n t = elim t [ Acted q ↦ place_after limit n q | Stepped q ↦ place_after limit n q | Ended how ↦ None ]

abbrev pub last_on : (limit n : ℕ) → RunPlace → Turning → RunPlace
last_on limit n p t = elim t [ Acted q ↦ last_within limit n q | Stepped q ↦ last_within limit n q | Ended how ↦ p ]

last_now : (limit n : ℕ) (p : RunPlace) (how : Ending) → turn limit p ≡ Ended how → last_within limit n p ≡ p
unfolding last_within
last_now limit zero p how is = refl
last_now limit (suc n) p how is = ap (last_on limit n p) is

-- one more turn was made, and the rest comes to the last place
one_on : (limit n k : ℕ) (p q : RunPlace) (t : Turning) → Follows limit p t → most_turns limit p ≤ n → on limit k t ≡ Some q
    → ((r : RunPlace) (j : ℕ) → r.steps ≤ limit → most_turns limit r ≤ j → place_after limit k r ≡ Some q → last_within limit j r ≡ q) → turn limit p ≡ t → last_within limit n p ≡ q
unfolding last_within
one_on limit zero k p q (Acted r) less h reached rest is = let l = less.less in absurd (omega arith)
one_on limit (suc n) k p q (Acted r) less h reached rest is = let l = less.less in ap (last_on limit n p) is ∙ rest r n less.within (omega arith) reached
one_on limit zero k p q (Stepped r) less h reached rest is = let l = less.less in absurd (omega arith)
one_on limit (suc n) k p q (Stepped r) less h reached rest is = let l = less.less in ap (last_on limit n p) is ∙ rest r n less.within (omega arith) reached
one_on limit n k p q (Ended how) less h reached rest is = cc

-- who has made enough turns stands at the place where the run ends
pub ends_at : (limit n k : ℕ) (p q : RunPlace) (how : Ending) → p.steps ≤ limit → most_turns limit p ≤ n → place_after limit k p ≡ Some q → turn limit q ≡ Ended how → last_within limit n p ≡ q
unfolding place_after
ends_at limit n zero p q how within h reached ends = let same : p ≡ q = cc in last_now limit n p how (ap (turn limit) same ∙ ends) ∙ same
ends_at limit n (suc k) p q how within h reached ends =
    one_on limit n k p q (turn limit p) (turn_follows limit p within) h reached (λ r j near more there. ends_at limit j k r q how near more there ends) refl

-- so there is one last place
pub last_is : (limit : ℕ) (first : RunPlace) (n : ℕ) (p : RunPlace) (how : Ending) → first.steps ≤ limit → IsLast limit first n p how → last_place limit first ≡ p
last_is limit first n p how within last = ends_at limit (most_turns limit first) n first p how within (omega arith) last.reached last.ends

-- where nothing is left to do, the run ends
pub ends_here : (limit : ℕ) (p : RunPlace) (t : Turning) → Follows limit p t → most_turns limit p ≤ 0 → t ≡ Ended (ending_of p.state)
ends_here limit p (Acted q) f e = let k = f.less in absurd (omega arith)
ends_here limit p (Stepped q) f e = let k = f.less in absurd (omega arith)
ends_here limit p (Ended how) f e = ap Ended f

abbrev IsEnd : ℕ → RunPlace → Type 0
IsEnd limit p = turn limit p ≡ Ended (ending_of p.state)

one_more_turn : (limit n : ℕ) (p : RunPlace) (t : Turning) → turn limit p ≡ t → Follows limit p t → most_turns limit p ≤ suc n
    → ((q : RunPlace) → q.steps ≤ limit → most_turns limit q ≤ n → IsEnd limit (last_within limit n q)) → IsEnd limit (last_on limit n p t)
one_more_turn limit n p (Acted q) e f h rest = let k = f.less in rest q f.within (omega arith)
one_more_turn limit n p (Stepped q) e f h rest = let k = f.less in rest q f.within (omega arith)
one_more_turn limit n p (Ended how) e f h rest = e ∙ ap Ended f

last_ends : (limit n : ℕ) (p : RunPlace) → p.steps ≤ limit → most_turns limit p ≤ n → IsEnd limit (last_within limit n p)
unfolding last_within
last_ends limit zero p h e = ends_here limit p (turn limit p) (turn_follows limit p h) e
last_ends limit (suc n) p h e = one_more_turn limit n p (turn limit p) refl (turn_follows limit p h) e (λ q. last_ends limit n q)

-- the last place of every run ends it
pub last_place_ends : (limit : ℕ) (p : RunPlace) → p.steps ≤ limit → turn limit (last_place limit p) ≡ Ended (ending_of (last_place limit p).state)
last_place_ends limit p h = last_ends limit (most_turns limit p) p h (omega arith)

-- one turn more
pub turn_on : (limit n : ℕ) (first p q : RunPlace) (t : Turning) → place_after limit n first ≡ Some p → turn limit p ≡ t → on limit 0 t ≡ Some q → place_after limit (suc n) first ≡ Some q
unfolding place_after
turn_on limit zero first p q t reached is next = let same : first ≡ p = cc in ap (λ x. on limit 0 (turn limit x)) same ∙ ap (on limit 0) is ∙ next
turn_on limit (suc n) first p q t reached is next = turn_by limit n p q t (turn limit first) reached is next (λ r there. turn_on limit n r p q t there is next)
  where
    turn_by : (limit n : ℕ) (p q : RunPlace) (t u : Turning) → on limit n u ≡ Some p → turn limit p ≡ t → on limit 0 t ≡ Some q → ((r : RunPlace) → place_after limit n r ≡ Some p → place_after limit (suc n) r ≡ Some q) → on limit (suc n) u ≡ Some q
    turn_by limit n p q t (Acted r) reached is next rest = rest r reached
    turn_by limit n p q t (Stepped r) reached is next rest = rest r reached
    turn_by limit n p q t (Ended how) reached is next rest = cc

-- the last place, from a place on the way
pub last_from : (n more limit : ℕ) (p q : RunPlace) → place_after limit n p ≡ Some q → last_within limit (n + more) p ≡ last_within limit more q
unfolding place_after last_within
last_from zero more limit p q reached = let same : p ≡ q = cc in let e : 0 + more ≡ more = omega arith in rw (e, same) refl
last_from (suc n) more limit p q reached =
    let e : suc n + more ≡ suc (n + more) = omega arith in
    ap (λ (j : ℕ). last_within limit j p) e ∙ by_turn (λ x. last_from n more limit x q) (turn limit p) reached
  where
    by_turn : ((x : RunPlace) → place_after limit n x ≡ Some q → last_within limit (n + more) x ≡ last_within limit more q) → (t : Turning) → on limit n t ≡ Some q → last_on limit (n + more) p t ≡ last_within limit more q
    by_turn rest (Acted x) is = rest x is
    by_turn rest (Stepped x) is = rest x is
    by_turn rest (Ended how) is = cc
