-- Each command goes on, and so does a session: what it has done stays done, and the turns up to where it goes are made first.
use Rattle.std.proofs.Common.{◌≡◌, ◌∙◌, ℕ, zero, suc, ◌+◌, ◌≤◌, Bool, true, false, List, [], ◌∷◌, ◌++◌, length, refl, sym, ap, append_assoc, arith}
use Rattle.std.proofs.lemmas.List.{append-nil}
use Rattle.std.specs.Prelude.{Option, Some, None, nat_le, max, option_map, ◌-◌, ◌&&◌, if◌then◌else◌}
use Rattle.console_debug.specs.declared.commands.DebugCommand.{DebugCommand}
use Rattle.console_debug.specs.declared.commands.DebugCommand.TheVariants as command
use Rattle.console_debug.specs.Places.{is_instruction_at, turns_to_step, turns_to_stop}
use Rattle.console_debug.specs.Session.{Course, Act, MakesTurn, Session, nth_place, places_ahead, turns_from, says, place_line, end_line, goes_to, to_end, to_stop, session_after_step, steps, back, is_kept, session_after, is_quit, session_of}
use Rattle.console_debug.specs.CursorStates.{turns_or_all}
use Rattle.console_debug.proofs.Acts.{turns_more, turns_next}

pub record Onward (s t : Session) : Type 0 where
  pub more : List Act
  pub grows : t.acts ≡ s.acts ++ more

pub onward_then : (s t u : Session) → Onward s t → Onward t u → Onward s u
onward_then s t u first second = record {
  more = first.more ++ second.more;
  grows = second.grows ∙ ap (λ (acts : List Act). acts ++ second.more) first.grows ∙ append_assoc s.acts first.more second.more;
}

pub onward_same : (s : Session) → Onward s s
onward_same s = record { more = []; grows = sym (append-nil s.acts) }

onward_says : (line : List ℕ) (s : Session) → Onward s (says line s)
onward_says line s = record { more = _; grows = refl }

-- with other breakpoints
onward_else : (set : List ℕ) (s : Session) → Onward s (record s { breaks = set })
onward_else set s = record { more = []; grows = sym (append-nil s.acts) }

pub goes_onward : (n : ℕ) (s : Session) → Onward s (goes_to n s)
goes_onward n s = record { more = _; grows = refl }

end_onward : (c : Course) (s : Session) → Onward s (to_end c s)
end_onward c s = onward_then s (goes_to _ s) (to_end c s) (goes_onward _ s) (onward_says _ (goes_to _ s))

made_onward : (c : Course) (s : Session) (turns : ℕ) → Onward (goes_to (s.at + turns) s) (session_after_step c s turns)
made_onward c s turns =
    let there = goes_to (s.at + turns) s in
    onward_then there (says _ there) (session_after_step c s turns) (onward_says _ there) (goes_onward _ (says _ there))

-- what STEP does by what lies ahead
abbrev pub step_by : Course → ℕ → Session → Option ℕ → Session
step_by c n s o = elim o [ None ↦ to_end c s | Some turns ↦ steps n c (session_after_step c s turns) ]

pub steps_by : (c : Course) (n : ℕ) (s : Session) → steps (suc n) c s ≡ step_by c n s (turns_to_step (places_ahead c s.at))
unfolding steps
steps_by c n s = refl

-- behind the move to a step
step_onward : (c : Course) (n : ℕ) (s : Session) (turns : ℕ) → ((t : Session) → Onward t (steps n c t)) → Onward (goes_to (s.at + turns) s) (steps n c (session_after_step c s turns))
step_onward c n s turns rest = onward_then (goes_to (s.at + turns) s) (session_after_step c s turns) (steps n c (session_after_step c s turns)) (made_onward c s turns) (rest (session_after_step c s turns))

by_ahead : (c : Course) (n : ℕ) (s : Session) (o : Option ℕ) → ((t : Session) → Onward t (steps n c t)) → Onward s (step_by c n s o)
by_ahead c n s None rest = end_onward c s
by_ahead c n s (Some turns) rest = onward_then s (goes_to (s.at + turns) s) (steps n c (session_after_step c s turns)) (goes_onward (s.at + turns) s) (step_onward c n s turns rest)

pub steps_onward : (n : ℕ) (c : Course) (s : Session) → Onward s (steps n c s)
unfolding steps
steps_onward zero c s = onward_same s
steps_onward (suc n) c s = by_ahead c n s (turns_to_step (places_ahead c s.at)) (λ t. steps_onward n c t)

stop_onward : (c : Course) (s : Session) (o : Option ℕ) → Onward s (to_stop c s o)
stop_onward c s None = end_onward c s
stop_onward c s (Some turns) =
    let there = goes_to (s.at + turns) s in
    onward_then s there (to_stop c s (Some turns)) (goes_onward (s.at + turns) s) (onward_says _ there)

either_onward : (s t u : Session) (b : Bool) → Onward s t → Onward s u → Onward s (if b then t else u)
either_onward s t u true first second = first
either_onward s t u false first second = second

back_onward : (k : ℕ) (c : Course) (s : Session) → Onward s (back k c s)
back_onward k c s = either_onward s _ _ (nat_le k s.at && is_kept s (s.at - k)) (record { more = _; grows = refl }) (onward_says _ s)

pub commanded_onward : (x : DebugCommand) (c : Course) (s : Session) → Onward s (session_after x c s)
unfolding session_after
commanded_onward command.Go c s = stop_onward c s (turns_to_stop c.placed s.breaks (places_ahead c s.at))
commanded_onward (command.Step n) c s = steps_onward n c s
commanded_onward (command.Back n) c s = back_onward n c s
commanded_onward (command.Break n) c s = either_onward s _ _ (is_instruction_at c.placed n) (onward_else _ s) (onward_says _ s)
commanded_onward (command.Clear n) c s = either_onward s _ _ (is_instruction_at c.placed n) (onward_else _ s) (onward_says _ s)
commanded_onward (command.Show at count) c s = onward_says _ s
commanded_onward command.Quit c s = onward_same s

pub session_onward : (xs : List DebugCommand) (c : Course) (s : Session) → Onward s (session_of xs c s)
unfolding session_of
session_onward [] c s = onward_same s
session_onward (x ∷ xs) c s =
    let next = session_after x c s in
    either_onward s s (session_of xs c next) (is_quit x) (onward_same s) (onward_then s next (session_of xs c next) (commanded_onward x c s) (session_onward xs c next))

-- to a place, and from there on to a later one
pub goes_twice : (a b : ℕ) (s : Session) → a ≤ b → goes_to b (goes_to a s) ≡ goes_to b s
goes_twice a b s order =
    let f = s.furthest in
    let j = a - f in
    let k = b - max f a in
    let from : max f a ≡ f + j = omega arith in
    let both : j + k ≡ b - f = omega (arith, order) in
    let furthest : max (max f a) b ≡ max f b = omega (arith, order) in
    let acts : (s.acts ++ turns_from f j) ++ turns_from (max f a) k ≡ s.acts ++ turns_from f (b - f) =
    append_assoc s.acts (turns_from f j) (turns_from (max f a) k)
    ∙ ap (λ (xs : List Act). s.acts ++ xs) (ap (λ i. turns_from f j ++ turns_from i k) from ∙ sym (turns_more f j k) ∙ ap (turns_from f) both) in
    ap (λ (xs : List Act). record s { at = b; furthest = max (max f a) b; acts = xs }) acts
    ∙ ap (λ i. record s { at = b; furthest = i; acts = s.acts ++ turns_from f (b - f) }) furthest

-- one place on by a turn that is no step, STEP does what it did before
abbrev made_from : Course → ℕ → ℕ → Session → Session
made_from c n j u = steps n c (goes_to (j + 1) (says (place_line (nth_place c j)) u))

by_rest : (c : Course) (n : ℕ) (s : Session) (p : Option ℕ) → length (places_ahead c s.at) ≡ suc (length (places_ahead c (s.at + 1)))
    → step_by c n s (option_map suc p) ≡ step_by c n (goes_to (s.at + 1) s) p
by_rest c n s None longer =
    let last = s.at + 1 + length (places_ahead c (s.at + 1)) in
    let same : s.at + length (places_ahead c s.at) ≡ last = omega (arith, longer) in
    ap (λ j. says (end_line (nth_place c j)) (goes_to j s)) same
    ∙ ap (says (end_line (nth_place c last))) (sym (goes_twice (s.at + 1) last s (omega arith)))
by_rest c n s (Some k) longer =
    let there = s.at + 1 + k in
    let same : s.at + suc k ≡ there = omega arith in
    ap (λ j. made_from c n j (goes_to j s)) same ∙ ap (made_from c n there) (sym (goes_twice (s.at + 1) there s (omega arith)))

pub steps_acted : (c : Course) (n : ℕ) (s : Session) (o p : Option ℕ) → o ≡ option_map suc p → length (places_ahead c s.at) ≡ suc (length (places_ahead c (s.at + 1)))
    → step_by c n s o ≡ step_by c n (goes_to (s.at + 1) s) p
steps_acted c n s o p is longer = ap (step_by c n s) is ∙ by_rest c n s p longer

-- TURNS THAT ARE MADE: behind what a session has done, so many turns come first.
pub record MakesTurns (s : Session) (k : ℕ) (t : Session) : Type 0 where
  pub more : List Act
  pub grows : t.acts ≡ s.acts ++ (turns_from s.furthest k ++ more)

makes_then : (s : Session) (k : ℕ) (t u : Session) → MakesTurns s k t → Onward t u → MakesTurns s k u
makes_then s k t u makes onward =
    let turns = turns_from s.furthest k in
    record {
      more = makes.more ++ onward.more;
      grows = onward.grows ∙ ap (λ (acts : List Act). acts ++ onward.more) makes.grows ∙ append_assoc s.acts (turns ++ makes.more) onward.more
          ∙ ap (λ (acts : List Act). s.acts ++ acts) (append_assoc turns makes.more onward.more);
    }

-- on the way to a place
pub goes_makes : (s : Session) (n k : ℕ) → k ≤ n - s.furthest → MakesTurns s k (goes_to n s)
goes_makes s n k below =
    let rest = n - s.furthest - k in
    let all : n - s.furthest ≡ k + rest = omega (arith, below) in
    record {
      more = turns_from (s.furthest + k) rest;
      grows = ap (λ (acts : List Act). s.acts ++ acts) (ap (turns_from s.furthest) all ∙ turns_more s.furthest k rest);
    }

end_makes : (c : Course) (s : Session) (k : ℕ) → k ≤ s.at + length (places_ahead c s.at) - s.furthest → MakesTurns s k (to_end c s)
end_makes c s k below =
    let last = s.at + length (places_ahead c s.at) in
    makes_then s k (goes_to last s) (to_end c s) (goes_makes s last k below) (onward_says _ (goes_to last s))

-- on the way to a stop, and to a step
pub stop_makes : (c : Course) (s : Session) (o : Option ℕ) (k : ℕ) → k ≤ s.at + turns_or_all o (length (places_ahead c s.at)) - s.furthest → MakesTurns s k (to_stop c s o)
stop_makes c s None k below = end_makes c s k below
stop_makes c s (Some turns) k below =
    let there = goes_to (s.at + turns) s in
    makes_then s k there (to_stop c s (Some turns)) (goes_makes s (s.at + turns) k below) (onward_says _ there)

pub step_makes : (c : Course) (n : ℕ) (s : Session) (o : Option ℕ) (k : ℕ) → k ≤ s.at + turns_or_all o (length (places_ahead c s.at)) - s.furthest → MakesTurns s k (step_by c n s o)
step_makes c n s None k below = end_makes c s k below
step_makes c n s (Some turns) k below =
    makes_then s k (goes_to (s.at + turns) s) (steps n c (session_after_step c s turns)) (goes_makes s (s.at + turns) k below) (step_onward c n s turns (λ t. steps_onward n c t))

-- so the turns up to one of them are a first part, and it is the next
pub next_turn : (s t : Session) (k : ℕ) (makes : MakesTurns s (suc k) t) → (s.acts ++ turns_from s.furthest k) ++ MakesTurn (s.furthest + k) ∷ makes.more ≡ t.acts
next_turn s t k makes =
    let turns = turns_from s.furthest k in
    let next = MakesTurn (s.furthest + k) ∷ [] in
    append_assoc s.acts turns (next ++ makes.more)
    ∙ ap (λ (acts : List Act). s.acts ++ acts) (sym (append_assoc turns next makes.more) ∙ ap (λ (acts : List Act). acts ++ makes.more) (sym (turns_next s.furthest k)))
    ∙ sym makes.grows
