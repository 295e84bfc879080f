-- What the turns of a run do outside, which cards and lines they take, and a run that is cut short.
use Rattle.std.proofs.Common.{◌≡◌, ℕ, zero, suc, ◌≤◌, Bool, true, false, List, [], ◌∷◌, ◌++◌, take, refl, sym, ◌∙◌, ap, subst, arith, if◌then◌else◌}
use Rattle.std.specs.Prelude.{Some, None}
use Rattle.outside_io.specs.World.{World}
use Rattle.outside_io.specs.Events.{Event, after_events, IsFirstPart}
use Rattle.outside_io.proofs.EventLemmas.{after_append, first_on, first_more}
use Rattle.cpu_step.specs.declared.machine.Mode.{Mode}
use Rattle.cpu_step.specs.State.{State}
use Rattle.cpu_step.specs.Step.{instruction}
use Rattle.cpu_step.specs.Load.{state_for_load, load_trace}
use Rattle.cpu_step.specs.Outside.{all_outside, load_events}
use Rattle.cpu_step.proofs.Outside.{seen_by, step_seen, cut_seen, load_seen, load_cut_seen, first_effects}
use Rattle.cpu_step.proofs.InputsTaken.{HasTaken, taken_none, taken_on, step_taken, cut_taken, load_taken, load_cut_taken}
use Rattle.operator_script.specs.declared.script.Action.{Action}
use Rattle.operator_script.specs.declared.script.Action.TheVariants as action
use Rattle.operator_script.specs.declared.script.ScriptLine.{ScriptLine}
use Rattle.operator_script.specs.Turn.{RunPlace, Turning, Acted, Stepped, Ended, turn, state_after_action, place_after_action, place_after_step, is_due, due_action, place_after, last_within, most_turns, IsCutTurn, in_step, in_load, IsOnTheWay}
use Rattle.operator_script.specs.TurnEvents.{step_events, action_events, front_events, events_within, run_events}
use Rattle.operator_script.proofs.Actions.{of_action}
use Rattle.operator_script.proofs.Turning.{Follows, turn_follows, turn_holds}
use Rattle.operator_script.proofs.LastPlace.{on, last_on}

-- what a turn does, and those behind it
abbrev pub turned_events : ℕ → ℕ → RunPlace → Turning → List Event
turned_events limit n p t = elim t [ Acted q ↦ front_events p.script p.state ++ events_within limit n q | Stepped q ↦ step_events p ++ events_within limit n q | Ended how ↦ [] ]

-- what the front line does is what the action does that is due
pub due_front : (m : Mode) (steps : ℕ) (lines : List ScriptLine) (a : Action) (s : State) → due_action m steps lines ≡ Some a → action_events a s ≡ front_events lines s
due_front m steps [] a s due = cc
due_front m steps (line ∷ rest) a s due = by_due (is_due line.due steps m) due
  where
    by_due : (b : Bool) → (if b then Some line.action else None) ≡ Some a → action_events a s ≡ action_events line.action s
    by_due true due = let e : line.action ≡ a = cc in ap (λ (x : Action). action_events x s) (sym e)
    by_due false due = cc

-- THE CARDS AND THE LINES THAT ARE TAKEN

acted_takes : (a : Action) (s : State) → HasTaken s (state_after_action a s) (action_events a s)
acted_takes = of_action (λ f events. (s : State) → HasTaken s (f s) (events s)) load_taken (λ change s. taken_none s _ refl refl)

-- those that a turn takes
abbrev pub TurnTakes : RunPlace → Turning → Type 0
TurnTakes p (Acted q) = HasTaken p.state q.state (front_events p.script p.state)
TurnTakes p (Stepped q) = HasTaken p.state q.state (step_events p)
TurnTakes p (Ended how) = Unit {0}

pub turn_takes : (limit : ℕ) (p : RunPlace) → TurnTakes p (turn limit p)
turn_takes limit p =
    turn_holds limit p (TurnTakes p)
    (λ a is. subst (HasTaken p.state (state_after_action a p.state)) (due_front p.state.mode p.steps p.script a p.state is) (acted_takes a p.state))
    (λ below. step_taken p.state) tt

last_on_takes : (limit n : ℕ) (p : RunPlace) (t : Turning) → TurnTakes p t → ((q : RunPlace) → HasTaken q.state (last_within limit n q).state (events_within limit n q))
    → HasTaken p.state (last_on limit n p t).state (turned_events limit n p t)
last_on_takes limit n p (Acted q) takes rest = taken_on (front_events p.script p.state) (events_within limit n q) p.state q.state (last_within limit n q).state takes (rest q)
last_on_takes limit n p (Stepped q) takes rest = taken_on (step_events p) (events_within limit n q) p.state q.state (last_within limit n q).state takes (rest q)
last_on_takes limit n p (Ended how) takes rest = taken_none p.state p.state refl refl

-- those that a run takes up to its last place
pub last_takes : (limit n : ℕ) (p : RunPlace) → HasTaken p.state (last_within limit n p).state (events_within limit n p)
unfolding last_within events_within
last_takes limit zero p = taken_none p.state p.state refl refl
last_takes limit (suc n) p = last_on_takes limit n p (turn limit p) (turn_takes limit p) (last_takes limit n)

-- TEXTS AND SECTORS

module _ (w : World) where
  acted_seen : (a : Action) (s : State) → seen_by w (state_after_action a s) ≡ after_events (seen_by w s) (action_events a s)
  acted_seen = of_action (λ f events. (s : State) → seen_by w (f s) ≡ after_events (seen_by w s) (events s)) (load_seen w) (λ change s. refl)

  -- where a turn leads
  abbrev pub TurnDoes : RunPlace → Turning → Type 0
  TurnDoes p (Acted q) = seen_by w q.state ≡ after_events (seen_by w p.state) (front_events p.script p.state)
  TurnDoes p (Stepped q) = seen_by w q.state ≡ after_events (seen_by w p.state) (step_events p)
  TurnDoes p (Ended how) = Unit {0}

  pub turn_does : (limit : ℕ) (p : RunPlace) → TurnDoes p (turn limit p)
  turn_does limit p =
      turn_holds limit p (TurnDoes p) (λ a is. acted_seen a p.state ∙ ap (after_events (seen_by w p.state)) (due_front p.state.mode p.steps p.script a p.state is))
      (λ below. step_seen w p.state) tt

  -- one thing after another
  seen_on : (ds es : List Event) (s t u : State) → seen_by w t ≡ after_events (seen_by w s) ds → seen_by w u ≡ after_events (seen_by w t) es → seen_by w u ≡ after_events (seen_by w s) (ds ++ es)
  seen_on ds es s t u first second = second ∙ ap (λ (x : World). after_events x es) first ∙ sym (after_append ds es (seen_by w s))

  last_on_does : (limit n : ℕ) (p : RunPlace) (t : Turning) → TurnDoes p t → ((q : RunPlace) → seen_by w (last_within limit n q).state ≡ after_events (seen_by w q.state) (events_within limit n q))
      → seen_by w (last_on limit n p t).state ≡ after_events (seen_by w p.state) (turned_events limit n p t)
  last_on_does limit n p (Acted q) does rest = seen_on (front_events p.script p.state) (events_within limit n q) p.state q.state (last_within limit n q).state does (rest q)
  last_on_does limit n p (Stepped q) does rest = seen_on (step_events p) (events_within limit n q) p.state q.state (last_within limit n q).state does (rest q)
  last_on_does limit n p (Ended how) does rest = refl

  -- ALL OF A RUN: its last place has the texts and the sectors behind all that it does
  pub last_does : (limit n : ℕ) (p : RunPlace) → seen_by w (last_within limit n p).state ≡ after_events (seen_by w p.state) (events_within limit n p)
  unfolding last_within events_within
  last_does limit zero p = refl
  last_does limit (suc n) p = last_on_does limit n p (turn limit p) (turn_does limit p) (last_does limit n)

  -- A RUN THAT IS CUT SHORT: a first part of that list is done
  pub record DoesPart (from to : State) (all : List Event) : Type 0 where
    pub done : List Event
    pub seen : seen_by w to ≡ after_events (seen_by w from) done
    pub taken : HasTaken from to done
    pub part : IsFirstPart done all

  -- of a list behind what was done before
  part_behind : (before all : List Event) (s t u : State) → seen_by w t ≡ after_events (seen_by w s) before → HasTaken s t before → DoesPart t u all → DoesPart s u (before ++ all)
  part_behind before all s t u seen taken d = record {
    done = before ++ d.done;
    seen = seen_on before d.done s t u seen d.seen;
    taken = taken_on before d.done s t u taken d.taken;
    part = first_on before d.done all d.part;
  }

  cut_by : (limit n : ℕ) (p q : RunPlace) → IsCutTurn limit p q → DoesPart p.state q.state (events_within limit (suc n) p)
  unfolding events_within
  cut_by limit n p q (in_step done is here) = record {
    done = all_outside (take done (instruction p.state).effects);
    seen = ap (λ (x : RunPlace). seen_by w x.state) here ∙ cut_seen w done p.state;
    taken = subst (λ (x : RunPlace). HasTaken p.state x.state (all_outside (take done (instruction p.state).effects))) (sym here) (cut_taken done p.state);
    part = subst (λ (t : Turning). IsFirstPart (all_outside (take done (instruction p.state).effects)) (turned_events limit n p t)) (sym is)
        (first_more (all_outside (take done (instruction p.state).effects)) (step_events p) (events_within limit n (place_after_step p)) (first_effects w done (instruction p.state).effects));
  }
  cut_by limit n p q (in_load done rest due is here) =
      let first : List Event = all_outside (take done (load_trace (state_for_load p.state)).effects) in
      let loads : load_events p.state ≡ front_events p.script p.state = due_front p.state.mode p.steps p.script action.Load p.state due in
      record {
        done = first;
        seen = ap (λ (x : RunPlace). seen_by w x.state) here ∙ load_cut_seen w done p.state;
        taken = subst (λ (x : RunPlace). HasTaken p.state x.state first) (sym here) (load_cut_taken done p.state);
        part = subst (λ (t : Turning). IsFirstPart first (turned_events limit n p t)) (sym is)
            (first_more first (front_events p.script p.state) (events_within limit n (place_after_action p action.Load rest))
            (subst (IsFirstPart first) loads (first_effects w done (load_trace (state_for_load p.state)).effects)));
      }

  some_left : (limit n : ℕ) (p q : RunPlace) → p.steps ≤ limit → most_turns limit p ≤ n → IsCutTurn limit p q → 1 ≤ n
  some_left limit n p q within enough (in_step done is here) = let f = subst (Follows limit p) is (turn_follows limit p within) in let l = f.less in omega arith
  some_left limit n p q within enough (in_load done rest due is here) = let f = subst (Follows limit p) is (turn_follows limit p within) in let l = f.less in omega arith

  cut_here : (limit n : ℕ) (p q : RunPlace) → 1 ≤ n → IsCutTurn limit p q → DoesPart p.state q.state (events_within limit n p)
  cut_here limit zero p q some is_cut = absurd (omega arith)
  cut_here limit (suc n) p q some is_cut = cut_by limit n p q is_cut

  way_on : (limit n k : ℕ) (first p q : RunPlace) (t : Turning) → turn limit first ≡ t → TurnDoes first t → TurnTakes first t → Follows limit first t → most_turns limit first ≤ n → on limit k t ≡ Some p
      → ((r : RunPlace) (m : ℕ) → r.steps ≤ limit → most_turns limit r ≤ m → place_after limit k r ≡ Some p → DoesPart r.state q.state (events_within limit m r)) → DoesPart first.state q.state (events_within limit n first)
  unfolding events_within
  way_on limit zero k first p q (Acted r) is does takes less h reached rest = let l = less.less in absurd (omega arith)
  way_on limit (suc n) k first p q (Acted r) is does takes less h reached rest =
      let l = less.less in
      subst (λ (t : Turning). DoesPart first.state q.state (turned_events limit n first t)) (sym is)
      (part_behind (front_events first.script first.state) (events_within limit n r) first.state r.state q.state does takes (rest r n less.within (omega arith) reached))
  way_on limit zero k first p q (Stepped r) is does takes less h reached rest = let l = less.less in absurd (omega arith)
  way_on limit (suc n) k first p q (Stepped r) is does takes less h reached rest =
      let l = less.less in
      subst (λ (t : Turning). DoesPart first.state q.state (turned_events limit n first t)) (sym is)
      (part_behind (step_events first) (events_within limit n r) first.state r.state q.state does takes (rest r n less.within (omega arith) reached))
  way_on limit n k first p q (Ended how) is does takes less h reached rest = cc

  way_within : (limit n k : ℕ) (first p q : RunPlace) → first.steps ≤ limit → most_turns limit first ≤ n → place_after limit k first ≡ Some p → IsCutTurn limit p q → DoesPart first.state q.state (events_within limit n first)
  unfolding place_after
  way_within limit n zero first p q within enough reached is_cut =
      let same : first ≡ p = cc in
      cut_here limit n first q (some_left limit n first q within enough (subst (λ (x : RunPlace). IsCutTurn limit x q) (sym same) is_cut)) (subst (λ (x : RunPlace). IsCutTurn limit x q) (sym same) is_cut)
  way_within limit n (suc k) first p q within enough reached is_cut =
      way_on limit n k first p q (turn limit first) refl (turn_does limit first) (turn_takes limit first) (turn_follows limit first within) enough reached (λ r m near more there. way_within limit m k r p q near more there is_cut)

  pub way_did : (limit : ℕ) (first q : RunPlace) → first.steps ≤ limit → IsOnTheWay limit first q → DoesPart first.state q.state (run_events limit first)
  way_did limit first q within way = way_within limit (most_turns limit first) way.turns first way.place q within (omega arith) way.reached way.is_cut
