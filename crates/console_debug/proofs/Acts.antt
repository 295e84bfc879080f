-- What the acts of a session do outside, and the turns among them.
use Rattle.std.proofs.Common.{◌≡◌, ◌∙◌, ℕ, zero, suc, ◌+◌, List, [], ◌∷◌, ◌++◌, take, drop, refl, sym, ap, subst, append_assoc, arith}
use Rattle.std.proofs.lemmas.List.{append-nil}
use Rattle.std.specs.Prelude.{Some}
use Rattle.outside_io.specs.declared.host.Unit.TheVariants as units
use Rattle.outside_io.specs.World.{World, Seen}
use Rattle.outside_io.specs.Events.{Event, after_events, text_events, IsFirstPart, DidAll}
use Rattle.outside_io.proofs.EventLemmas.{did_on, after_append, cards_text, lines_text}
use Rattle.cpu_step.specs.State.{State}
use Rattle.cpu_step.specs.Step.{instruction}
use Rattle.cpu_step.specs.Load.{state_for_load, load_trace}
use Rattle.cpu_step.specs.Machine.{Frames}
use Rattle.cpu_step.specs.Outside.{all_outside}
use Rattle.cpu_step.proofs.Outside.{seen_by, cut_seen, load_cut_seen, first_effects, did_between}
use Rattle.cpu_step.proofs.InputsTaken.{HasTaken, taken_none, taken_on, cut_taken, load_cut_taken}
use Rattle.operator_script.specs.declared.script.Action.TheVariants as action
use Rattle.operator_script.specs.Turn.{RunPlace, Turning, Acted, Stepped, Ended, turn, last_within, IsCutTurn, in_step, in_load}
use Rattle.operator_script.specs.Run.{RunState, place_of}
use Rattle.operator_script.specs.TurnEvents.{turning_events, turn_events}
use Rattle.operator_script.proofs.LastPlace.{last_on}
use Rattle.operator_script.proofs.Running.{place_is}
use Rattle.operator_script.proofs.TurnEventLemmas.{TurnTakes, turn_takes, TurnDoes, turn_does, DoesPart, due_front}
use Rattle.console_debug.specs.Session.{Course, Act, PrintsLine, MakesTurn, nth_place, turns_from, place_as_seen, act_events, session_events, turns_in}
use Rattle.console_debug.proofs.Courses.{last_next}

-- LISTS OF ACTS

pub events_append : (c : Course) (xs ys : List Act) → session_events c (xs ++ ys) ≡ session_events c xs ++ session_events c ys
events_append c [] ys = refl
events_append c (a ∷ xs) ys =
    ap (λ (ds : List Event). act_events c a ++ ds) (events_append c xs ys)
    ∙ sym (append_assoc (act_events c a) (session_events c xs) (session_events c ys))

-- with one act more
pub events_more : (c : Course) (xs : List Act) (a : Act) → session_events c (xs ++ a ∷ []) ≡ session_events c xs ++ act_events c a
events_more c xs a = events_append c xs (a ∷ []) ∙ ap (λ (ds : List Event). session_events c xs ++ ds) (append-nil (act_events c a))

pub turns_append : (xs ys : List Act) → turns_in (xs ++ ys) ≡ turns_in xs + turns_in ys
turns_append [] ys = omega arith
turns_append (PrintsLine at text ∷ xs) ys = turns_append xs ys
turns_append (MakesTurn from ∷ xs) ys = let rest = turns_append xs ys in omega (arith, rest)

-- a line is no turn
pub turns_line : (xs : List Act) (at : ℕ) (text : List ℕ) → turns_in (xs ++ PrintsLine at text ∷ []) ≡ turns_in xs
turns_line xs at text = let all = turns_append xs (PrintsLine at text ∷ []) in omega (arith, all)

pub turns_of : (n k : ℕ) → turns_in (turns_from n k) ≡ k
unfolding turns_from
turns_of n zero = refl
turns_of n (suc k) = ap suc (turns_of (suc n) k)

-- so many turns, and then as many more
pub turns_more : (n j k : ℕ) → turns_from n (j + k) ≡ turns_from n j ++ turns_from (n + j) k
unfolding turns_from
turns_more n zero k =
    let none : 0 + k ≡ k = omega arith in
    let here : n ≡ n + 0 = omega arith in
    ap (turns_from n) none ∙ ap (λ i. turns_from i k) here
turns_more n (suc j) k =
    let one : suc j + k ≡ suc (j + k) = omega arith in
    let next : suc n + j ≡ n + suc j = omega arith in
    ap (turns_from n) one ∙ ap (λ (acts : List Act). MakesTurn n ∷ acts) (turns_more (suc n) j k ∙ ap (λ i. turns_from (suc n) j ++ turns_from i k) next)

-- and then one
pub turns_next : (n k : ℕ) → turns_from n (suc k) ≡ turns_from n k ++ MakesTurn (n + k) ∷ []
unfolding turns_from
turns_next n k =
    let one : suc k ≡ k + 1 = omega arith in
    ap (turns_from n) one ∙ turns_more n k 1

-- CARDS AND LINES OF THE KEYBOARD

turned_takes : (limit : ℕ) (p : RunPlace) (t : Turning) → TurnTakes p t → HasTaken p.state (last_on limit 0 p t).state (turning_events p t)
unfolding last_within
turned_takes limit p (Acted q) takes = takes
turned_takes limit p (Stepped q) takes = takes
turned_takes limit p (Ended how) takes = taken_none p.state p.state refl refl

one_takes : (c : Course) (n : ℕ) → HasTaken (nth_place c n).state (nth_place c (suc n)).state (turn_events c.limit (nth_place c n))
one_takes c n =
    subst (λ (x : RunPlace). HasTaken (nth_place c n).state x.state (turn_events c.limit (nth_place c n))) (sym (last_next c.limit n c.first))
    (turned_takes c.limit (nth_place c n) (turn c.limit (nth_place c n)) (turn_takes c.limit (nth_place c n)))

-- so many turns take those of their events
pub turns_take : (c : Course) (n k : ℕ) → HasTaken (nth_place c n).state (nth_place c (n + k)).state (session_events c (turns_from n k))
unfolding turns_from
turns_take c n zero =
    let none : n ≡ n + 0 = omega arith in
    subst (λ i. HasTaken (nth_place c n).state (nth_place c i).state []) none (taken_none (nth_place c n).state (nth_place c n).state refl refl)
turns_take c n (suc k) =
    let next : suc n + k ≡ n + suc k = omega arith in
    let first = turn_events c.limit (nth_place c n) in
    let rest = session_events c (turns_from (suc n) k) in
    subst (λ i. HasTaken (nth_place c n).state (nth_place c i).state (first ++ rest)) next
    (taken_on first rest (nth_place c n).state (nth_place c (suc n)).state (nth_place c (suc n + k)).state (one_takes c n) (turns_take c (suc n) k))

-- and a text on Report takes none
pub text_takes : (text : List ℕ) (s : State) → HasTaken s s (text_events units.Report text)
text_takes text s = record {
  cards = ap (λ n. drop n s.hopper) (sym (cards_text units.Report text));
  lines = ap (λ n. drop n s.keys) (sym (lines_text units.Report text));
}

-- TURNS, BY THE STATES OF THEIR PLACES

module _ (w : World) where
  turned_on : (limit : ℕ) (p : RunPlace) (t : Turning) → TurnDoes w p t → seen_by w (last_on limit 0 p t).state ≡ after_events (seen_by w p.state) (turning_events p t)
  unfolding last_within
  turned_on limit p (Acted q) does = does
  turned_on limit p (Stepped q) does = does
  turned_on limit p (Ended how) does = refl

  one_does : (c : Course) (n : ℕ) → seen_by w (nth_place c (suc n)).state ≡ after_events (seen_by w (nth_place c n).state) (turn_events c.limit (nth_place c n))
  one_does c n =
      ap (λ (x : RunPlace). seen_by w x.state) (last_next c.limit n c.first)
      ∙ turned_on c.limit (nth_place c n) (turn c.limit (nth_place c n)) (turn_does w c.limit (nth_place c n))

  turns_do : (c : Course) (n k : ℕ) → seen_by w (nth_place c (n + k)).state ≡ after_events (seen_by w (nth_place c n).state) (session_events c (turns_from n k))
  unfolding turns_from
  turns_do c n zero = let none : n + 0 ≡ n = omega arith in ap (λ i. seen_by w (nth_place c i).state) none
  turns_do c n (suc k) =
      let next : n + suc k ≡ suc n + k = omega arith in
      let rest = session_events c (turns_from (suc n) k) in
      ap (λ i. seen_by w (nth_place c i).state) next ∙ turns_do c (suc n) k ∙ ap (λ (x : World). after_events x rest) (one_does c n)
      ∙ sym (after_append (turn_events c.limit (nth_place c n)) rest (seen_by w (nth_place c n).state))

  -- a turn that is cut short does a first part
  cut_does : (limit : ℕ) (p q : RunPlace) → IsCutTurn limit p q → DoesPart w p.state q.state (turn_events limit p)
  cut_does limit p q (in_step done is here) =
      let part = all_outside (take done (instruction p.state).effects) in
      record {
        done = part;
        seen = ap (λ (x : RunPlace). seen_by w x.state) here ∙ cut_seen w done p.state;
        taken = subst (λ (x : RunPlace). HasTaken p.state x.state part) (sym here) (cut_taken done p.state);
        part = subst (λ (t : Turning). IsFirstPart part (turning_events p t)) (sym is) (first_effects w done (instruction p.state).effects);
      }
  cut_does limit p q (in_load done rest due is here) =
      let effects = (load_trace (state_for_load p.state)).effects in
      let part = all_outside (take done effects) in
      let first = subst (IsFirstPart part) (due_front p.state.mode p.steps p.script action.Load p.state due) (first_effects w done effects) in
      record {
        done = part;
        seen = ap (λ (x : RunPlace). seen_by w x.state) here ∙ load_cut_seen w done p.state;
        taken = subst (λ (x : RunPlace). HasTaken p.state x.state part) (sym here) (load_cut_taken done p.state);
        part = subst (λ (t : Turning). IsFirstPart part (turning_events p t)) (sym is) first;
      }

-- TURNS, BY THEIR WORLDS

module _ (m : ℕ) (c : Course) (n f : ℕ) (old new : RunState m) (before after : Seen) (frames : Frames m old.machine new.machine before after)
    (here : place_of m old before.world ≡ Some (place_as_seen (nth_place c n) (nth_place c f))) where
  from_state : (q : RunPlace) (ds : List Event) → place_of m new after.world ≡ Some q → seen_by before.world q.state ≡ after_events (seen_by before.world (nth_place c f).state) ds → DidAll ds before.world after.world
  from_state q ds there path =
      did_between m old.machine new.machine before.world after.world (place_as_seen (nth_place c n) (nth_place c f)).state q.state ds frames.keeps
      (place_is m old before.world (place_as_seen (nth_place c n) (nth_place c f)) here).0 (place_is m new after.world q there).0 path

  -- so many turns from the furthest place on
  pub did_turns : (i g k : ℕ) → g ≡ f + k → place_of m new after.world ≡ Some (place_as_seen (nth_place c i) (nth_place c g)) → DidAll (session_events c (turns_from f k)) before.world after.world
  did_turns i g k far there =
      from_state (place_as_seen (nth_place c i) (nth_place c g)) (session_events c (turns_from f k)) there
      (ap (λ j. seen_by before.world (nth_place c j).state) far ∙ turns_do before.world c f k)

  -- and a part of the next
  pub did_cut : (k : ℕ) (q : RunPlace) → IsCutTurn c.limit (nth_place c (f + k)) q → place_of m new after.world ≡ Some q
      → (part : List Event) × IsFirstPart part (act_events c (MakesTurn (f + k))) × DidAll (session_events c (turns_from f k) ++ part) before.world after.world
      × HasTaken (nth_place c f).state q.state (session_events c (turns_from f k) ++ part)
  did_cut k q is_cut there =
      let cut = cut_does before.world c.limit (nth_place c (f + k)) q is_cut in
      let turns = session_events c (turns_from f k) in
      let path = cut.seen ∙ ap (λ (x : World). after_events x cut.done) (turns_do before.world c f k) ∙ sym (after_append turns cut.done (seen_by before.world (nth_place c f).state)) in
      let taken = taken_on turns cut.done (nth_place c f).state (nth_place c (f + k)).state q.state (turns_take c f k) cut.taken in
      (cut.done, cut.part, from_state q (turns ++ cut.done) there path, taken)

-- ONE LIST OF ACTS BEHIND THE OTHER

pub acts_on : (c : Course) (xs ys : List Act) (start mid last : World) → DidAll (session_events c xs) start mid → DidAll (session_events c ys) mid last → DidAll (session_events c (xs ++ ys)) start last
acts_on c xs ys start mid last first second =
    subst (λ (ds : List Event). DidAll ds start last) (sym (events_append c xs ys)) (did_on (session_events c xs) (session_events c ys) start mid last first second)

-- and one act behind a list
pub act_on : (c : Course) (xs : List Act) (a : Act) (start mid last : World) → DidAll (session_events c xs) start mid → DidAll (act_events c a) mid last → DidAll (session_events c (xs ++ a ∷ [])) start last
act_on c xs a start mid last first second =
    subst (λ (ds : List Event). DidAll ds start last) (sym (events_more c xs a)) (did_on (session_events c xs) (act_events c a) start mid last first second)

-- and a part behind two lists
pub part_on : (c : Course) (xs ys : List Act) (part : List Event) (start mid last : World) → DidAll (session_events c xs) start mid → DidAll (session_events c ys ++ part) mid last
    → DidAll (session_events c (xs ++ ys) ++ part) start last
part_on c xs ys part start mid last first second =
    subst (λ (ds : List Event). DidAll ds start last) (sym (ap (λ (ds : List Event). ds ++ part) (events_append c xs ys) ∙ append_assoc (session_events c xs) (session_events c ys) part))
    (did_on (session_events c xs) (session_events c ys ++ part) start mid last first second)

-- The same of the cards and the lines: what is left behind one list and another is left behind both.

pub acts_take : (c : Course) (xs ys : List Act) (s t u : State) → HasTaken s t (session_events c xs) → HasTaken t u (session_events c ys) → HasTaken s u (session_events c (xs ++ ys))
acts_take c xs ys s t u first second = subst (HasTaken s u) (sym (events_append c xs ys)) (taken_on (session_events c xs) (session_events c ys) s t u first second)

pub act_takes : (c : Course) (xs : List Act) (a : Act) (s t u : State) → HasTaken s t (session_events c xs) → HasTaken t u (act_events c a) → HasTaken s u (session_events c (xs ++ a ∷ []))
act_takes c xs a s t u first second = subst (HasTaken s u) (sym (events_more c xs a)) (taken_on (session_events c xs) (act_events c a) s t u first second)

pub part_takes : (c : Course) (xs ys : List Act) (part : List Event) (s t u : State) → HasTaken s t (session_events c xs) → HasTaken t u (session_events c ys ++ part) → HasTaken s u (session_events c (xs ++ ys) ++ part)
part_takes c xs ys part s t u first second =
    subst (HasTaken s u) (sym (ap (λ (ds : List Event). ds ++ part) (events_append c xs ys) ∙ append_assoc (session_events c xs) (session_events c ys) part))
    (taken_on (session_events c xs) (session_events c ys ++ part) s t u first second)
