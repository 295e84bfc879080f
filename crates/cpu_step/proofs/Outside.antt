-- What a step, and a part of one, does outside.
use Rattle.std.proofs.Common.{◌≡◌, ℕ, zero, suc, Bool, true, false, List, [], ◌∷◌, take, refl, sym, ◌∙◌, ap, subst, if◌then◌else◌, All}
use Rattle.std.proofs.Math.Path.{fun_ext}
use Rattle.std.proofs.lemmas.Bool.{true≢false}
use Rattle.std.proofs.lemmas.List.Elements.{All-head, All-tail, All-take}
use Rattle.std.specs.Prelude.{Option, Some, None, option_map, Result, Ok, Err}
use Rattle.outside_io.specs.World.{World, same_unit, at}
use Rattle.outside_io.specs.Frame.{Keeps, with_less_room}
use Rattle.outside_io.specs.Events.{Event, after_events, IsFirstPart, SameOutside, DidAll}
use Rattle.outside_io.proofs.Frames.{keeps_all, less_room_put}
use Rattle.outside_io.proofs.EventLemmas.{same_on, same_sym, same_events, after_append, first_none, first_on}
use Rattle.card_code.specs.Break.{Break, StopsBy, Empty, NoKeys, JamsAt}
use Rattle.addr_indirect.specs.declared.Stop.{Stop}
use Rattle.cpu_step.specs.declared.machine.Machine.{Machine}
use Rattle.cpu_step.specs.State.{UnitTexts, State}
use Rattle.cpu_step.specs.Act.{Next, Continues, Halts}
use Rattle.cpu_step.specs.Effects.{Effect, CellStored, Light, Arm, Written, Sector, CardTaken, LineTaken, with_bytes, after_one, after}
use Rattle.cpu_step.specs.Step.{instruction, check_stop, state_after_check, settle, step, partial_step}
use Rattle.cpu_step.specs.Machine.{state_of, is_read, is_written}
use Rattle.cpu_step.specs.Load.{state_for_load, load_trace, load_key, load_cut}
use Rattle.cpu_step.specs.Outside.{outside, all_outside, load_events}
use Rattle.cpu_step.proofs.ExactCards.{state_is, state_pack}
use Rattle.cpu_step.proofs.Texts.{same_written}
use Rattle.cpu_step.proofs.OwnUnits.{IsOwn, instruction_own, load_own}

-- the texts of a world with those of a state
abbrev seen_texts : World → State → UnitTexts
seen_texts w s v = if is_written v then s.written v else w.written v

-- a world with the texts and the sectors of a state, and with the room that these texts leave
abbrev pub seen_by : World → State → World
seen_by w s = record w {
  written = seen_texts w s;
  sectors = Some s.sectors;
  limits = option_map (with_less_room w.written (seen_texts w s)) w.limits;
}

seen_put : (own same : Bool) (byte : ℕ) (o p : Option (List ℕ)) → (same ≡ true → own ≡ true)
    → (if own then (if same then with_bytes (byte ∷ []) o else o) else p) ≡ (if same then with_bytes (byte ∷ []) (if own then o else p) else (if own then o else p))
seen_put true same byte o p is = refl
seen_put false true byte o p is = absurd (true≢false (sym (is refl)))
seen_put false false byte o p is = refl

module _ (w : World) where
  one_seen : (s : State) (e : Effect) → IsOwn e → seen_by w (after_one s e) ≡ after_events (seen_by w s) (outside e)
  one_seen s (CellStored d) own = refl
  one_seen s (Light l) own = refl
  one_seen s (Arm drive cylinder) own = refl
  one_seen s (Written u b) own =
      let texts : seen_texts w (after_one s (Written u b)) ≡ at u (with_bytes (b ∷ [])) (seen_texts w s) = fun_ext (λ v. seen_put (is_written v) (same_unit u v) b (s.written v) (w.written v) (same_written u true own v)) in
      let limits = ap (λ (t : UnitTexts). option_map (with_less_room w.written t) w.limits) texts ∙ sym (less_room_put u (b ∷ []) w.written (seen_texts w s) w.limits) in
      λ i. record (seen_by w s) { written = texts i; limits = limits i }
  one_seen s (Sector a bytes) own = refl
  one_seen s CardTaken own = refl
  one_seen s LineTaken own = refl

  all_seen : (es : List Effect) (s : State) → All IsOwn es → seen_by w (after s es) ≡ after_events (seen_by w s) (all_outside es)
  all_seen [] s own = refl
  all_seen (e ∷ es) s own = all_seen es (after_one s e) (All-tail IsOwn e es own) ∙ ap (λ (x : World). after_events x (all_outside es)) (one_seen s e (All-head IsOwn e es own)) ∙ sym (after_append (outside e) (all_outside es) (seen_by w s))

  checked_seen : (o : Option Stop) (s : State) (n : Next) → seen_by w (state_after_check o s n) ≡ seen_by w s
  checked_seen None s (Continues regs) = refl
  checked_seen None s (Halts regs) = refl
  checked_seen (Some why) s n = refl

  settle_seen : (s : State) (r : Result Next Break) → seen_by w (settle s r) ≡ seen_by w s
  settle_seen s (Ok next) = checked_seen (check_stop s.panel) s next
  settle_seen s (Err (StopsBy why)) = refl
  settle_seen s (Err Empty) = refl
  settle_seen s (Err NoKeys) = refl
  settle_seen s (Err (JamsAt u n)) = refl

  -- a step, and a part of one
  pub step_seen : (s : State) → seen_by w (step s) ≡ after_events (seen_by w s) (all_outside (instruction s).effects)
  unfolding step
  step_seen s = settle_seen (after s (instruction s).effects) (instruction s).answer ∙ all_seen (instruction s).effects s (instruction_own s)

  pub cut_seen : (done : ℕ) (s : State) → seen_by w (partial_step done s) ≡ after_events (seen_by w s) (all_outside (take done (instruction s).effects))
  unfolding partial_step
  cut_seen done s = all_seen (take done (instruction s).effects) s (All-take IsOwn done (instruction s).effects (instruction_own s))

  -- the Load key, and a part of it
  pub load_seen : (s : State) → seen_by w (load_key s) ≡ after_events (seen_by w s) (load_events s)
  unfolding load_key
  load_seen s = all_seen (load_trace (state_for_load s)).effects (state_for_load s) (load_own s)

  pub load_cut_seen : (done : ℕ) (s : State) → seen_by w (load_cut done s) ≡ after_events (seen_by w s) (all_outside (take done (load_trace (state_for_load s)).effects))
  unfolding load_cut
  load_cut_seen done s = all_seen (take done (load_trace (state_for_load s)).effects) (state_for_load s) (All-take IsOwn done (load_trace (state_for_load s)).effects (load_own s))

  pub first_effects : (done : ℕ) (es : List Effect) → IsFirstPart (all_outside (take done es)) (all_outside es)
  first_effects zero es = first_none (all_outside es)
  first_effects (suc n) [] = first_none []
  first_effects (suc n) (e ∷ es) = first_on (outside e) (all_outside (take n es)) (all_outside es) (first_effects n es)

-- WORLDS AND STATES

shown_at : (own : Bool) (now old : Option (List ℕ)) → (own ≡ false → now ≡ old) → now ≡ (if own then (if own then now else None) else old)
shown_at true now old other = refl
shown_at false now old other = other refl

-- a world is the one that a state shows over an earlier world, of which all but the machine's texts and the pack stayed
pub shown_over : (m : ℕ) (machine : Machine m) (old now : World) (s : State) → Keeps is_read is_written true old now → state_of m machine now ≡ Some s → SameOutside now (seen_by old s)
shown_over m machine old now s keeps here =
    let shown = state_is m machine now s here in
    let texts : now.written ≡ seen_texts old s = fun_ext (λ v. shown_at (is_written v) (now.written v) (old.written v) (keeps.written v)) ∙ (λ i v. if is_written v then (sym shown i).written v else old.written v) in
    record {
      file = keeps.file;
      in_use = keeps.in_use;
      names = keeps.names;
      written = texts;
      sectors = state_pack m machine now s here;
      limits = keeps.room.limits ∙ ap (λ (t : UnitTexts). option_map (with_less_room old.written t) old.limits) texts;
    }

-- events between two states are those between their worlds
pub did_between : (m : ℕ) (before_machine machine : Machine m) (old now : World) (s t : State) (ds : List Event) → Keeps is_read is_written true old now → state_of m before_machine old ≡ Some s → state_of m machine now ≡ Some t
    → seen_by old t ≡ after_events (seen_by old s) ds → DidAll ds old now
did_between m before_machine machine old now s t ds keeps here there path =
    same_on now (seen_by old t) (after_events old ds) (shown_over m machine old now t keeps there)
    (subst (λ (w : World). SameOutside w (after_events old ds)) (sym path)
    (same_events ds (seen_by old s) old (same_sym old (seen_by old s) (shown_over m before_machine old old s (keeps_all is_read is_written true old) here))))
