-- What is punched and typed, over a machine that shows a state.
use Rattle.std.proofs.Common.{◌≡◌, ℕ, ◌+◌, true, List, [], ◌∷◌, map, take, refl, sym, ◌∙◌, ap, subst}
use Rattle.std.proofs.lemmas.List.{take-map}
use Rattle.std.specs.Prelude.{Option, is_some, ⊤, Result, Ok, Err}
use Rattle.addr_indirect.specs.declared.Stop.{Stop}
use Rattle.indicators.specs.declared.Panel.{Panel}
use Rattle.indicators.specs.Panel.{set}
use Rattle.indicators.specs.Lamps.{panel_after}
use Rattle.outside_io.specs.declared.host.Unit as unit
use Rattle.outside_io.specs.declared.host.Unit.TheVariants as units
use Rattle.outside_io.specs.World.{World, Seen, Goes as Later, at, world_after_put}
use Rattle.outside_io.specs.Frame.{Tells, Keeps}
use Rattle.outside_io.proofs.Frames.{keeps_added}
use Rattle.traces.specs.Trace.{Trace, lift}
use Rattle.card_code.specs.Break.{Break, stop_as_break}
use Rattle.card_code.specs.Entries.{Entry}
use Rattle.card_code.specs.TextOut.{Output, WritesByte, Warns, bytes_out, lamps_of}
use Rattle.card_code.specs.Written.{Wrote, WroteFirst, WrotePairs, WroteFirstPairs}
use Rattle.card_unit.specs.Hopper.{hopper_left, own_cards}
use Rattle.card_unit.proofs.ReadSame.{reads_kept}
use Rattle.card_unit.specs.declared.reader.CardIo.{CardIo}
use Rattle.card_unit.specs.declared.reader.CardIo.TheVariants as cards
use Rattle.card_unit.specs.CardCalls.{Punches, PunchesPairs}
use Rattle.typewriter.specs.declared.typing.TypeIo.{TypeIo}
use Rattle.typewriter.specs.declared.typing.TypeIo.TheVariants as io
use Rattle.typewriter.specs.Typing.{Types, TypesPairs}
use Rattle.typewriter.specs.Keys.{keys_left}
use Rattle.typewriter.proofs.ReadSame.{reads_kept as keys_kept}
use Rattle.branch_ops.specs.declared.Regs.{Regs}
use Rattle.branch_ops.specs.Registers.{on_at}
use Rattle.cpu_step.specs.declared.machine.Machine.{Machine}
use Rattle.cpu_step.specs.State.{UnitTexts, State}
use Rattle.cpu_step.specs.Effects.{Effect, Written, of_output, with_bytes, after}
use Rattle.cpu_step.specs.Act.{Next, then_next, typing_action, pair_typing_action, punch_action, pair_punch_action}
use Rattle.cpu_step.specs.Machine.{Shows, Frames, DidAction, DidFirst, Acts, typewriter_outcome, card_outcome, is_read, is_written, machine_texts}
use Rattle.cpu_step.proofs.ShownStates.{some_state, some_shown}
use Rattle.cpu_step.proofs.Parts.{went_on}
use Rattle.cpu_step.proofs.Texts.{put_none, put_on, texts_put, same_written}
use Rattle.cpu_step.proofs.Readers.{hopper_same}

-- bytes alone change the text alone
abbrev with_text : unit.Unit → List ℕ → State → State
with_text u bs s = record s { written = at u (with_bytes bs) s.written }

after_out : (u : unit.Unit) (bs : List ℕ) (s : State) → after s (map (Written u) bs) ≡ with_text u bs s
after_out u [] s = ap (λ (t : UnitTexts). record s { written = t }) (sym (put_none u s.written))
after_out u (b ∷ bs) s = after_out u bs (with_text u (b ∷ []) s) ∙ ap (λ (t : UnitTexts). record s { written = t }) (put_on u (b ∷ []) bs s.written)

-- pairs change the text and the panel alone
after_pairs : (u : unit.Unit) (es : List Output) (s : State) → after s (map (of_output u) es) ≡ record (with_text u (bytes_out es) s) { panel = panel_after s.panel (lamps_of es) }
after_pairs u [] s = ap (λ (t : UnitTexts). record s { written = t }) (sym (put_none u s.written))
after_pairs u (WritesByte b ∷ es) s =
    after_pairs u es (with_text u (b ∷ []) s) ∙ ap (λ (t : UnitTexts). record s { written = t; panel = panel_after s.panel (lamps_of es) }) (put_on u (b ∷ []) (bytes_out es) s.written)
after_pairs u (Warns l ∷ es) s = after_pairs u es (record s { panel = set l.code l.to s.panel })

-- The rest of the machine stays.
module _ (m : ℕ) (old new : Machine m) (before later : Seen) (core : new.core ≡ old.core) (regs : new.regs ≡ old.regs) (mode : new.mode ≡ old.mode) (arms : new.arms ≡ old.arms) (hopper : new.hopper ≡ old.hopper) (keys : new.keys ≡ old.keys) where
  abbrev behind_it : Regs
  behind_it = on_at old.regs (old.regs.ir + 12)

  abbrev from : State
  from = some_state m old before.world

  -- bytes go to a unit that the machine writes
  module _ (u : unit.Unit) (own : is_written u ≡ true) where
    told_hopper : (bs : List ℕ) → later.world ≡ world_after_put u bs before.world → hopper_left new.hopper later.world ≡ hopper_left old.hopper before.world
    told_hopper bs world = (λ i. hopper_left (hopper i) (world i)) ∙ hopper_same old.hopper (world_after_put u bs before.world) before.world refl refl

    told_keys : (bs : List ℕ) → later.world ≡ world_after_put u bs before.world → keys_left new.keys later.world ≡ keys_left old.keys before.world
    told_keys bs world = λ i. keys_left (keys i) (world i)

    frames : (bs : List ℕ) → Later before later (world_after_put u bs before.world) → Frames m old new before later
    frames bs goes = record {
      later = goes.later;
      keeps = subst (λ (w : World). Keeps is_read is_written true before.world w) (sym goes.world) (keeps_added is_read is_written true u bs before.world (same_written u true own));
      told = ap is_some (told_hopper bs goes.world);
      told_keys = ap is_some (told_keys bs goes.world);
      told_sectors = ap (λ (w : World). is_some w.sectors) goes.world;
      own = ap own_cards hopper;
      cards = reads_kept old.hopper new.hopper before later hopper (ap (λ (w : World). w.left units.Deck) goes.world) (ap (λ (w : World). w.left units.Data) goes.world) (ap (λ (w : World). w.asked units.Deck) goes.world) (ap (λ (w : World). w.asked units.Data) goes.world);
      lines = keys_kept old.keys new.keys before later keys (ap (λ (w : World). w.left units.Keys) goes.world) (ap (λ (w : World). w.asked units.Keys) goes.world);
    }

    there : (bs : List ℕ) → Later before later (world_after_put u bs before.world) → Shows m new later.world (record (with_text u bs from) { panel = new.panel })
    there bs goes =
        let texts : machine_texts later.world ≡ at u (with_bytes bs) from.written = ap machine_texts goes.world ∙ texts_put u bs before.world in
        record {
          is = λ i. record {
            core = sym core i;
            regs = sym regs i;
            panel = new.panel;
            arms = sym arms i;
            hopper = from.hopper;
            keys = from.keys;
            written = sym texts i;
            sectors = from.sectors;
            mode = sym mode i;
          };
          hopper = subst (λ (o : Option (List Entry)). Tells o from.hopper) (sym (told_hopper bs goes.world)) (some_shown m old before.world).hopper;
          keys = subst (λ (o : Option (List Entry)). Tells o from.keys) (sym (told_keys bs goes.world)) (some_shown m old before.world).keys;
          sectors = subst (λ (o : Option (ℕ → List ℕ)). Tells o from.sectors) (sym (ap (λ (w : World). w.sectors) goes.world)) (some_shown m old before.world).sectors;
        }

    out_there : (bs : List ℕ) → new.panel ≡ old.panel → Later before later (world_after_put u bs before.world) → Shows m new later.world (after from (map (Written u) bs))
    out_there bs panel goes = subst (λ (s : State). Shows m new later.world s) (sym (after_out u bs from ∙ ap (λ (p : Panel). record (with_text u bs from) { panel = p }) (sym panel))) (there bs goes)

    pairs_there : (es : List Output) → new.panel ≡ panel_after old.panel (lamps_of es) → Later before later (world_after_put u (bytes_out es) before.world) → Shows m new later.world (after from (map (of_output u) es))
    pairs_there es panel goes = subst (λ (s : State). Shows m new later.world s) (sym (after_pairs u es from ∙ ap (λ (p : Panel). record (with_text u (bytes_out es) from) { panel = p }) (sym panel))) (there (bytes_out es) goes)

    -- digits
    module _ (f : List ℕ → Trace ℕ ⊤ Stop) (panel : new.panel ≡ old.panel) where
      abbrev Digits : State → Trace Effect Next Break
      Digits s = then_next s (lift (Written u) (stop_as_break (f s.core)))

      wrote_did : (r : Result ⊤ Stop) → Wrote u (f old.core) before later r → DidAction m Digits old new before later (went_on behind_it r)
      wrote_did r wrote = record {
        state = from;
        shown = some_shown m old before.world;
        answers = ap (went_on behind_it) wrote.answers;
        made = out_there (f old.core).effects panel wrote.goes;
        frames = frames (f old.core).effects wrote.goes;
      }

      wrote_first : WroteFirst u (f old.core) before later → DidFirst m Digits old new before later
      wrote_first wrote = record {
        done = wrote.done;
        makes = record {
          state = from;
          shown = some_shown m old before.world;
          made = subst (λ (es : List Effect). Shows m new later.world (after from es)) (sym (take-map (Written u) wrote.done (f old.core).effects)) (out_there (take wrote.done (f old.core).effects) panel wrote.goes);
          frames = frames (take wrote.done (f old.core).effects) wrote.goes;
        };
        rose = wrote.rose;
      }

    -- pairs
    module _ (f : List ℕ → Trace Output ⊤ Stop) where
      abbrev PairsOut : State → Trace Effect Next Break
      PairsOut s = then_next s (lift (of_output u) (stop_as_break (f s.core)))

      pairs_did : (r : Result ⊤ Stop) → WrotePairs u (f old.core) old.panel before new.panel later r → DidAction m PairsOut old new before later (went_on behind_it r)
      pairs_did r wrote = record {
        state = from;
        shown = some_shown m old before.world;
        answers = ap (went_on behind_it) wrote.answers;
        made = pairs_there (f old.core).effects wrote.puts.shows wrote.puts.goes;
        frames = frames (bytes_out (f old.core).effects) wrote.puts.goes;
      }

      pairs_first : WroteFirstPairs u (f old.core) old.panel before new.panel later → DidFirst m PairsOut old new before later
      pairs_first wrote = record {
        done = wrote.done;
        makes = record {
          state = from;
          shown = some_shown m old before.world;
          made = subst (λ (es : List Effect). Shows m new later.world (after from es)) (sym (take-map (of_output u) wrote.done (f old.core).effects)) (pairs_there (take wrote.done (f old.core).effects) wrote.puts.shows wrote.puts.goes);
          frames = frames (bytes_out (take wrote.done (f old.core).effects)) wrote.puts.goes;
        };
        rose = wrote.rose;
      }

  -- instructions that type, and that punch
  pub typing_acts : (f : List ℕ → Trace ℕ ⊤ Stop) (next : Regs) (answer : TypeIo) → next ≡ behind_it → new.panel ≡ old.panel → Types (f old.core) before later answer → Acts m (λ s. typing_action s (f s.core)) old new before later (typewriter_outcome next answer)
  typing_acts f next io.Done is panel types = rw is (wrote_did units.Typed refl f panel (Ok tt) types)
  typing_acts f next (io.Stop why) is panel types = wrote_did units.Typed refl f panel (Err why) types
  typing_acts f next io.NoKeys is panel types = absurd types
  typing_acts f next (io.Jam n) is panel types = absurd types
  typing_acts f next io.Failed is panel types = wrote_first units.Typed refl f panel types

  pub pair_typing_acts : (f : List ℕ → Trace Output ⊤ Stop) (next : Regs) (answer : TypeIo) → next ≡ behind_it → TypesPairs (f old.core) old.panel before new.panel later answer → Acts m (λ s. pair_typing_action s (f s.core)) old new before later (typewriter_outcome next answer)
  pair_typing_acts f next io.Done is types = rw is (pairs_did units.Typed refl f (Ok tt) types)
  pair_typing_acts f next (io.Stop why) is types = pairs_did units.Typed refl f (Err why) types
  pair_typing_acts f next io.NoKeys is types = absurd types
  pair_typing_acts f next (io.Jam n) is types = absurd types
  pair_typing_acts f next io.Failed is types = pairs_first units.Typed refl f types

  pub punch_acts : (f : List ℕ → Trace ℕ ⊤ Stop) (next : Regs) (answer : CardIo) → next ≡ behind_it → new.panel ≡ old.panel → Punches (f old.core) before later answer → Acts m (λ s. punch_action s (f s.core)) old new before later (card_outcome next answer)
  punch_acts f next cards.Done is panel wrote = rw is (wrote_did units.Punched refl f panel (Ok tt) wrote)
  punch_acts f next (cards.Stop why) is panel wrote = wrote_did units.Punched refl f panel (Err why) wrote
  punch_acts f next cards.Empty is panel wrote = absurd wrote
  punch_acts f next (cards.Jam u n) is panel wrote = absurd wrote
  punch_acts f next cards.Failed is panel wrote = wrote_first units.Punched refl f panel wrote

  pub pair_punch_acts : (f : List ℕ → Trace Output ⊤ Stop) (next : Regs) (answer : CardIo) → next ≡ behind_it → PunchesPairs (f old.core) old.panel before new.panel later answer → Acts m (λ s. pair_punch_action s (f s.core)) old new before later (card_outcome next answer)
  pair_punch_acts f next cards.Done is wrote = rw is (pairs_did units.Punched refl f (Ok tt) wrote)
  pair_punch_acts f next (cards.Stop why) is wrote = pairs_did units.Punched refl f (Err why) wrote
  pair_punch_acts f next cards.Empty is wrote = absurd wrote
  pair_punch_acts f next (cards.Jam u n) is wrote = absurd wrote
  pair_punch_acts f next cards.Failed is wrote = pairs_first units.Punched refl f wrote
