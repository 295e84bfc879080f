-- Rows of the keyboard, over a machine that shows a state.
use Rattle.std.proofs.Common.{◌≡◌, ℕ, ◌+◌, Bool, true, false, ◌||◌, List, [], ◌∷◌, length, map, refl, sym, ◌∙◌, ap, subst}
use Rattle.std.specs.Prelude.{Option, is_some, ⊤, Result, Ok, Err}
use Rattle.digit_core.specs.Cell.{store}
use Rattle.digit_core.specs.Size.{size}
use Rattle.indicators.specs.Panel.{set}
use Rattle.branch_ops.specs.declared.Regs.{Regs}
use Rattle.branch_ops.specs.Registers.{on_at}
use Rattle.outside_io.specs.declared.host.Unit as unit
use Rattle.outside_io.specs.declared.host.Unit.TheVariants as units
use Rattle.outside_io.specs.World.{World, Seen, world_after_take, same_unit}
use Rattle.outside_io.specs.Frame.{Tells, Keeps}
use Rattle.outside_io.proofs.Frames.{keeps_taken}
use Rattle.traces.specs.Trace.{Trace, map_answer}
use Rattle.traces.specs.Change.{StoresCell, Lights}
use Rattle.card_code.specs.Break.{Break, StopsBy, NoKeys, JamsAt}
use Rattle.card_code.specs.Entries.{Entry, behind}
use Rattle.card_code.specs.TextIn.{Intake, TakesText, Changes, Desk, desk_after}
use Rattle.card_unit.specs.Pile.{is_card_unit}
use Rattle.card_unit.specs.Hopper.{hopper_left, own_cards}
use Rattle.card_unit.proofs.ReadSame.{reads_kept}
use Rattle.typewriter.specs.declared.typing.TypeIo.{TypeIo}
use Rattle.typewriter.specs.declared.typing.TypeIo.TheVariants as io
use Rattle.typewriter.specs.Keys.{keys_left, line_feed, key_feed, LooksAtUnit, GoesOnReadingLines}
use Rattle.typewriter.specs.KeyCalls.{line_reading_ending, ReadsLineBy}
use Rattle.card_code.specs.Feed.{station, ReadsIn, ReadsAll, ReadsNone}
use Rattle.cpu_step.specs.declared.machine.Machine.{Machine}
use Rattle.cpu_step.specs.State.{State}
use Rattle.cpu_step.specs.Effects.{of_keys, after}
use Rattle.cpu_step.specs.Act.{Continues, keyboard_action}
use Rattle.cpu_step.specs.Machine.{state_with, Shows, Frames, DidAction, DidFirst, Acts, typewriter_outcome, is_read, is_written, machine_texts}
use Rattle.cpu_step.proofs.ShownStates.{whatever, some_state, some_shown}
use Rattle.cpu_step.proofs.Readers.{hopper_same}
use Rattle.cpu_step.proofs.CardRows.{told_same, tells_next}

right_true : (a b : Bool) → b ≡ true → (a || b) ≡ true
right_true true b is = refl
right_true false b is = is

-- a state over a desk
abbrev on_desk : State → Desk → State
on_desk s d = record s { core = d.core; panel = d.panel; keys = d.left }

abbrev desk_of : State → Desk
desk_of s = record { core = s.core; panel = s.panel; left = s.keys }

after_keys : (es : List Intake) (s : State) → after s (map of_keys es) ≡ on_desk s (desk_after (desk_of s) es)
after_keys [] s = refl
after_keys (TakesText ∷ es) s = after_keys es (record s { keys = behind s.keys })
after_keys (Changes (StoresCell x) ∷ es) s = after_keys es (record s { core = store s.core x.at x.digit })
after_keys (Changes (Lights l) ∷ es) s = after_keys es (record s { panel = set l.code l.to s.panel })

module _ (m : ℕ) (old new : Machine m) (before later : Seen) (hopper : new.hopper ≡ old.hopper) (lines : GoesOnReadingLines old.keys new.keys before later) where
  told_hopper : LooksAtUnit units.Keys before later → hopper_left new.hopper later.world ≡ hopper_left old.hopper before.world
  told_hopper looks = (λ i. hopper_left (hopper i) (looks.goes.world i)) ∙ hopper_same old.hopper (world_after_take units.Keys looks.taken before.world) before.world refl refl

  looked : LooksAtUnit units.Keys before later → is_some (keys_left new.keys later.world) ≡ is_some (keys_left old.keys before.world) → Frames m old new before later
  looked looks told = record {
    later = looks.goes.later;
    keeps = subst (λ (w : World). Keeps is_read is_written true before.world w) (sym looks.goes.world) (keeps_taken is_read is_written true units.Keys looks.taken before.world (λ u same. right_true (is_card_unit u) (same_unit units.Keys u) same));
    told = ap is_some (told_hopper looks);
    told_keys = told;
    told_sectors = ap (λ (w : World). is_some w.sectors) looks.goes.world;
    own = ap own_cards hopper;
    cards = reads_kept old.hopper new.hopper before later hopper (ap (λ (w : World). w.left units.Deck) looks.goes.world) (ap (λ (w : World). w.left units.Data) looks.goes.world) (ap (λ (w : World). w.asked units.Deck) looks.goes.world) (ap (λ (w : World). w.asked units.Data) looks.goes.world);
    lines = lines;
  }

  module _ (t : ℕ → List Entry → Trace Intake ⊤ Break) (regs : new.regs ≡ old.regs) (mode : new.mode ≡ old.mode) (arms : new.arms ≡ old.arms) where
    -- a line is read, where the host didn't fail
    keyed_did : (next : Regs) (r : Result ⊤ Break) → next ≡ on_at old.regs (old.regs.ir + 12) → length old.core ≡ size m
        → ReadsAll key_feed (t (size m)) (station old.core old.panel old.keys before) (station new.core new.panel new.keys later) r → DidAction m (λ s. keyboard_action s t) old new before later (map_answer (λ x. Continues next) r)
    keyed_did next r next_is long all =
        let cards = whatever (hopper_left old.hopper before.world) [] in
        let pack = whatever before.world.sectors (λ a. []) in
        let s : State = state_with m old before.world cards.given all.given pack.given in
        let there : Shows m new later.world (record s { core = new.core; panel = new.panel; keys = all.rest }) = record {
          is = λ i. record { core = new.core; regs = sym regs i; panel = new.panel; arms = sym arms i; hopper = cards.given; keys = all.rest; written = machine_texts (sym all.looks.goes.world i); sectors = pack.given; mode = sym mode i };
          sectors = subst (λ (o : Option (ℕ → List ℕ)). Tells o pack.given) (sym (ap (λ (w : World). w.sectors) all.looks.goes.world)) pack.told;
          hopper = subst (λ (o : Option (List Entry)). Tells o cards.given) (sym (told_hopper all.looks)) cards.told;
          keys = tells_next (keys_left old.keys before.world) (keys_left new.keys later.world) all.rest all.left;
        } in
        let end : after s (map of_keys (t (length s.core) s.keys).effects) ≡ record s { core = new.core; panel = new.panel; keys = all.rest } =
        after_keys (t (length s.core) s.keys).effects s ∙ ap (λ (n : ℕ). on_desk s (desk_after (desk_of s) (t n s.keys).effects)) long ∙ ap (λ (d : Desk). on_desk s d) (sym all.leaves) in
        record {
          state = s;
          shown = record { is = refl; hopper = cards.told; keys = all.told; sectors = pack.told };
          answers = ap (λ (n : ℕ). map_answer (λ x. Continues (on_at old.regs (old.regs.ir + 12))) (t n all.given).answer) long ∙ (λ i. map_answer (λ x. Continues (sym next_is i)) (all.answers i));
          made = subst (λ (x : State). Shows m new later.world x) (sym end) there;
          frames = looked all.looks (told_same (keys_left old.keys before.world) (keys_left new.keys later.world) all.rest all.left);
        }

    -- a line is read, where it did
    keyboard_first : ReadsNone key_feed (station old.core old.panel old.keys before) (station new.core new.panel new.keys later) → DidFirst m (λ s. keyboard_action s t) old new before later
    keyboard_first none =
        let looks = none.fails.stays.looks in
        let s : State = some_state m old before.world in
        let shown = some_shown m old before.world in
        record {
          done = 0;
          makes = record {
            state = s;
            shown = shown;
            made = record {
              is = λ i. record { core = sym none.core_same i; regs = sym regs i; panel = sym none.panel_same i; arms = sym arms i; hopper = s.hopper; keys = s.keys; written = machine_texts (sym looks.goes.world i); sectors = s.sectors; mode = sym mode i };
              sectors = subst (λ (o : Option (ℕ → List ℕ)). Tells o s.sectors) (sym (ap (λ (w : World). w.sectors) looks.goes.world)) shown.sectors;
              hopper = subst (λ (o : Option (List Entry)). Tells o s.hopper) (sym (told_hopper looks)) shown.hopper;
              keys = subst (λ (o : Option (List Entry)). Tells o s.keys) (sym none.fails.stays.left) shown.keys;
            };
            frames = looked looks (ap is_some none.fails.stays.left);
          };
          rose = none.fails.rose;
        }

    -- an instruction that reads a line of the keyboard
    acts_so : (next : Regs) (answer : TypeIo) → next ≡ on_at old.regs (old.regs.ir + 12) → length old.core ≡ size m
        → ReadsIn key_feed (t (size m)) (station old.core old.panel old.keys before) (station new.core new.panel new.keys later) (line_reading_ending units.Keys answer) → Acts m (λ s. keyboard_action s t) old new before later (typewriter_outcome next answer)
    acts_so next io.Done next_is long reads = keyed_did next (Ok tt) next_is long reads
    acts_so next (io.Stop why) next_is long reads = keyed_did next (Err (StopsBy why)) next_is long reads
    acts_so next io.NoKeys next_is long reads = keyed_did next (Err NoKeys) next_is long reads
    acts_so next (io.Jam n) next_is long reads = keyed_did next (Err (JamsAt units.Keys n)) next_is long reads
    acts_so next io.Failed next_is long reads = keyboard_first reads

    pub keyboard_acts : (next : Regs) (answer : TypeIo) → next ≡ on_at old.regs (old.regs.ir + 12) → length old.core ≡ size m
        → ReadsLineBy (t (size m)) (station old.core old.panel old.keys before) (station new.core new.panel new.keys later) answer → Acts m (λ s. keyboard_action s t) old new before later (typewriter_outcome next answer)
    keyboard_acts next answer next_is long reads =
        acts_so next answer next_is long
        (subst (λ (u : unit.Unit). ReadsIn (line_feed u) (t (size m)) (station old.core old.panel old.keys before) (station new.core new.panel new.keys later) (line_reading_ending u answer)) old.keys_are reads)
