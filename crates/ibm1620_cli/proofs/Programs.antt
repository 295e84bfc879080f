-- The promise of a program: a machine that is powered on over its deck, loads it, and takes the turns.
use Rattle.std.proofs.Common.{◌≡◌, ℕ, List, [], length, map, refl, sym, ◌∙◌, ap, subst, arith}
use Rattle.std.proofs.lemmas.List.{length-map}
use Rattle.std.specs.Prelude.{Option, Some, None, IfSome, option_map}
use Rattle.outside_io.specs.declared.host.Unit.TheVariants as units
use Rattle.outside_io.specs.World.{World, Seen}
use Rattle.outside_io.proofs.EventLemmas.{did_none}
use Rattle.card_code.specs.declared.Card.{Card}
use Rattle.card_code.specs.Entries.{Entry, Text, hopper_of, entries_of_unit}
use Rattle.card_unit.specs.declared.hopper.Hopper.{Hopper}
use Rattle.card_unit.specs.Hopper.{hopper_left, deck_left, own_cards, cards_and_data, IsNewHopper}
use Rattle.cpu_step.specs.declared.machine.Machine.{Machine}
use Rattle.cpu_step.specs.State.{UnitTexts}
use Rattle.cpu_step.specs.Load.{state_at_power_on, load_key}
use Rattle.cpu_step.specs.Machine.{machine_texts, state_of, over_all, IsPowered}
use Rattle.operator_script.specs.declared.script.Script.{Script}
use Rattle.operator_script.specs.declared.script.ScriptLine.{ScriptLine}
use Rattle.operator_script.specs.Scripts.{lines_left}
use Rattle.deck_punch.specs.declared.form.DeckForm.{DeckForm}
use Rattle.loader_cards.specs.ObjectDeck.{deck_steps}
use Rattle.card_columns.specs.Types.{card_bytes}
use Rattle.command_line.specs.declared.reading.Settings.{Settings}
use Rattle.ibm1620_cli.specs.declared.answer.Answer.{Answer}
use Rattle.ibm1620_cli.specs.Promise.{KeepsPromise}
use Rattle.ibm1620_cli.specs.Turns.{MachineFeed, feed_of, feed_at, lines_of_feed, state_over_feed, state_over, first_over, LoadedMachine, turns_promise}
use Rattle.ibm1620_cli.specs.Program.{Program, Fits, deck_of, steps_of_deck, cards_before, set_up_at_power_on, set_up_after_load, loaded_by, program_promise, KeepsProgramPromise}
use Rattle.ibm1620_cli.specs.Parts.{Executes}
use Rattle.ibm1620_cli.proofs.SetUps.{set_up_after_steps, machine_after_steps}
use Rattle.ibm1620_cli.proofs.ToldValues.{all_some}
use Rattle.ibm1620_cli.proofs.Entering.{over_powered}
use Rattle.ibm1620_cli.proofs.StepEvents.{program_taken}
use Rattle.ibm1620_cli.proofs.Stepping.{last_stands}
use Rattle.ibm1620_cli.proofs.TurnPromises.{IsLoaded}
use Rattle.ibm1620_cli.proofs.DeckPromises.{steps_loaded, promise_executes}

fed : (m : ℕ) (cards : List (List ℕ)) (rest keys : Option (List ℕ)) (sectors : Option (ℕ → List ℕ)) (written : UnitTexts)
    → over_all (λ es ks pack. state_at_power_on m es ks written pack) (option_map (hopper_of cards []) rest) (option_map (entries_of_unit units.Keys 0) keys) sectors
    ≡ option_map (λ feed. state_over_feed m written (hopper_of cards [] feed.cards) feed) (feed_of rest keys sectors)
fed m cards None keys sectors written = refl
fed m cards (Some c) None sectors written = refl
fed m cards (Some c) (Some k) None written = refl
fed m cards (Some c) (Some k) (Some s) written = refl

-- the state of a machine at power on over these cards
pub powered_state : (m : ℕ) (cards : List (List ℕ)) (hopper : Hopper) (w : World) → ((v : World) → hopper_left hopper v ≡ cards_and_data cards v) → (machine : Machine m) → IsPowered m hopper machine
    → state_of m machine w ≡ option_map (λ feed. state_over_feed m (machine_texts w) (hopper_of cards [] feed.cards) feed) (feed_at w)
powered_state m cards hopper w holds machine is =
    (λ i. over_all (λ es ks pack. record { core = is.core i; regs = is.regs i; panel = is.panel i; arms = is.arms i; hopper = es; keys = ks; written = machine_texts w; sectors = pack; mode = is.halted i }) (hopper_left (is.hopper_in i) w) (is.keys_in w i) w.sectors)
    ∙ ap (λ (o : Option (List Entry)). over_all (λ es ks pack. state_at_power_on m es ks (machine_texts w) pack) o (option_map (entries_of_unit units.Keys 0) (w.left units.Keys)) w.sectors) (holds w)
    ∙ fed m cards (w.left units.Data) (w.left units.Keys) w.sectors (machine_texts w)

-- the entries of its reader's pile are these cards
pub pile_told : (cards : List (List ℕ)) (hopper : Hopper) (w : World) → ((v : World) → deck_left hopper v ≡ Some (map Text cards)) → IfSome (feed_at w) (λ feed. IfSome (deck_left hopper w) (λ left. map Text cards ≡ left))
pile_told cards hopper w deck = all_some (feed_at w) (λ feed. subst (λ (o : Option (List Entry)). IfSome o (λ left. map Text cards ≡ left)) (sym (deck w)) refl)

module _ (p : Program) (fits : Fits p) where
  abbrev k : ℕ
  k = steps_of_deck p

  -- over the texts of a world, and under a script
  module _ (w : World) (lines : List ScriptLine) where
    abbrev loaded : MachineFeed → LoadedMachine
    loaded feed = loaded_by p feed (state_over w (set_up_at_power_on p feed)) (first_over w (set_up_after_load p feed) lines)

    -- behind its deck's steps, which take its cards, the program is loaded
    is_loaded : (λ (feed : MachineFeed). machine_after_steps p.modules k w lines (map Text (deck_of p)) (cards_before (deck_of p) feed) feed) ≡ loaded
    unfolding set_up_after_steps set_up_after_load
    is_loaded = λ i feed. record {
      powered = state_over w (set_up_at_power_on p feed);
      steps = k;
      pile = map Text (deck_of p);
      cards = cards_before (deck_of p) feed;
      keys = lines_of_feed feed;
      taken = program_taken p feed (machine_texts w) fits i;
      first = first_over w (λ written. last_stands k (load_key (set_up_at_power_on p feed written)) (over_powered p feed written fits).running i) lines;
    }

    pub program_loaded : (feed : MachineFeed) → IsLoaded (loaded feed)
    program_loaded feed = subst (λ (l : MachineFeed → LoadedMachine). IsLoaded (l feed)) is_loaded (steps_loaded p.modules k w lines (map Text (deck_of p)) (cards_before (deck_of p) feed) feed)

  promise_program : (limit : ℕ) (hopper : Hopper) (script : Script) (start new : Seen) (answer : Answer)
      → ((w : World) → hopper_left hopper w ≡ cards_and_data (deck_of p) w) → ((w : World) → deck_left hopper w ≡ Some (map Text (deck_of p))) → own_cards hopper ≡ Some (deck_of p) → IsNewHopper hopper → Executes p.modules k limit hopper script start new answer
      → KeepsPromise (program_promise [] limit (lines_left script) p start.world) start new answer
  promise_program limit hopper script start new answer holds deck own begins executes =
      subst (λ (l : MachineFeed → LoadedMachine). KeepsPromise (turns_promise (Some (deck_of p)) [] limit l (feed_at start.world)) start new answer) (is_loaded start.world (lines_left script))
      (promise_executes p.modules k limit (Some (deck_of p)) [] (λ feed. map Text (deck_of p)) (cards_before (deck_of p)) (λ feed. feed) (feed_at start.world) hopper script start start (powered_state p.modules (deck_of p) hopper start.world holds) (omega arith) (did_none start.world) (λ u read. refl) tt own begins
      (pile_told (deck_of p) hopper start.world deck) new answer executes)

pub keeps_program_promise : (m : ℕ) (settings : Settings) (steps : ℕ) (cards : List Card) (hopper : Hopper) (script : Script) (start new : Seen) (answer : Answer) → ((w : World) → hopper_left hopper w ≡ cards_and_data (map card_bytes cards) w)
    → ((w : World) → deck_left hopper w ≡ Some (map Text (map card_bytes cards))) → own_cards hopper ≡ Some (map card_bytes cards)
    → IsNewHopper hopper → steps ≡ deck_steps settings.form (length cards) → Executes m steps settings.limit hopper script start new answer → KeepsProgramPromise m settings (map card_bytes cards) (lines_left script) start new answer
keeps_program_promise m settings steps cards hopper script start new answer holds deck own begins steps_are executes p fits sized same is =
    promise_program p fits settings.limit hopper script start new answer (λ w. holds w ∙ ap (λ (texts : List (List ℕ)). cards_and_data texts w) is) (λ w. deck w ∙ ap (λ (texts : List (List ℕ)). Some (map Text texts)) is) (own ∙ ap (λ (texts : List (List ℕ)). Some texts) is) begins
    (subst (λ (n : ℕ). Executes p.modules n settings.limit hopper script start new answer) (steps_are ∙ ap (deck_steps settings.form) (sym (length-map cards card_bytes) ∙ ap length is) ∙ ap (λ (f : DeckForm). deck_steps f (length (deck_of p))) (sym same))
    (subst (λ (k : ℕ). Executes k steps settings.limit hopper script start new answer) (sym sized) executes))
