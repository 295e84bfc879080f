-- A machine whose Load key is pressed over the cards of Deck and Data.
use Rattle.std.proofs.Common.{◌≡◌, ℕ, List, [], refl, sym, ◌∙◌, ap, subst, arith}
use Rattle.std.proofs.lemmas.List.{append-nil}
use Rattle.std.specs.Prelude.{Option, Some, None, IfSome, option_map, option_and_then}
use Rattle.outside_io.specs.declared.host.Unit.TheVariants as units
use Rattle.outside_io.specs.World.{World, Seen}
use Rattle.outside_io.proofs.EventLemmas.{did_none}
use Rattle.card_code.specs.Entries.{Entry, hopper_of, entries_of_unit, unit_entries}
use Rattle.card_unit.specs.declared.hopper.Hopper.{Hopper}
use Rattle.card_unit.specs.Hopper.{hopper_left, deck_left, own_cards, deck_and_data, IsNewHopper}
use Rattle.cpu_step.specs.declared.machine.Machine.{Machine}
use Rattle.cpu_step.specs.State.{UnitTexts}
use Rattle.cpu_step.specs.Load.{state_at_power_on, load_key}
use Rattle.cpu_step.specs.Outside.{load_events}
use Rattle.cpu_step.specs.Machine.{machine_texts, state_of, over_all, IsPowered}
use Rattle.operator_script.specs.declared.script.Script.{Script}
use Rattle.operator_script.specs.declared.script.ScriptLine.{ScriptLine}
use Rattle.operator_script.specs.Scripts.{lines_left}
use Rattle.operator_script.specs.Turn.{last_within}
use Rattle.operator_script.specs.TurnEvents.{events_within}
use Rattle.command_line.specs.declared.reading.Settings.{Settings}
use Rattle.ibm1620_cli.specs.declared.answer.Answer.{Answer}
use Rattle.ibm1620_cli.specs.Promise.{KeepsPromise}
use Rattle.ibm1620_cli.specs.Turns.{MachineFeed, feed_at, lines_of_feed, state_over, first_over, LoadedMachine, turns_promise}
use Rattle.ibm1620_cli.specs.LoadJob.{Loading, loading_of, loading_at, cards_to_load, powered_to_load, state_after_load_key, keyed_machine, loaded_promise}
use Rattle.ibm1620_cli.specs.Parts.{Executes}
use Rattle.ibm1620_cli.proofs.SetUps.{set_up_after_steps, machine_after_steps}
use Rattle.ibm1620_cli.proofs.DeckPromises.{promise_executes}

fed : (m : ℕ) → (deck cards keys : Option (List ℕ)) (sectors : Option (ℕ → List ℕ)) (written : UnitTexts)
    → over_all (λ es ks pack. state_at_power_on m es ks written pack) (option_and_then (λ d. option_map (hopper_of [] d) cards) deck) (option_map (entries_of_unit units.Keys 0) keys) sectors
    ≡ option_map (λ l. powered_to_load m l written) (option_and_then (λ d. option_map (λ f. record { deck = d; feed = f }) (option_and_then (λ c. option_and_then (λ k. option_map (λ s. record { cards = c; keys = k; sectors = s }) sectors) keys) cards)) deck)
fed m None cards keys sectors written = refl
fed m (Some d) None keys sectors written = refl
fed m (Some d) (Some c) None sectors written = refl
fed m (Some d) (Some c) (Some k) None written = refl
fed m (Some d) (Some c) (Some k) (Some s) written = refl

-- the state of a machine at power on
pub powered_state : (m : ℕ) (hopper : Hopper) (w : World) → ((v : World) → hopper_left hopper v ≡ deck_and_data v) → (machine : Machine m) → IsPowered m hopper machine
    → state_of m machine w ≡ option_map (λ l. powered_to_load m l (machine_texts w)) (loading_at w)
powered_state m hopper w holds machine is =
    (λ i. over_all (λ es ks pack. record { core = is.core i; regs = is.regs i; panel = is.panel i; arms = is.arms i; hopper = es; keys = ks; written = machine_texts w; sectors = pack; mode = is.halted i }) (hopper_left (is.hopper_in i) w) (is.keys_in w i) w.sectors)
    ∙ ap (λ (o : Option (List Entry)). over_all (λ es ks pack. state_at_power_on m es ks (machine_texts w) pack) o (option_map (entries_of_unit units.Keys 0) (w.left units.Keys)) w.sectors) (holds w)
    ∙ fed m (w.left units.Deck) (w.left units.Data) (w.left units.Keys) w.sectors (machine_texts w)

-- the entries of its reader's pile are those of Deck
abbrev pile_of : Loading → List Entry
pile_of l = entries_of_unit units.Deck 0 l.deck

pile_told : (deck : Option (List ℕ)) (feed : Option MachineFeed) → IfSome (loading_of deck feed) (λ l. IfSome (option_map (entries_of_unit units.Deck 0) deck) (λ left. pile_of l ≡ left))
pile_told None feed = tt
pile_told (Some d) None = tt
pile_told (Some d) (Some feed) = refl

-- without a step of the deck the machine stands behind the Load key, which is all that loading does
pub is_keyed : (m : ℕ) (w : World) (lines : List ScriptLine) → (λ (l : Loading). machine_after_steps m 0 w lines (pile_of l) (cards_to_load l) l.feed) ≡ keyed_machine m w lines
unfolding set_up_after_steps state_after_load_key last_within events_within
is_keyed m w lines = λ i l. record {
  powered = state_over w (powered_to_load m l);
  steps = 0;
  pile = pile_of l;
  cards = cards_to_load l;
  keys = lines_of_feed l.feed;
  taken = append-nil (load_events (state_over w (powered_to_load m l))) i;
  first = first_over w (λ written. load_key (powered_to_load m l written)) lines;
}

pub promise_load : (m : ℕ) (settings : Settings) (hopper : Hopper) (script : Script) (start new : Seen) (answer : Answer) → ((w : World) → hopper_left hopper w ≡ deck_and_data w) → ((w : World) → deck_left hopper w ≡ unit_entries units.Deck w) → own_cards hopper ≡ None → IsNewHopper hopper
    → Executes m 0 settings.limit hopper script start new answer → KeepsPromise (loaded_promise m settings (lines_left script) start.world) start new answer
promise_load m settings hopper script start new answer holds deck own begins executes =
    subst (λ (loaded : Loading → LoadedMachine). KeepsPromise (turns_promise None [] settings.limit loaded (loading_at start.world)) start new answer) (is_keyed m start.world (lines_left script))
    (promise_executes m 0 settings.limit None [] pile_of cards_to_load (λ l. l.feed) (loading_at start.world) hopper script start start (powered_state m hopper start.world holds) (omega arith) (did_none start.world) (λ u read. refl) tt own begins
    (subst (λ (o : Option (List Entry)). IfSome (loading_at start.world) (λ l. IfSome o (λ left. pile_of l ≡ left))) (sym (deck start.world)) (pile_told (start.world.left units.Deck) (feed_at start.world)))
    new answer executes)
