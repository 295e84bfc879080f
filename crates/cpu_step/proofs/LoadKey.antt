-- The Load key, over a machine that shows a state.
use Rattle.std.proofs.Common.{◌≡◌, ℕ, [], length, refl, sym, ◌∙◌, ap, subst}
use Rattle.std.specs.Prelude.{is_some, ⊤, Result}
use Rattle.digit_core.specs.Size.{size}
use Rattle.indicators.specs.declared.Panel.{Panel}
use Rattle.indicators.specs.Lamps.{panel_for_load}
use Rattle.branch_ops.specs.Registers.{on_at}
use Rattle.outside_io.specs.World.{Seen}
use Rattle.card_code.specs.Break.{Break}
use Rattle.card_unit.specs.Hopper.{hopper_left, own_cards, hopper_feed, GoesOnReadingCards}
use Rattle.card_unit.specs.Reader.{read_card_numeric}
use Rattle.card_code.specs.Feed.{station, ReadsAll, ReadsNone}
use Rattle.cpu_step.specs.declared.machine.Machine.{Machine}
use Rattle.cpu_step.specs.declared.machine.Mode.TheVariants as mode
use Rattle.cpu_step.specs.State.{State}
use Rattle.cpu_step.specs.Load.{state_for_load, load_trace, mode_after, load_key, load_cut}
use Rattle.cpu_step.specs.Machine.{state_with, Shows, Makes, StopsShort}
use Rattle.typewriter.specs.Keys.{keys_left}
use Rattle.cpu_step.proofs.ShownStates.{whatever, some_state, some_shown}
use Rattle.cpu_step.proofs.CardRows.{read_state, looked, told_same, tells_next, shows_looked, shows_none}

module _ (m : ℕ) (old new : Machine m) (before later : Seen) (panel : Panel) (panel_is : panel ≡ panel_for_load old.panel) (regs : new.regs ≡ on_at old.regs 0) (arms : new.arms ≡ old.arms) (keys : new.keys ≡ old.keys) (own : own_cards new.hopper ≡ own_cards old.hopper) (cards : GoesOnReadingCards old.hopper new.hopper before later) where
  -- the card was taken, or there was none
  pub load_made : (r : Result ⊤ Break) → new.mode ≡ mode_after r → length old.core ≡ size m
      → ReadsAll hopper_feed (read_card_numeric (size m) 0) (station old.core panel old.hopper before) (station new.core new.panel new.hopper later) r → Makes m load_key old new before later
  unfolding load_key
  load_made r mode_is long all =
      let lines = whatever (keys_left old.keys before.world) [] in
      let pack = whatever before.world.sectors (λ a. []) in
      let s : State = state_with m old before.world all.given lines.given pack.given in
      let leaves = rw panel_is at all.leaves in
      let there : Shows m new later.world (record (state_for_load s) { core = new.core; panel = new.panel; hopper = all.rest; mode = mode_after r }) =
      shows_looked m old new before later (on_at old.regs 0) (mode_after r) regs mode_is arms keys all.looks new.core new.panel all.rest lines.given pack.given refl refl (tells_next (hopper_left old.hopper before.world) (hopper_left new.hopper later.world) all.rest all.left) lines.told pack.told in
      let end = read_state m new before later (λ n. read_card_numeric n 0) (state_for_load s) (size m) long all.rest leaves in
      let answer : (load_trace (state_for_load s)).answer ≡ r = ap (λ (n : ℕ). (read_card_numeric n 0 all.given).answer) long ∙ all.answers in
      record {
        state = s;
        shown = record { is = refl; hopper = all.told; keys = lines.told; sectors = pack.told };
        made = subst (λ (x : State). Shows m new later.world x) (sym (λ i. record (end i) { mode = mode_after (answer i) })) there;
        frames = looked m old new before later keys all.looks (told_same (hopper_left old.hopper before.world) (hopper_left new.hopper later.world) all.rest all.left) own cards;
      }

  -- the host failed
  pub load_fails : new.mode ≡ mode.Faulted → ReadsNone hopper_feed (station old.core panel old.hopper before) (station new.core new.panel new.hopper later) → StopsShort m load_cut old new before later
  unfolding load_cut
  load_fails mode_is none = record {
    done = 0;
    makes = record {
      state = some_state m old before.world;
      shown = some_shown m old before.world;
      made = shows_none m old new before later (on_at old.regs 0) mode.Faulted regs mode_is arms keys panel (panel_for_load old.panel) panel_is none;
      frames = looked m old new before later keys none.fails.stays.looks (ap is_some none.fails.stays.left) own cards;
    };
    rose = none.fails.rose;
  }
