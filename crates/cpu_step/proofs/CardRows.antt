-- Rows of the card unit, and the Load key, over a machine that shows a state.
use Rattle.std.proofs.Common.{◌≡◌, ℕ, ◌+◌, ◌||◌, Bool, true, false, List, [], ◌∷◌, length, map, refl, sym, ◌∙◌, ap, subst}
use Rattle.std.specs.Prelude.{Option, Some, None, option_map, is_some, ⊤, Result, Ok, Err}
use Rattle.digit_core.specs.Cell.{store}
use Rattle.digit_core.specs.Size.{size}
use Rattle.indicators.specs.declared.Panel.{Panel}
use Rattle.indicators.specs.Panel.{set}
use Rattle.branch_ops.specs.declared.Regs.{Regs}
use Rattle.branch_ops.specs.Registers.{on_at}
use Rattle.outside_io.specs.declared.host.Unit.TheVariants as units
use Rattle.outside_io.specs.World.{Seen, same_unit}
use Rattle.outside_io.specs.Frame.{Tells}
use Rattle.traces.specs.Trace.{Trace, map_answer}
use Rattle.traces.specs.Change.{StoresCell, Lights}
use Rattle.card_code.specs.Break.{Break, StopsBy, Empty, JamsAt}
use Rattle.card_code.specs.Entries.{Entry, behind}
use Rattle.card_code.specs.TextIn.{Intake, TakesText, Changes, Desk, desk_after}
use Rattle.card_unit.specs.Hopper.{hopper_left, own_cards, hopper_feed, LooksAtHopper, GoesOnReadingCards}
use Rattle.card_unit.specs.Pile.{is_card_unit}
use Rattle.card_code.specs.declared.lines.Lines.{Lines}
use Rattle.card_code.specs.Reader.{unit_of}
use Rattle.typewriter.specs.Keys.{keys_left}
use Rattle.typewriter.proofs.Keyboards.{keys_same}
use Rattle.typewriter.proofs.ReadSame.{reads_kept as keys_kept}
use Rattle.card_unit.specs.declared.reader.CardIo.{CardIo}
use Rattle.card_unit.specs.declared.reader.CardIo.TheVariants as io
use Rattle.card_unit.specs.CardCalls.{ReadsCardBy}
use Rattle.card_code.specs.Feed.{station, ReadsAll, ReadsNone}
use Rattle.cpu_step.specs.declared.machine.Machine.{Machine}
use Rattle.cpu_step.specs.declared.machine.Mode.{Mode}
use Rattle.cpu_step.specs.State.{State}
use Rattle.cpu_step.specs.Effects.{of_cards, after}
use Rattle.cpu_step.specs.Act.{Continues, card_action}
use Rattle.cpu_step.specs.Machine.{state_with, Shows, Frames, DidAction, DidFirst, Acts, card_outcome}
use Rattle.cpu_step.proofs.Texts.{texts_same}
use Rattle.cpu_step.proofs.ShownStates.{whatever, some_state, some_shown}

-- a state over a desk
abbrev on_desk : State → Desk → State
on_desk s d = record s { core = d.core; panel = d.panel; hopper = d.left }

abbrev desk_of : State → Desk
desk_of s = record { core = s.core; panel = s.panel; left = s.hopper }

after_cards : (es : List Intake) (s : State) → after s (map of_cards es) ≡ on_desk s (desk_after (desk_of s) es)
after_cards [] s = refl
after_cards (TakesText ∷ es) s = after_cards es (record s { hopper = behind s.hopper })
after_cards (Changes (StoresCell x) ∷ es) s = after_cards es (record s { core = store s.core x.at x.digit })
after_cards (Changes (Lights l) ∷ es) s = after_cards es (record s { panel = set l.code l.to s.panel })

pub told_same : {A B : Type 0} (o : Option A) (p : Option B) (x : B) → p ≡ option_map (λ y. x) o → is_some p ≡ is_some o
told_same None p x same = ap is_some same
told_same (Some y) p x same = ap is_some same

pub tells_next : {A : Type 0} (o p : Option A) (x : A) → p ≡ option_map (λ y. x) o → Tells p x
tells_next None p x same = subst (λ q. Tells q x) (sym same) tt
tells_next (Some y) p x same = subst (λ q. Tells q x) (sym same) refl

neither : (a b : Bool) → (a || b) ≡ false → a ≡ false
neither false b none = refl
neither true b none = cc

-- a look at the hopper's units leaves the keyboard's lines
pub keys_looked : (k : Lines) (before later : Seen) → unit_of k ≡ units.Keys → LooksAtHopper before later → keys_left k later.world ≡ keys_left k before.world
keys_looked k before later of_keys looks = keys_same k before.world later.world of_keys (looks.keeps.left units.Keys refl)

-- the keyboard shows what it showed
pub keys_told : (old new : Lines) (before later : Seen) → unit_of old ≡ units.Keys → new ≡ old → LooksAtHopper before later → (ks : List Entry) → Tells (keys_left old before.world) ks → Tells (keys_left new later.world) ks
keys_told old new before later of_keys same looks ks told =
    subst (λ (o : Option (List Entry)). Tells o ks) (sym (ap (λ k. keys_left k later.world) same ∙ keys_looked old before later of_keys looks)) told

-- a look at the hopper's units is within the machine's frame
pub looked : (m : ℕ) (old new : Machine m) (before later : Seen) → new.keys ≡ old.keys → LooksAtHopper before later → is_some (hopper_left new.hopper later.world) ≡ is_some (hopper_left old.hopper before.world) → own_cards new.hopper ≡ own_cards old.hopper → GoesOnReadingCards old.hopper new.hopper before later → Frames m old new before later
looked m old new before later keys looks told own cards = record {
  later = looks.later;
  keeps = record {
    file = looks.keeps.file;
    in_use = looks.keeps.in_use;
    names = looks.keeps.names;
    sectors = λ h. looks.keeps.sectors refl;
    left = λ u other. looks.keeps.left u (neither (is_card_unit u) (same_unit units.Keys u) other);
    written = λ u other. looks.keeps.written u refl;
    asked = λ u other. looks.keeps.asked u (neither (is_card_unit u) (same_unit units.Keys u) other);
    room = looks.keeps.room;
  };
  told = told;
  told_keys = ap (λ k. is_some (keys_left k later.world)) keys ∙ ap is_some (keys_looked old.keys before later old.keys_are looks);
  told_sectors = ap is_some (looks.keeps.sectors refl);
  own = own;
  cards = cards;
  lines = keys_kept old.keys new.keys before later keys (looks.keeps.left units.Keys refl) (looks.keeps.asked units.Keys refl);
}

-- What a machine shows behind a look at the hopper's units, with these registers and in this mode.
module _ (m : ℕ) (old new : Machine m) (before later : Seen) (regs_then : Regs) (mode_then : Mode) (regs : new.regs ≡ regs_then) (mode : new.mode ≡ mode_then) (arms : new.arms ≡ old.arms) (keys : new.keys ≡ old.keys) where
  pub shows_looked : LooksAtHopper before later → (core_then : List ℕ) (panel_then : Panel) (es ks : List Entry) (pack : ℕ → List ℕ) → new.core ≡ core_then → new.panel ≡ panel_then
      → Tells (hopper_left new.hopper later.world) es → Tells (keys_left old.keys before.world) ks → Tells before.world.sectors pack
      → Shows m new later.world (record (state_with m old before.world es ks pack) { core = core_then; regs = regs_then; panel = panel_then; mode = mode_then })
  shows_looked looks core_then panel_then es ks pack core panel hopper lines sectors =
      let texts = texts_same before.world later.world (λ u. looks.keeps.written u refl) in
      record {
        is = λ i. record { core = sym core i; regs = sym regs i; panel = sym panel i; arms = sym arms i; hopper = es; keys = ks; written = sym texts i; sectors = pack; mode = sym mode i };
        sectors = subst (λ (o : Option (ℕ → List ℕ)). Tells o pack) (sym (looks.keeps.sectors refl)) sectors;
        hopper = hopper;
        keys = keys_told old.keys new.keys before later old.keys_are keys looks ks lines;
      }

  -- where the host failed before a card was taken
  pub shows_none : (panel panel_then : Panel) → panel ≡ panel_then → ReadsNone hopper_feed (station old.core panel old.hopper before) (station new.core new.panel new.hopper later)
      → Shows m new later.world (record (some_state m old before.world) { regs = regs_then; panel = panel_then; mode = mode_then })
  shows_none panel panel_then panel_is none =
      let shown = some_shown m old before.world in
      let s = some_state m old before.world in
      shows_looked none.fails.stays.looks old.core panel_then s.hopper s.keys s.sectors none.core_same (none.panel_same ∙ panel_is)
      (subst (λ (o : Option (List Entry)). Tells o s.hopper) (sym none.fails.stays.left) shown.hopper) shown.keys shown.sectors

-- a reading from core and panel of any state, to those of the new machine
pub read_state : (m : ℕ) (new : Machine m) (before later : Seen) (t : ℕ → List Entry → Trace Intake ⊤ Break) (s : State) (n : ℕ) → length s.core ≡ n → (rest : List Entry)
    → record { core = new.core; panel = new.panel; left = rest } ≡ desk_after (desk_of s) (t n s.hopper).effects
    → after s (map of_cards (t (length s.core) s.hopper).effects) ≡ record s { core = new.core; panel = new.panel; hopper = rest }
read_state m new before later t s n long rest leaves =
    after_cards (t (length s.core) s.hopper).effects s
    ∙ ap (λ (k : ℕ). on_desk s (desk_after (desk_of s) (t k s.hopper).effects)) long
    ∙ ap (λ (d : Desk). on_desk s d) (sym leaves)

module _ (m : ℕ) (old new : Machine m) (before later : Seen) (t : ℕ → List Entry → Trace Intake ⊤ Break) (regs : new.regs ≡ old.regs) (mode : new.mode ≡ old.mode) (arms : new.arms ≡ old.arms) (keys : new.keys ≡ old.keys) (own : own_cards new.hopper ≡ own_cards old.hopper) (cards : GoesOnReadingCards old.hopper new.hopper before later) where
  -- a card is read, where the host didn't fail
  pub card_did : (next : Regs) (r : Result ⊤ Break) → next ≡ on_at old.regs (old.regs.ir + 12) → length old.core ≡ size m
      → ReadsAll hopper_feed (t (size m)) (station old.core old.panel old.hopper before) (station new.core new.panel new.hopper later) r → DidAction m (λ s. card_action s t) old new before later (map_answer (λ x. Continues next) r)
  card_did next r next_is long all =
      let lines = whatever (keys_left old.keys before.world) [] in
      let pack = whatever before.world.sectors (λ a. []) in
      let s : State = state_with m old before.world all.given lines.given pack.given in
      let there : Shows m new later.world (record s { core = new.core; panel = new.panel; hopper = all.rest }) =
      shows_looked m old new before later old.regs old.mode regs mode arms keys all.looks new.core new.panel all.rest lines.given pack.given refl refl (tells_next (hopper_left old.hopper before.world) (hopper_left new.hopper later.world) all.rest all.left) lines.told pack.told in
      record {
        state = s;
        shown = record { is = refl; hopper = all.told; keys = lines.told; sectors = pack.told };
        answers = ap (λ (n : ℕ). map_answer (λ x. Continues (on_at old.regs (old.regs.ir + 12))) (t n all.given).answer) long ∙ (λ i. map_answer (λ x. Continues (sym next_is i)) (all.answers i));
        made = subst (λ (x : State). Shows m new later.world x) (sym (read_state m new before later t s (size m) long all.rest all.leaves)) there;
        frames = looked m old new before later keys all.looks (told_same (hopper_left old.hopper before.world) (hopper_left new.hopper later.world) all.rest all.left) own cards;
      }

  -- a card is read, where it did
  pub card_first : ReadsNone hopper_feed (station old.core old.panel old.hopper before) (station new.core new.panel new.hopper later) → DidFirst m (λ s. card_action s t) old new before later
  card_first none = record {
    done = 0;
    makes = record {
      state = some_state m old before.world;
      shown = some_shown m old before.world;
      made = shows_none m old new before later old.regs old.mode regs mode arms keys old.panel old.panel refl none;
      frames = looked m old new before later keys none.fails.stays.looks (ap is_some none.fails.stays.left) own cards;
    };
    rose = none.fails.rose;
  }

  -- an instruction that reads a card
  pub card_acts : (next : Regs) (answer : CardIo) → next ≡ on_at old.regs (old.regs.ir + 12) → length old.core ≡ size m
      → ReadsCardBy (t (size m)) (station old.core old.panel old.hopper before) (station new.core new.panel new.hopper later) answer → Acts m (λ s. card_action s t) old new before later (card_outcome next answer)
  card_acts next io.Done next_is long reads = card_did next (Ok tt) next_is long reads
  card_acts next (io.Stop why) next_is long reads = card_did next (Err (StopsBy why)) next_is long reads
  card_acts next io.Empty next_is long reads = card_did next (Err Empty) next_is long reads
  card_acts next (io.Jam u n) next_is long reads = card_did next (Err (JamsAt u n)) next_is long reads
  card_acts next io.Failed next_is long reads = card_first reads
