-- Rows of the disk, over a machine that shows a state.
use Rattle.std.proofs.Common.{◌≡◌, ℕ, ◌+◌, true, List, [], ◌∷◌, map, take, refl, sym, ◌∙◌, ap, subst}
use Rattle.std.proofs.lemmas.List.{take-map}
use Rattle.std.specs.Prelude.{◌-◌, slice_set, Option, Some, None, option_map, is_some, ⊤, Result, Ok, Err}
use Rattle.digit_core.specs.Cell.{store}
use Rattle.indicators.specs.Panel.{set}
use Rattle.addr_indirect.specs.declared.Stop.{Stop}
use Rattle.branch_ops.specs.declared.Regs.{Regs}
use Rattle.branch_ops.specs.Registers.{on_at}
use Rattle.outside_io.specs.declared.host.Unit.TheVariants as units
use Rattle.outside_io.specs.World.{World, Seen, with_sector}
use Rattle.outside_io.specs.Frame.{Tells, Keeps}
use Rattle.outside_io.proofs.Frames.{keeps_sectors}
use Rattle.traces.specs.Trace.{Trace}
use Rattle.traces.specs.Change.{StoresCell, Lights}
use Rattle.card_code.specs.Break.{Break}
use Rattle.card_code.specs.Entries.{Entry}
use Rattle.card_unit.specs.Hopper.{hopper_left, own_cards}
use Rattle.card_unit.proofs.ReadSame.{reads_kept}
use Rattle.typewriter.specs.Keys.{keys_left}
use Rattle.typewriter.proofs.ReadSame.{reads_kept as keys_kept}
use Rattle.disk_1311.specs.declared.DiskIo.{DiskIo}
use Rattle.disk_1311.specs.declared.DiskIo.TheVariants as io
use Rattle.disk_1311.specs.declared.DiskKind.{DiskKind}
use Rattle.disk_1311.specs.Sector.{DiskEffect, Alters, SetsArm, Records, core_left}
use Rattle.disk_1311.specs.Disk.{seek, transfer}
use Rattle.disk_1311.specs.DiskCalls.{disk_moment, panel_left, arms_left, sectors_left, world_left, MadeSeek, Seeks, Done, Transferred, TransferredFirst, Transfers}
use Rattle.disk_1311.proofs.Arms.{seek-core, seek-sectors, transfer-arms, transfer-arms_all}
use Rattle.cpu_step.specs.declared.machine.Machine.{Machine}
use Rattle.cpu_step.specs.State.{State}
use Rattle.cpu_step.specs.Effects.{Effect, of_disk, after}
use Rattle.cpu_step.specs.Act.{Next, disk_action}
use Rattle.cpu_step.specs.Machine.{state_with, Shows, Frames, DidAction, DidFirst, Acts, disk_outcome, is_read, is_written, machine_texts}
use Rattle.cpu_step.proofs.ShownStates.{whatever, some_state, some_shown, frames_same}
use Rattle.cpu_step.proofs.Parts.{went_on}
use Rattle.cpu_step.proofs.Readers.{hopper_same}

-- a state after the disk's events
abbrev done_to : State → List DiskEffect → State
done_to s es = record s { core = core_left s.core es; panel = panel_left s.panel es; arms = arms_left s.arms es; sectors = sectors_left s.sectors es }

after_disk : (es : List DiskEffect) (s : State) → after s (map of_disk es) ≡ done_to s es
after_disk [] s = refl
after_disk (Alters (StoresCell x) ∷ es) s = after_disk es (record s { core = store s.core x.at x.digit })
after_disk (Alters (Lights l) ∷ es) s = after_disk es (record s { panel = set l.code l.to s.panel })
after_disk (SetsArm d c ∷ es) s = after_disk es (record s { arms = slice_set s.arms (d - 1) c })
after_disk (Records a bytes ∷ es) s = after_disk es (record s { sectors = with_sector a bytes s.sectors })

tells_map : {A : Type 0} (o : Option A) (x : A) (f : A → A) → Tells o x → Tells (option_map f o) (f x)
tells_map None x f told = tt
tells_map (Some y) x f told = ap f told

some_map : {A : Type 0} (o : Option A) (f : A → A) → is_some (option_map f o) ≡ is_some o
some_map None f = refl
some_map (Some y) f = refl

-- The rest of the machine stays.
module _ (m : ℕ) (old new : Machine m) (before : Seen) (regs : new.regs ≡ old.regs) (mode : new.mode ≡ old.mode) (hopper : new.hopper ≡ old.hopper) (keys : new.keys ≡ old.keys) where
  abbrev behind_it : Regs
  behind_it = on_at old.regs (old.regs.ir + 12)

  -- a seek
  module _ (p : ℕ) (core : new.core ≡ old.core) where
    sought_did : (r : Result ⊤ Stop) → MadeSeek (seek old.core p old.arms) old.panel old.arms new.panel new.arms r → DidAction m (λ s. disk_action s (seek s.core p s.arms)) old new before before (went_on behind_it r)
    sought_did r sought =
        let s : State = some_state m old before.world in
        let shown = some_shown m old before.world in
        let es : List DiskEffect = (seek old.core p old.arms).effects in
        let there : Shows m new before.world (record s { panel = new.panel; arms = new.arms }) = record {
          is = λ i. record { core = sym core i; regs = sym regs i; panel = new.panel; arms = new.arms; hopper = s.hopper; keys = s.keys; written = s.written; sectors = s.sectors; mode = sym mode i };
          hopper = subst (λ h. Tells (hopper_left h before.world) s.hopper) (sym hopper) shown.hopper;
          keys = subst (λ k. Tells (keys_left k before.world) s.keys) (sym keys) shown.keys;
          sectors = shown.sectors;
        } in
        let end : after s (map of_disk es) ≡ record s { panel = new.panel; arms = new.arms } =
        after_disk es s ∙ (λ i. record s { core = seek-core old.core p old.arms old.core i; panel = sym sought.panel_is i; arms = sym sought.arms_are i; sectors = seek-sectors old.core p old.arms s.sectors i }) in
        record {
          state = s;
          shown = shown;
          answers = ap (went_on behind_it) sought.answers;
          made = subst (λ (x : State). Shows m new before.world x) (sym end) there;
          frames = frames_same m old new before hopper keys;
        }

    pub seek_acts : (next : Regs) (answer : DiskIo) → next ≡ behind_it → Seeks (seek old.core p old.arms) old.panel old.arms new.panel new.arms answer → Acts m (λ s. disk_action s (seek s.core p s.arms)) old new before before (disk_outcome next answer)
    seek_acts next io.Done is seeks = rw is (sought_did (Ok tt) seeks)
    seek_acts next (io.Stop why) is seeks = sought_did (Err why) seeks
    seek_acts next io.Failed is seeks = absurd seeks

  -- a transfer
  module _ (later : Seen) (kind : DiskKind) (p : ℕ) (arms : new.arms ≡ old.arms) where
    abbrev Moved : State → Trace Effect Next Break
    Moved s = disk_action s (transfer kind s.core p s.arms s.sectors)

    -- the state before, over these sectors
    abbrev from : (ℕ → List ℕ) → State
    from given = state_with m old before.world (whatever (hopper_left old.hopper before.world) []).given (whatever (keys_left old.keys before.world) []).given given

    told_hopper : (es : List DiskEffect) → later.world ≡ world_left before.world es → hopper_left new.hopper later.world ≡ hopper_left old.hopper before.world
    told_hopper es world = (λ i. hopper_left (hopper i) (world i)) ∙ hopper_same old.hopper (world_left before.world es) before.world refl refl

    told_keys : (es : List DiskEffect) → later.world ≡ world_left before.world es → keys_left new.keys later.world ≡ keys_left old.keys before.world
    told_keys es world = λ i. keys_left (keys i) (world i)

    from_shown : (given : ℕ → List ℕ) → Tells before.world.sectors given → Shows m old before.world (from given)
    from_shown given told = record { is = refl; hopper = (whatever (hopper_left old.hopper before.world) []).told; keys = (whatever (keys_left old.keys before.world) []).told; sectors = told }

    frames : (es : List DiskEffect) → Done es old.core old.panel before new.core new.panel later → Frames m old new before later
    frames es all = record {
      later = all.goes.later;
      keeps = subst (λ (w : World). Keeps is_read is_written true before.world w) (sym all.goes.world) (keeps_sectors is_read is_written true (world_left before.world es).sectors before.world refl);
      told = ap is_some (told_hopper es all.goes.world);
      told_keys = ap is_some (told_keys es all.goes.world);
      told_sectors = ap (λ (w : World). is_some w.sectors) all.goes.world ∙ some_map before.world.sectors (λ sectors. sectors_left sectors es);
      own = ap own_cards hopper;
      cards = reads_kept old.hopper new.hopper before later hopper (ap (λ (w : World). w.left units.Deck) all.goes.world) (ap (λ (w : World). w.left units.Data) all.goes.world) (ap (λ (w : World). w.asked units.Deck) all.goes.world) (ap (λ (w : World). w.asked units.Data) all.goes.world);
      lines = keys_kept old.keys new.keys before later keys (ap (λ (w : World). w.left units.Keys) all.goes.world) (ap (λ (w : World). w.asked units.Keys) all.goes.world);
    }

    there : (given : ℕ → List ℕ) → Tells before.world.sectors given → (es : List DiskEffect) → arms_left old.arms es ≡ old.arms → Done es old.core old.panel before new.core new.panel later → Shows m new later.world (after (from given) (map of_disk es))
    there given told es still all =
        let s : State = from given in
        let end : State = record s { core = new.core; panel = new.panel; sectors = sectors_left given es } in
        let shows : Shows m new later.world end = record {
          is = λ i. record { core = new.core; regs = sym regs i; panel = new.panel; arms = sym arms i; hopper = s.hopper; keys = s.keys; written = machine_texts (sym all.goes.world i); sectors = sectors_left given es; mode = sym mode i };
          hopper = subst (λ (o : Option (List Entry)). Tells o s.hopper) (sym (told_hopper es all.goes.world)) (whatever (hopper_left old.hopper before.world) []).told;
          keys = subst (λ (o : Option (List Entry)). Tells o s.keys) (sym (told_keys es all.goes.world)) (whatever (keys_left old.keys before.world) []).told;
          sectors = subst (λ (w : World). Tells w.sectors (sectors_left given es)) (sym all.goes.world) (tells_map before.world.sectors given (λ sectors. sectors_left sectors es) told);
        } in
        subst (λ (x : State). Shows m new later.world x) (sym (after_disk es s ∙ (λ i. record s { core = sym all.core_is i; panel = sym all.panel_is i; arms = still i; sectors = sectors_left given es }))) shows

    moved_did : (r : Result ⊤ Stop) → Transferred (transfer kind old.core p old.arms) (disk_moment old.core old.panel before) (disk_moment new.core new.panel later) r → DidAction m Moved old new before later (went_on behind_it r)
    moved_did r moved = record {
      state = from moved.given;
      shown = from_shown moved.given moved.told;
      answers = ap (went_on behind_it) moved.answers;
      made = there moved.given moved.told (transfer kind old.core p old.arms moved.given).effects (transfer-arms_all kind old.core p old.arms moved.given old.arms) moved.all;
      frames = frames (transfer kind old.core p old.arms moved.given).effects moved.all;
    }

    moved_first : TransferredFirst (transfer kind old.core p old.arms) (disk_moment old.core old.panel before) (disk_moment new.core new.panel later) → DidFirst m Moved old new before later
    moved_first moved =
        let es : List DiskEffect = (transfer kind old.core p old.arms moved.given).effects in
        record {
          done = moved.done;
          makes = record {
            state = from moved.given;
            shown = from_shown moved.given moved.told;
            made = subst (λ (fs : List Effect). Shows m new later.world (after (from moved.given) fs)) (sym (take-map of_disk moved.done es)) (there moved.given moved.told (take moved.done es) (transfer-arms kind old.core p old.arms moved.given moved.done old.arms) moved.part);
            frames = frames (take moved.done es) moved.part;
          };
          rose = moved.rose;
        }

    pub transfer_acts : (next : Regs) (answer : DiskIo) → next ≡ behind_it → Transfers (transfer kind old.core p old.arms) (disk_moment old.core old.panel before) (disk_moment new.core new.panel later) answer → Acts m Moved old new before later (disk_outcome next answer)
    transfer_acts next io.Done is moved = rw is (moved_did (Ok tt) moved)
    transfer_acts next (io.Stop why) is moved = moved_did (Err why) moved
    transfer_acts next io.Failed is moved = moved_first moved
