-- What a machine's calls do, where the host tells the cards.
use Rattle.std.proofs.Common.{◌≡◌, ◌≢◌, ℕ, true, false, ◌&&◌, List, refl, sym, ◌∙◌, ap, arith}
use Rattle.std.proofs.lemmas.Bool.{true≢false}
use Rattle.std.specs.Prelude.{Bool, Option, Some, None, option_map, is_some}
use Rattle.outside_io.specs.declared.host.Unit as unit
use Rattle.outside_io.specs.World.{World, Seen}
use Rattle.outside_io.specs.Frame.{Tells}
use Rattle.outside_io.proofs.Frames.{keeps_on}
use Rattle.card_code.specs.Entries.{Entry}
use Rattle.card_unit.specs.Hopper.{hopper_left}
use Rattle.typewriter.specs.Keys.{keys_left}
use Rattle.cpu_step.specs.declared.machine.Machine.{Machine}
use Rattle.cpu_step.specs.declared.machine.Mode.{Mode}
use Rattle.cpu_step.specs.declared.machine.Mode.TheVariants as mode
use Rattle.cpu_step.specs.declared.machine.Turned.{Turned}
use Rattle.cpu_step.specs.declared.machine.Turned.TheVariants as turned
use Rattle.cpu_step.specs.State.{State}
use Rattle.cpu_step.specs.Step.{step}
use Rattle.cpu_step.specs.Load.{load_key}
use Rattle.cpu_step.specs.Machine.{state_with, over_both, over_all, state_of, Shows, Frames, FramesBut, Makes, ChangesState, Steps, LoadsKey, turned_to, is_faulted, is_read}

follows : {S : Type 0} (o p : Option S) (s : S) (f : S → S) → Tells o s → Tells p (f s) → is_some p ≡ is_some o → p ≡ option_map f o
follows None None s f to tp same = refl
follows None (Some x) s f to tp same = absurd (true≢false same)
follows (Some y) None s f to tp same = absurd (true≢false (sym same))
follows (Some y) (Some x) s f to tp same = ap Some (tp ∙ ap f (sym to))

-- what is told of two, where each is told
both_told : {A B C : Type 0} (f : A → B → C) (a : Option A) (b : Option B) (x : A) (y : B) (s : C) → s ≡ f x y → Tells a x → Tells b y → Tells (over_both f a b) s
both_told f None b x y s is first second = tt
both_told f (Some z) None x y s is first second = tt
both_told f (Some z) (Some v) x y s is first second = (λ i. f (first i) (second i)) ∙ sym is

-- what is told of three, where each is told
all_told : {A B C D : Type 0} (f : A → B → C → D) (a : Option A) (b : Option B) (c : Option C) (x : A) (y : B) (z : C) (s : D) → s ≡ f x y z → Tells a x → Tells b y → Tells c z → Tells (over_all f a b c) s
all_told f None b c x y z s is first second third = tt
all_told f (Some v) b c x y z s is first second third = both_told (f v) b c y z s (is ∙ ap (λ w. f w y z) (sym first)) second third

both_some : {A B C : Type 0} (f : A → B → C) (a : Option A) (b : Option B) → is_some (over_both f a b) ≡ (is_some a && is_some b)
both_some f None b = refl
both_some f (Some z) None = refl
both_some f (Some z) (Some v) = refl

all_some : {A B C D : Type 0} (f : A → B → C → D) (a : Option A) (b : Option B) (c : Option C) → is_some (over_all f a b c) ≡ (is_some a && (is_some b && is_some c))
all_some f None b c = refl
all_some f (Some z) b c = both_some (f z) b c

-- what is told of a state that the machine shows
pub state_told : (m : ℕ) (machine : Machine m) (w : World) (s : State) → Shows m machine w s → Tells (state_of m machine w) s
state_told m machine w s shown = all_told (state_with m machine w) (hopper_left machine.hopper w) (keys_left machine.keys w) w.sectors s.hopper s.keys s.sectors s shown.is shown.hopper shown.keys shown.sectors

-- a state is told before a call where it's told behind it
pub states_told : (m : ℕ) (old new : Machine m) (before later : Seen) → Frames m old new before later → is_some (state_of m new later.world) ≡ is_some (state_of m old before.world)
states_told m old new before later frames =
    all_some (state_with m new later.world) (hopper_left new.hopper later.world) (keys_left new.keys later.world) later.world.sectors
    ∙ (λ i. frames.told i && (frames.told_keys i && frames.told_sectors i))
    ∙ sym (all_some (state_with m old before.world) (hopper_left old.hopper before.world) (keys_left old.keys before.world) before.world.sectors)

-- one equation of what is told
pub exact : (m : ℕ) (f : State → State) (old new : Machine m) (before later : Seen) → Makes m f old new before later → state_of m new later.world ≡ option_map f (state_of m old before.world)
exact m f old new before later makes =
    follows (state_of m old before.world) (state_of m new later.world) makes.state f (state_told m old before.world makes.state makes.shown) (state_told m new later.world (f makes.state) makes.made)
    (states_told m old new before later makes.frames)

-- a told state is the machine's
is_with : (f : List Entry → List Entry → (ℕ → List ℕ) → State) (same : (es ks : List Entry) (pack : ℕ → List ℕ) → f es ks pack ≡ f (f es ks pack).hopper (f es ks pack).keys (f es ks pack).sectors)
    (o p : Option (List Entry)) (q : Option (ℕ → List ℕ)) (s : State) → over_all f o p q ≡ Some s → s ≡ f s.hopper s.keys s.sectors
is_with f same None p q s is = cc
is_with f same (Some es) None q s is = cc
is_with f same (Some es) (Some ks) None s is = cc
is_with f same (Some es) (Some ks) (Some pack) s is = let e : f es ks pack ≡ s = cc in sym e ∙ same es ks pack ∙ ap (λ (t : State). f t.hopper t.keys t.sectors) e

pub state_is : (m : ℕ) (machine : Machine m) (w : World) (s : State) → state_of m machine w ≡ Some s → s ≡ state_with m machine w s.hopper s.keys s.sectors
state_is m machine w s is = is_with (state_with m machine w) (λ es ks pack. refl) (hopper_left machine.hopper w) (keys_left machine.keys w) w.sectors s is

pack_with : (f : List Entry → List Entry → (ℕ → List ℕ) → State) (same : (es ks : List Entry) (pack : ℕ → List ℕ) → (f es ks pack).sectors ≡ pack)
    (o p : Option (List Entry)) (q : Option (ℕ → List ℕ)) (s : State) → over_all f o p q ≡ Some s → q ≡ Some s.sectors
pack_with f same None p q s is = cc
pack_with f same (Some es) None q s is = cc
pack_with f same (Some es) (Some ks) None s is = cc
pack_with f same (Some es) (Some ks) (Some pack) s is = let e : f es ks pack ≡ s = cc in ap Some (sym (same es ks pack) ∙ ap (λ (t : State). t.sectors) e)

-- and its sectors are the told ones
pub state_pack : (m : ℕ) (machine : Machine m) (w : World) (s : State) → state_of m machine w ≡ Some s → w.sectors ≡ Some s.sectors
state_pack m machine w s is = pack_with (state_with m machine w) (λ es ks pack. refl) (hopper_left machine.hopper w) (keys_left machine.keys w) w.sectors s is

-- what stays over one call and then another
pub frames_both : {may_write : unit.Unit → Bool} (m : ℕ) (old mid new : Machine m) (before between later : Seen) → FramesBut may_write m old mid before between → FramesBut may_write m mid new between later → FramesBut may_write m old new before later
frames_both {may_write} m old mid new before between later first second = record {
  later = omega (arith, first.later, second.later);
  keeps = keeps_on is_read may_write true before.world between.world later.world first.keeps second.keeps;
  told = second.told ∙ first.told;
  told_keys = second.told_keys ∙ first.told_keys;
  told_sectors = second.told_sectors ∙ first.told_sectors;
  own = second.own ∙ first.own;
  cards = λ start read. second.cards start (first.cards start read);
  lines = λ start read. second.lines start (first.lines start read);
}

sound_by : (m : Mode) → turned_to m ≢ turned.Failed → is_faulted m ≡ false
sound_by mode.Running other = refl
sound_by (mode.Halted at) other = refl
sound_by (mode.Stopped kind at) other = refl
sound_by mode.Empty other = refl
sound_by mode.NoKeys other = refl
sound_by (mode.Jam u n) other = refl
sound_by mode.Faulted other = absurd (other refl)

-- a call that didn't fail did its work, and left a mode of the machine's own
pub record Sound (m : ℕ) (f : State → State) (old new : Machine m) (before later : Seen) : Type 0 where
  pub makes : Makes m f old new before later
  pub sound : is_faulted new.mode ≡ false

turned_sound : (m : ℕ) (f : State → State) (old new : Machine m) (before later : Seen) (answer : Turned) → (answer ≡ turned.Failed → ⊥) → ChangesState m f old new before later answer → Sound m f old new before later
turned_sound m f old new before later answer other turns = record { makes = turns.makes; sound = sound_by new.mode (λ is. other (turns.answers ∙ is)) }

pub step_sound : (m : ℕ) (old new : Machine m) (before later : Seen) (answer : Turned) → (answer ≡ turned.Failed → ⊥) → Steps m old new before later answer → Sound m step old new before later
step_sound m old new before later turned.On other turns = turned_sound m step old new before later turned.On other turns
step_sound m old new before later turned.Halt other turns = turned_sound m step old new before later turned.Halt other turns
step_sound m old new before later (turned.Stop why) other turns = turned_sound m step old new before later (turned.Stop why) other turns
step_sound m old new before later turned.Empty other turns = turned_sound m step old new before later turned.Empty other turns
step_sound m old new before later turned.NoKeys other turns = turned_sound m step old new before later turned.NoKeys other turns
step_sound m old new before later (turned.Jam u n) other turns = turned_sound m step old new before later (turned.Jam u n) other turns
step_sound m old new before later turned.Failed other turns = absurd (other refl)

pub load_sound : (m : ℕ) (old new : Machine m) (before later : Seen) (answer : Turned) → (answer ≡ turned.Failed → ⊥) → LoadsKey m old new before later answer → Sound m load_key old new before later
load_sound m old new before later turned.On other turns = turned_sound m load_key old new before later turned.On other turns
load_sound m old new before later turned.Halt other turns = absurd turns
load_sound m old new before later (turned.Stop why) other turns = absurd turns
load_sound m old new before later turned.NoKeys other turns = absurd turns
load_sound m old new before later turned.Empty other turns = turned_sound m load_key old new before later turned.Empty other turns
load_sound m old new before later (turned.Jam u n) other turns = turned_sound m load_key old new before later (turned.Jam u n) other turns
load_sound m old new before later turned.Failed other turns = absurd (other refl)
