-- What the operator's actions do to a machine that shows a state.
use Rattle.std.proofs.Common.{◌≡◌, ℕ, List, refl, false}
use Rattle.outside_io.specs.declared.host.Unit.TheVariants as units
use Rattle.outside_io.specs.World.{World, Seen}
use Rattle.card_code.specs.Reader.{unit_of}
use Rattle.card_code.specs.Entries.{Entry}
use Rattle.indicators.specs.declared.Panel.{Panel}
use Rattle.cpu_step.specs.declared.machine.Machine.{Machine}
use Rattle.cpu_step.specs.declared.machine.Mode.{Mode}
use Rattle.cpu_step.specs.declared.machine.Mode.TheVariants as mode
use Rattle.cpu_step.specs.State.{State}
use Rattle.cpu_step.specs.Machine.{state_with, Makes, is_faulted}
use Rattle.cpu_step.proofs.ShownStates.{some_state, some_shown, frames_same, settles}
use Rattle.operator_script.specs.declared.script.Action.TheVariants as action
use Rattle.operator_script.specs.Turn.{state_after_action, mode_at_start}

-- an action within panel and mode: the rest of the machine stays
pub set_made : (m : ℕ) (f : State → State) (old : Machine m) (panel : Panel) (to : Mode) (of_keys : unit_of old.keys ≡ units.Keys) (before : Seen)
    → ((w : World) (h k : List Entry) (p : ℕ → List ℕ) → f (state_with m old w h k p) ≡ state_with m (record old { panel = panel; mode = to; keys_are = of_keys }) w h k p)
    → Makes m f old (record old { panel = panel; mode = to; keys_are = of_keys }) before before
set_made m f old panel to of_keys before same = record {
  state = some_state m old before.world;
  shown = some_shown m old before.world;
  made = settles m f old (record old { panel = panel; mode = to; keys_are = of_keys }) refl refl same before.world (some_state m old before.world) (some_shown m old before.world);
  frames = frames_same m old (record old { panel = panel; mode = to; keys_are = of_keys }) before refl refl;
}

-- an action within core
pub core_made : (m : ℕ) (f : State → State) (old new : Machine m) (before : Seen) → new.hopper ≡ old.hopper → new.keys ≡ old.keys
    → ((w : World) (h k : List Entry) (p : ℕ → List ℕ) → f (state_with m old w h k p) ≡ state_with m new w h k p) → Makes m f old new before before
core_made m f old new before hopper keys same = record {
  state = some_state m old before.world;
  shown = some_shown m old before.world;
  made = settles m f old new hopper keys same before.world (some_state m old before.world) (some_shown m old before.world);
  frames = frames_same m old new before hopper keys;
}

pub acted_start : (s : State) → state_after_action action.Start s ≡ record s { mode = mode_at_start s.mode }
unfolding state_after_action
acted_start s = refl

pub started_sound : (m : Mode) → is_faulted m ≡ false → is_faulted (mode_at_start m) ≡ false
started_sound mode.Running sound = refl
started_sound (mode.Halted at) sound = refl
started_sound (mode.Stopped kind at) sound = refl
started_sound mode.Empty sound = refl
started_sound mode.NoKeys sound = refl
started_sound (mode.Jam u n) sound = refl
started_sound mode.Faulted sound = cc
