-- A deck that loads itself: the effect of the Load key and k steps on any core that the program fits in.
use Rattle.std.specs.Prelude.{ℕ, ◌≡◌, ◌<◌, ◌≤◌, List, ◌++◌, length, map}
use Rattle.std.specs.List.{All}
use Rattle.digit_core.specs.Size.{IsSize, size}
use Rattle.indicators.specs.Panel.{set}
use Rattle.branch_ops.specs.Registers.{on_at}
use Rattle.card_code.specs.Entries.{Entry, Text, has_none_left}
use Rattle.indicators.specs.Codes.{LAST_CARD}
use Rattle.cpu_step.specs.declared.machine.Mode.TheVariants.{Running}
use Rattle.cpu_step.specs.State.{State}
use Rattle.cpu_step.specs.Load.{load_key}
use Rattle.sps_pass_two.specs.{DigitRun, IsRunBelow}
use Rattle.deck_punch.specs.Overlay.{overlay}
use Rattle.card_steps.specs.Steps.{after_steps, events_of_load, deck_taken}

-- a state that goes on at the start of a program: its image is laid over a core, IR is at the start, the rest is in the hopper, the
-- last-card indicator is on exactly if the rest is empty, and all else is as it was
abbrev pub state_at_start : State → List DigitRun → ℕ → List ℕ → List Entry → State
state_at_start s image start core rest =
    record s {
      core = overlay core image start;
      regs = on_at s.regs start;
      hopper = rest;
      panel = set LAST_CARD (has_none_left rest) s.panel;
    }

-- over one state, whose hopper has a deck and then the rest: from the Load key on the machine runs, and k steps later it has the image in
-- its core and is at the start; outside, each card of the deck was taken, and nothing else was done
pub record LoadsOver (deck : List (List ℕ)) (image : List DigitRun) (start k : ℕ) (s : State) (rest : List Entry) : Type 0 where
  pub running : (n : ℕ) → n ≤ k → (after_steps n (load_key s)).mode ≡ Running
  pub loaded : after_steps k (load_key s) ≡ state_at_start (load_key s) image start s.core rest
  pub takes : events_of_load k s ≡ deck_taken deck

-- THE PROMISE. A deck loads an image and enters a start in k steps: over every core, good or not, of each size above all declared
-- addresses and the start, whatever else the state is, and with any rest of the hopper after the deck
abbrev pub Loads : List (List ℕ) → List DigitRun → ℕ → ℕ → Type 0
Loads deck image start k =
    (m : ℕ) (s : State) (rest : List Entry) → IsSize m → length s.core ≡ size m → All (IsRunBelow (size m)) image
    → start < size m
    → s.hopper ≡ map Text deck ++ rest → LoadsOver deck image start k s rest
