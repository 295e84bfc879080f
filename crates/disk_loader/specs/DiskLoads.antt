-- A deck that loads a program from disk: the effect of the Load key and k steps on any core that the program fits in.
use Rattle.std.specs.Prelude.{ℕ, true, ◌≡◌, ◌<◌, ◌≤◌, List, [], ◌∷◌, ◌++◌, length, map, slice_set}
use Rattle.std.specs.List.{All}
use Rattle.digit_core.specs.Size.{IsSize, size}
use Rattle.outside_io.specs.World.{pack_sector_text}
use Rattle.indicators.specs.Panel.{set}
use Rattle.indicators.specs.Codes.{LAST_CARD}
use Rattle.branch_ops.specs.Registers.{on_at}
use Rattle.card_code.specs.Entries.{Entry, Text, has_none_left}
use Rattle.disk_1311.specs.declared.TheConstants.{DRIVES}
use Rattle.disk_1311.specs.Disk.{cylinder_of, host_sector}
use Rattle.cpu_step.specs.declared.machine.Mode.TheVariants.{Running}
use Rattle.cpu_step.specs.State.{State}
use Rattle.cpu_step.specs.Load.{load_key}
use Rattle.sps_pass_two.specs.{DigitRun, IsRunBelow}
use Rattle.card_steps.specs.Steps.{after_steps, events_of_load, deck_taken}
use Rattle.disk_loader.specs.Hundreds.{is_needed, hundred_text}
use Rattle.disk_loader.specs.declared.deck.Stretch.{Stretch}
use Rattle.disk_loader.specs.declared.hundreds.TheConstants.{HUNDREDS}
use Rattle.disk_loader.specs.Stretches.{stretches}
use Rattle.disk_loader.specs.DiskOverlay.{disk_overlay}

-- drive 1 has the sectors of the needed hundreds
abbrev pub HasSectors : List DigitRun → (ℕ → List ℕ) → Type 0
HasSectors image sectors = (h : ℕ) → h < HUNDREDS → is_needed image h ≡ true → pack_sector_text sectors (host_sector 1 h) ≡ hundred_text image h

-- the cylinder of the last stretch, or another cylinder if there is no stretch
abbrev pub last_cylinder : ℕ → List Stretch → ℕ
last_cylinder other [] = other
last_cylinder other (s ∷ ss) = last_cylinder (cylinder_of s.from) ss

-- a state that goes on at the start of a program: its hundreds are laid over a core, IR is at the start, the rest is in the hopper, the
-- last-card indicator is on exactly if the rest is empty, the arm of drive 1 is at the last stretch, and all else is as it was
abbrev pub state_from_disk : State → List DigitRun → ℕ → List ℕ → List Entry → State
state_from_disk s image start core rest =
    record s {
      core = disk_overlay core image start;
      regs = on_at s.regs start;
      hopper = rest;
      panel = set LAST_CARD (has_none_left rest) s.panel;
      arms = slice_set s.arms 0 (last_cylinder 0 (stretches image));
    }

-- over one state, whose hopper has a deck and then the rest: from the Load key on the machine runs, and k steps later it has the image in
-- its core and is at the start; outside, each card of the deck was taken, and nothing else was done
pub record DiskLoadsOver (deck : List (List ℕ)) (image : List DigitRun) (start k : ℕ) (s : State) (rest : List Entry) : Type 0 where
  pub running : (n : ℕ) → n ≤ k → (after_steps n (load_key s)).mode ≡ Running
  pub loaded : after_steps k (load_key s) ≡ state_from_disk (load_key s) image start s.core rest
  pub takes : events_of_load k s ≡ deck_taken deck

-- THE PROMISE. Over the sectors of an image a deck loads it and enters a start in k steps: over every core, good or not, of each size
-- above all declared addresses and the start, whatever else the state is, and with any rest of the hopper after the deck
abbrev pub DiskLoads : List (List ℕ) → List DigitRun → ℕ → ℕ → Type 0
DiskLoads deck image start k =
    (m : ℕ) (s : State) (rest : List Entry) → IsSize m → length s.core ≡ size m → length s.arms ≡ DRIVES
    → All (IsRunBelow (size m)) image → start < size m → HasSectors image s.sectors
    → s.hopper ≡ map Text deck ++ rest → DiskLoadsOver deck image start k s rest
