-- The kept places of a run.
use Rattle.std.specs.Prelude.{ℕ, ◌-◌, ◌==◌, List, [], ◌∷◌, ◌++◌, drop, length, slice_get, Option, if◌then◌else◌}
use Rattle.indicators.specs.declared.Panel.{Panel}
use Rattle.branch_ops.specs.declared.Regs.{Regs}
use Rattle.cpu_step.specs.declared.machine.Mode.{Mode}
use Rattle.cpu_step.specs.declared.machine.Machine.{Machine}

-- a kept place: all that is inside the machine, and the count of steps made
pub record Kept : Type 0 where
  pub core : List ℕ
  pub regs : Regs
  pub panel : Panel
  pub arms : List ℕ
  pub mode : Mode
  pub steps : ℕ

-- the kept place of a machine after `steps` steps
abbrev pub place_of_machine : (m : ℕ) → Machine m → ℕ → Kept
place_of_machine m machine steps = record {
  core = machine.core;
  regs = machine.regs;
  panel = machine.panel;
  arms = machine.arms;
  mode = machine.mode;
  steps = steps;
}

-- a machine at a kept place: its hopper and its keyboard are as they were
abbrev pub machine_at : (m : ℕ) → Kept → Machine m → Machine m
machine_at m k machine =
    record machine { core = k.core; regs = k.regs; panel = k.panel; arms = k.arms; mode = k.mode }

-- how many places are kept at most: the furthest, and a thousand before it
abbrev pub most_places : ℕ
most_places = 1001

-- the places with one more; the oldest is dropped if there is no room
abbrev pub places_with : List Kept → Kept → List Kept
places_with ks k = if length ks == most_places then drop 1 ks ++ k ∷ [] else ks ++ k ∷ []

-- the newest place
abbrev pub newest : List Kept → Option Kept
newest ks = slice_get ks (length ks - 1)
