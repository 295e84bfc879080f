-- A host that reveals no bytes.
use Rattle.std.specs.Prelude.{◌≡◌, ℕ, Bool, false, List, Option, None, slice_index_or}
use Rattle.outside_io.specs.declared.host.Unit as unit
use Rattle.outside_io.specs.declared.names.BoundNames.{BoundNames}
use Rattle.outside_io.specs.declared.real.RealHost.{RealHost}
use Rattle.outside_io.specs.declared.trouble.Trouble.{Trouble}
use Rattle.outside_io.specs.World.{World, Seen, place}
use Rattle.outside_io.specs.Names.{name_of}
use Rattle.outside_io.specs.Old.{HasNoOldBytes}
use Rattle.outside_io.specs.Scratch.{scratch_room}

-- a world that reveals only which units are in use and under which names
abbrev pub untold : List Bool → BoundNames → World
untold bound names = record {
  in_use = λ u. slice_index_or bound (place u) false;
  names = name_of names;
  file = λ name. None;
  left = λ u. None;
  written = λ u. None;
  sectors = None;
  asked = λ u. None;
  limits = None;
}

-- the count of faults, and the world, of a host over any files
abbrev pub real_seen : {R F D : Type 0} → RealHost R F D → Seen
real_seen host = record { faults = host.faults.count; world = untold host.bound host.names }

-- the last failure of a call, which the host keeps
abbrev pub last_trouble : {R F D : Type 0} → RealHost R F D → Option Trouble
last_trouble host = host.faults.last

-- how many sectors, from the first one on, the host has memory for while no file is bound to the pack
abbrev pub pack_room : {R F D : Type 0} → RealHost R F D → ℕ
pack_room host = scratch_room host.scratch

-- the world reveals no byte of a file, a unit or a sector, nor how a unit was read, nor when a call fails
pub record TellsNothing (w : World) : Type 0 where
  pub file : (name : List ℕ) → w.file name ≡ None
  pub left : (u : unit.Unit) → w.left u ≡ None
  pub written : (u : unit.Unit) → w.written u ≡ None
  pub sectors : w.sectors ≡ None
  pub asked : (u : unit.Unit) → w.asked u ≡ None
  pub limits : w.limits ≡ None

-- no output's file still has bytes from before it was bound
abbrev pub IsAllEmptied : {R F D : Type 0} → RealHost R F D → Type 0
IsAllEmptied host = HasNoOldBytes host.files
