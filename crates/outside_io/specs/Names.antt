-- The names that units are bound to.
use Rattle.std.specs.Prelude.{◌≡◌, ℕ, List, Option, None, option_map, take, slice_index_or, if◌then◌else◌}
use Rattle.outside_io.specs.declared.host.Unit as unit
use Rattle.outside_io.specs.declared.names.KeptName.{KeptName}
use Rattle.outside_io.specs.declared.names.BoundNames.{BoundNames}
use Rattle.outside_io.specs.World.{place, same_unit, kept_name}

-- the bytes of a kept name, if there is one
abbrev pub name_in : Option KeptName → Option (List ℕ)
name_in kept = option_map (λ name. take name.length name.bytes) kept

-- the name that is kept for a unit, if any
abbrev pub name_of : BoundNames → unit.Unit → Option (List ℕ)
name_of names u = name_in (slice_index_or names.kept (place u) None)

-- no unit has a name
abbrev pub HasNoName : BoundNames → Type 0
HasNoName names = (u : unit.Unit) → name_of names u ≡ None

-- the unit gets this name, or none if it is too long; all others keep theirs
abbrev pub KeepsName : BoundNames → BoundNames → unit.Unit → List ℕ → Type 0
KeepsName old new u name = (v : unit.Unit) → name_of new v ≡ (if same_unit u v then kept_name name else name_of old v)
