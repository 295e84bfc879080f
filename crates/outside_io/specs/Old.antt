-- Which files still have the bytes that they had before they were bound.
use Rattle.std.specs.Prelude.{◌≡◌, Bool, false, slice_index_or, if◌then◌else◌}
use Rattle.outside_io.specs.declared.host.Unit as unit
use Rattle.outside_io.specs.declared.opened.OpenFiles.{OpenFiles}
use Rattle.outside_io.specs.World.{place, same_unit, IsUnmarked}

-- the unit is an output, and its file has old bytes
abbrev pub has_old_bytes : {F : Type 0} → OpenFiles F → unit.Unit → Bool
has_old_bytes files u = slice_index_or files.is_old (place u) false

-- no file has old bytes
abbrev pub HasNoOldBytes : {F : Type 0} → OpenFiles F → Type 0
HasNoOldBytes files = IsUnmarked files.is_old

-- the unit's file loses its old bytes, and all others keep theirs
abbrev pub LosesOldBytes : {F : Type 0} → OpenFiles F → OpenFiles F → unit.Unit → Type 0
LosesOldBytes old new u = (v : unit.Unit) → has_old_bytes new v ≡ (if same_unit u v then false else has_old_bytes old v)
