-- The room of a unit's text in memory.
use Rattle.std.specs.Prelude.{ℕ, if◌then◌else◌}
use Rattle.outside_io.specs.declared.host.Unit as unit
use Rattle.outside_io.specs.World.{is_output}

-- only outputs have room
abbrev pub unit_room : ℕ → unit.Unit → ℕ
unit_room size u = if is_output u then size else 0
