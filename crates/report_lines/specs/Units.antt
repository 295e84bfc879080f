-- The names of units.
use Rattle.std.specs.Prelude.{ℕ, List, map}
use Rattle.std.specs.Char.{to_ascii_uppercase}
use Rattle.outside_io.specs.declared.host.Unit as unit
use Rattle.outside_io.specs.World.{unit_word}

-- a unit's name: its word in capitals
abbrev pub unit_name : unit.Unit → List ℕ
unit_name u = map to_ascii_uppercase (unit_word u)
