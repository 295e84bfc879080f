-- The order of units.
use Rattle.std.proofs.Common.{◌≡◌, get_or, refl}
use Rattle.outside_io.specs.declared.host.Unit as unit
use Rattle.outside_io.specs.declared.host.Unit.TheVariants.{Source}
use Rattle.outside_io.specs.World.{all_units, place}

-- each unit stands at its place
pub unit_at-place : (u d : unit.Unit) → get_or all_units (place u) d ≡ u
unit_at-place Source d = refl
unit_at-place u d = refl
