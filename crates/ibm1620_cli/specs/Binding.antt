-- Which files are bound to which units, and in which order.
use Rattle.std.specs.Prelude.{◌≡◌, ◌≢◌, ◌≤◌, ℕ, List, [], ◌∷◌, take, Option, Some, None}
use Rattle.outside_io.specs.declared.host.Unit as unit
use Rattle.outside_io.specs.declared.host.Bound.{Bound}
use Rattle.outside_io.specs.declared.host.Bound.TheVariants as bound
use Rattle.outside_io.specs.World.{World, Seen, Rose, Goes, Fails, all_units, world_after_binding}
use Rattle.ibm1620_cli.specs.declared.status.Status.{Status}
use Rattle.ibm1620_cli.specs.declared.status.Status.TheVariants.{HostFault}
use Rattle.command_line.specs.Words.{Names}
use Rattle.outside_io.specs.declared.host.TheConstants.{UNIT_COUNT}

-- a file is bound if there is a name
abbrev pub bound_if : unit.Unit → Option (List ℕ) → World → World
bound_if u None w = w
bound_if u (Some name) w = world_after_binding u name w

-- each of these units is bound to the file that is named for it, one unit after another
abbrev pub each_bound : List unit.Unit → Names → World → World
each_bound [] names w = w
each_bound (u ∷ us) names w = each_bound us names (bound_if u (names u) w)

-- the first n units are bound so
abbrev pub first_bound : ℕ → Names → World → World
first_bound n names w = each_bound (take n all_units) names w

-- all units are bound so
abbrev pub all_bound : Names → World → World
all_bound names w = first_bound UNIT_COUNT names w

-- The bindings reached some first units in order: each of them that has a name is in use, bound to that name, and no other
-- binding was made. If the answer is no fault of the host, they reached all units.
pub record BindsNamed (names : Names) (old new : World) (answer : Status) : Type 0 where
  pub reached : ℕ
  pub in_use : new.in_use ≡ (first_bound reached names old).in_use
  pub names_are : new.names ≡ (first_bound reached names old).names
  pub all : answer ≢ HostFault → UNIT_COUNT ≤ reached

-- the effect of one binding
abbrev pub BindsIf : Seen → Seen → unit.Unit → Option (List ℕ) → Bound → Type 0
BindsIf old new u name bound.Yes = Goes old new (bound_if u name old.world)
BindsIf old new u name bound.Failed = Fails old new

-- the host failed when some of the units were bound
pub record BindsSome (names : Names) (old new : Seen) : Type 0 where
  pub reached : ℕ
  pub rose : Rose old.faults new.faults
  pub world : new.world ≡ first_bound reached names old.world

-- the effect of all bindings
abbrev pub BindsAll : Names → Seen → Seen → Bound → Type 0
BindsAll names old new bound.Yes = Goes old new (all_bound names old.world)
BindsAll names old new bound.Failed = BindsSome names old new
