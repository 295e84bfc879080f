-- A binding leaves all other units as free as they were.
use Rattle.std.proofs.Common.{◌≡◌, ℕ, false, List, ◌∙◌, ap}
use Rattle.outside_io.specs.declared.host.Unit as unit
use Rattle.outside_io.specs.declared.host.Bound.{Bound}
use Rattle.outside_io.specs.declared.host.Bound.TheVariants as bound
use Rattle.outside_io.specs.World.{World, Seen, Binds, same_unit}

pub still_free : (old new : Seen) (u v : unit.Unit) (name : List ℕ) (answer : Bound) → Binds old new u name answer → same_unit u v ≡ false → old.world.in_use v ≡ false → new.world.in_use v ≡ false
still_free old new u v name bound.Yes goes other free = ap (λ (w : World). w.in_use v) goes.world ∙ rw other free
still_free old new u v name bound.Failed fails other free = ap (λ (w : World). w.in_use v) fails.world ∙ free
