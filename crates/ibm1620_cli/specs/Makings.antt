-- What is made before a machine is powered on.
use Rattle.std.specs.Prelude.{⊤, List, [], ◌∷◌}
use Rattle.outside_io.specs.declared.host.Unit.TheVariants.{Object, Image, Listing}
use Rattle.outside_io.specs.Events.{Event, WriteByte}

-- a byte of the texts that are made before a machine is powered on
abbrev pub IsMaking : Event → Type 0
IsMaking (WriteByte Object byte) = ⊤
IsMaking (WriteByte Image byte) = ⊤
IsMaking (WriteByte Listing byte) = ⊤
IsMaking d = ⊥

abbrev pub AreMakings : List Event → Type 0
AreMakings [] = ⊤
AreMakings (d ∷ ds) = IsMaking d × AreMakings ds
