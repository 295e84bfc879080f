-- The world that a quiet host reveals.
use Rattle.std.specs.Prelude.{None}
use Rattle.outside_io.specs.declared.in_memory.quiet.QuietHost.{QuietHost}
use Rattle.outside_io.specs.World.{World, Seen}
use Rattle.outside_io.specs.Files.{world_of}

-- a quiet host reveals its inputs, but no texts, sectors or limits
abbrev pub quiet_world : QuietHost → World
quiet_world host = world_of host.files (λ u. None) None None

-- no fault, and the world
abbrev pub quiet_seen : QuietHost → Seen
quiet_seen host = record { faults = 0; world = quiet_world host }
