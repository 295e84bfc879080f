-- Which units are worked with: inputs that are read, and the pack.
use Rattle.std.specs.Prelude.{◌≤◌, ◌+◌, Bool, false, ◌||◌, Option, IfSome}
use Rattle.outside_io.specs.declared.host.Unit as unit
use Rattle.outside_io.specs.declared.host.Unit.TheVariants as units
use Rattle.outside_io.specs.World.{Asked, same_unit}
use Rattle.cpu_step.specs.Machine.{is_read}

-- no unit, or one unit
abbrev pub reads_nothing : unit.Unit → Bool
reads_nothing u = false

abbrev pub reads_source : unit.Unit → Bool
reads_source u = same_unit units.Source u

abbrev pub reads_script : unit.Unit → Bool
reads_script u = same_unit units.Script u

abbrev pub reads_commands : unit.Unit → Bool
reads_commands u = same_unit units.Commands u

abbrev pub reads_pack : unit.Unit → Bool
reads_pack u = same_unit units.Pack u

-- the units that a machine works with: Deck, Data, Keys and the pack; the contract leaves it open whether a reader with cards of
-- its own leaves Deck alone
abbrev pub reads_feed : unit.Unit → Bool
reads_feed u = is_read u || reads_pack u

-- between two moments at most one reading of an input found no more, if the host reveals how it was asked
abbrev pub EndsOnce : Option Asked → Option Asked → Type 0
EndsOnce old new = IfSome old (λ a. IfSome new (λ b. b.ends ≤ a.ends + 1))

-- the units of one job and the units of another
abbrev pub reads_both : (unit.Unit → Bool) → (unit.Unit → Bool) → unit.Unit → Bool
reads_both a b u = a u || b u

-- the source, and then the pack
abbrev pub placing_reads : unit.Unit → Bool
placing_reads u = reads_both reads_source reads_pack u

-- the source, and then the units of its machine
abbrev pub reads_program : unit.Unit → Bool
reads_program u = reads_both reads_source reads_feed u

-- the commands, before the source and the units of its machine
abbrev pub reads_session : unit.Unit → Bool
reads_session u = reads_both reads_commands reads_program u

-- the script, before the units of a machine, before a source, and before commands
abbrev pub load_reads : unit.Unit → Bool
load_reads u = reads_both reads_script reads_feed u

abbrev pub run_reads : unit.Unit → Bool
run_reads u = reads_both reads_script reads_program u

abbrev pub debug_reads : unit.Unit → Bool
debug_reads u = reads_both reads_script reads_session u
