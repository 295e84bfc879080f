-- So many entries have been undone: the place is among those of the others, over this core.
use Rattle.std.proofs.Common.{◌≡◌, drop}
use Rattle.std.specs.Prelude.{slice_get}
use Rattle.rewind_log.specs.Entries.{places_of_entries}
use Rattle.rewind_log.proofs.Rewind.restore.Given as goal

abbrev pub invariant-loop-k : goal.invariant-loop-k
invariant-loop-k g l = record {
  is : slice_get (places_of_entries g.row.M l.machine.core (drop l.k l.self-inside.entries.items)) l.i ≡ slice_get l.self l.i;
  others : l.machine ≡ record l.fn.machine { core = l.machine.core };
}
