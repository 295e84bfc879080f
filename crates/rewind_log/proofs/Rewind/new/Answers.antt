-- No entry, no place.
use Rattle.std.proofs.Common.{ap}
use Rattle.circular_buffer.specs.Buffer.{Buffer}
use Rattle.rewind_log.specs.Entries.{places_of_entries}
use Rattle.rewind_log.specs.declared.LogEntry.{LogEntry}
use Rattle.rewind_log.proofs.Rewind.new.Goals as goal

pub returns : goal.returns
unfolding places_of_entries
returns g c = ap (λ (b : Buffer (LogEntry g.row.M)). places_of_entries g.row.M c.in_ok-new-2.field-0 b.items) c.in_ok-with_capacity.ensures
