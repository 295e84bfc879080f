use Rattle.std.proofs.Common.{◌≡◌, ℕ, ◌<◌, [], length, get_or}
use Rattle.outside_io.specs.declared.host.Unit.TheVariants.{Source}
use Rattle.outside_io.specs.World.{all_units}
use Rattle.outside_io.specs.Texts.{output_at, measure_at, whole_room, spare_room}
use Rattle.outside_io.specs.Rooms.{unit_room}
use Rattle.outside_io.proofs.in_memory.texts.OutputTexts.new.Given as goal

abbrev pub invariant-loop-unit : goal.invariant-loop-unit
invariant-loop-unit l = record {
  count : length l.outputs.items ≡ l.unit-index;
  text : (k : ℕ) → output_at l.outputs.items k ≡ [];
  room : (k : ℕ) → k < length l.outputs.items → measure_at whole_room l.outputs.items k ≡ unit_room l.room (get_or all_units k Source);
  spare : (k : ℕ) → k < length l.outputs.items → measure_at spare_room l.outputs.items k ≡ unit_room l.room (get_or all_units k Source);
}
