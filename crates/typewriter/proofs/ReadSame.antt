-- That a keyboard has read what it had read, over a call that leaves it and Keys as they were.
use Rattle.std.proofs.Common.{◌≡◌, List, map, ◌++◌, sym, subst}
use Rattle.std.specs.Prelude.{Option, IfSome}
use Rattle.outside_io.specs.declared.host.Unit.TheVariants as units
use Rattle.outside_io.specs.World.{World, Seen}
use Rattle.card_code.specs.Entries.{Entry}
use Rattle.card_code.specs.declared.lines.Lines.{Lines}
use Rattle.typewriter.specs.Keys.{HasReadLines, GoesOnReadingLines}
use Rattle.card_code.specs.Readings.{entry_read}
use Rattle.typewriter.proofs.Keyboards.{keys_same, turn_same}

-- it has, where Keys has left what it had and is asked as it was
pub read_same : (k : Lines) (v w : World) → w.left units.Keys ≡ v.left units.Keys → w.asked units.Keys ≡ v.asked units.Keys → (start : List Entry) → HasReadLines start k v → HasReadLines start k w
read_same k v w left asked start read = record {
  readings = read.readings;
  by = record {
    unit = read.by.unit;
    turn = turn_same k v w read.by.unit asked read.by.turn;
    of_keys = read.by.of_keys;
    numbered = read.by.numbered;
    read = read.by.read;
    tallied = read.by.tallied;
    all = subst (λ (told : Option (List Entry)). IfSome told (λ es. start ≡ map entry_read read.readings ++ es)) (sym (keys_same k v w read.by.unit left)) read.by.all;
  };
}

-- so it does over such a call
pub reads_kept : (old new : Lines) (before after : Seen) → new ≡ old → after.world.left units.Keys ≡ before.world.left units.Keys → after.world.asked units.Keys ≡ before.world.asked units.Keys → GoesOnReadingLines old new before after
reads_kept old new before after same left asked = λ start read. subst (λ (k : Lines). HasReadLines start k after.world) (sym same) (read_same old before.world after.world left asked start read)
