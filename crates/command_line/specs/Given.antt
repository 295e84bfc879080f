-- The meaning of words, as the code keeps it.
use Rattle.std.specs.Prelude.{◌≡◌, Option, None, option_copied, option_map, slice_index_or}
use Rattle.command_line.specs.declared.names.Names.{Names}
use Rattle.command_line.specs.declared.options.Slot.TheVariants.{File}
use Rattle.command_line.specs.declared.values.Values.{Values}
use Rattle.command_line.specs.declared.given.Plain.{Plain}
use Rattle.command_line.specs.Options.{slot_place}
use Rattle.command_line.specs.Reading as reading

-- the text of each slot
abbrev pub values_in : Values → reading.Values
values_in kept slot = option_copied (slice_index_or kept.texts (slot_place slot) None)

-- the name of each unit's file
abbrev pub names_in : Names → reading.Names
names_in kept u = values_in kept.values (File u)

-- the meaning of plain words
abbrev pub meaning_of : Plain → reading.WordsSaid
meaning_of plain = record {
  command = plain.command;
  names = names_in plain.names;
  settings = plain.settings;
  core = plain.core;
}

-- the code keeps just these values, or none
abbrev pub KeepsJust : Option reading.Values → Option Values → Type 0
KeepsJust values kept = option_map values_in kept ≡ values

-- the code means just this, or nothing
abbrev pub MeansJust : Option reading.WordsSaid → Option Plain → Type 0
MeansJust meaning plain = option_map meaning_of plain ≡ meaning
