-- Which words are plain, and their meaning.
use Rattle.std.specs.Prelude.{ℕ, Bool, true, false, not, ◌&&◌, List, [], ◌∷◌, map, find, String, string_bytes, Option, Some, None, is_some, option_map, option_and_then, if◌then◌else◌, ◌==◌}
use Rattle.std.specs.List.{list_all}
use Rattle.std.specs.Str.{bytes_eq}
use Rattle.std.specs.declared.alloc.Global.{Global}
use Rattle.line_words.specs.Rows.{NameRow, row, value_by_name}
use Rattle.command_line.specs.declared.options.Slot.{Slot}
use Rattle.command_line.specs.declared.words.Command.{Command}
use Rattle.command_line.specs.declared.words.Command.TheVariants.{Assemble, Load, Run, Debug, Generate, Trial, Disk}
use Rattle.command_line.specs.Options.{option_word, required, same_slot, slots}
use Rattle.command_line.specs.Reading.{Values, reading_of_command}
pub use Rattle.command_line.specs.Reading.{Names, WordsSaid, no_names}

-- THE TABLE of commands
abbrev pub commands : List (NameRow Command)
commands =
    row "assemble" Assemble
    ∷ row "load" Load
    ∷ row "run" Run
    ∷ row "debug" Debug
    ∷ row "generate" Generate
    ∷ row "trial" Trial
    ∷ row "disk" Disk
    ∷ []

-- ---- the map from slot to text

abbrev pub no_values : Values
no_values slot = None

-- one value more
abbrev pub with_value : Slot → List ℕ → Values → Values
with_value slot text values other = if same_slot slot other then Some text else values other

-- ---- options and their values

-- a slot, and the text that is given for it
abbrev pub Setting : Type 0
Setting = Slot × List ℕ

-- the slot of an option that the command takes
abbrev pub slot_of : Command → List ℕ → Option Slot
slot_of command option = find (λ slot. bytes_eq (option_word slot) option) (slots command)

-- not empty, and no option
abbrev pub is_value : List ℕ → Bool
is_value [] = false
is_value (b ∷ bytes) = not (b == 45)

-- an option that the command takes, and its value
abbrev pub setting : Command → List ℕ → List ℕ → Option Setting
setting command option value =
    if is_value value then option_map (λ slot. (slot, value)) (slot_of command option) else None

-- options, each with its value after it
abbrev pub settings : Command → List (List ℕ) → Option (List Setting)
settings command [] = Some []
settings command (option ∷ []) = None
settings command (option ∷ value ∷ rest) =
    option_and_then (λ first. option_map (λ more. first ∷ more) (settings command rest)) (setting command option value)

-- the text of each slot
abbrev pub values_of : List Setting → Values
values_of [] = no_values
values_of (s ∷ more) = with_value s.0 s.1 (values_of more)

-- each slot is given once
abbrev pub is_once : List Setting → Bool
is_once [] = true
is_once (s ∷ more) = not (is_some (values_of more s.0)) && is_once more

-- a map with a setting whose slot has no text yet
abbrev pub with_one_setting : Values → Option Setting → Option Values
with_one_setting values None = None
with_one_setting values (Some s) = if is_some (values s.0) then None else Some (with_value s.0 s.1 values)

-- the required ones are there
abbrev pub has_required : Command → Values → Bool
has_required command values = list_all (λ slot. is_some (values slot)) (required command)

-- the map that settings make: each slot once, and the required ones among them
abbrev pub values_made : Command → List Setting → Option Values
values_made command given =
    if is_once given && has_required command (values_of given) then Some (values_of given) else None

-- the map that the words after a command make
abbrev pub values_in_words : Command → List (List ℕ) → Option Values
values_in_words command words = option_and_then (values_made command) (settings command words)

-- ---- plain words

-- a command, and then options with their values, which can be read
abbrev pub plain : List (List ℕ) → Option WordsSaid
plain [] = None
plain (word ∷ rest) =
    option_and_then (λ command. option_and_then (reading_of_command command) (values_in_words command rest)) (value_by_name commands word)

-- the meaning of the words of a command line if they are plain
abbrev pub meaning_of_words : List (String Global) → Option WordsSaid
meaning_of_words words = plain (map string_bytes words)

-- the names that words give; no names if they are not plain
abbrev pub names_of : Option WordsSaid → Names
names_of None = no_names
names_of (Some said) = said.names
