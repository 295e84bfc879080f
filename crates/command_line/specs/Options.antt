-- The options: the slot that each fills, its word, and which of them a command takes.
use Rattle.std.specs.Prelude.{ℕ, ◌+◌, Bool, List, [], ◌∷◌, ◌++◌, codes, ◌==◌}
use Rattle.outside_io.specs.declared.host.TheConstants.{UNIT_COUNT}
use Rattle.outside_io.specs.declared.host.Unit.TheVariants.{Source, Object, Image, Deck, Data, Keys, Script, Commands, Pack, Punched, Typed, Listing, Made, Report}
use Rattle.outside_io.specs.World.{place, unit_word}
use Rattle.command_line.specs.declared.options.Slot.{Slot}
use Rattle.command_line.specs.declared.options.Slot.TheVariants.{File, Limit, Statements, Number, Form, Core}
use Rattle.command_line.specs.declared.words.Command.{Command}
use Rattle.command_line.specs.declared.words.Command.TheVariants.{Assemble, Load, Run, Debug, Generate, Trial, Disk}

-- ---- slots

-- the slot's place in the map: the files come first, in the order of units
abbrev pub slot_place : Slot → ℕ
slot_place (File u) = place u
slot_place Limit = UNIT_COUNT
slot_place Statements = UNIT_COUNT + 1
slot_place Number = UNIT_COUNT + 2
slot_place Form = UNIT_COUNT + 3
slot_place Core = UNIT_COUNT + 4

-- the same slot
abbrev pub same_slot : Slot → Slot → Bool
same_slot a b = slot_place a == slot_place b

-- ---- words

-- the word of a slot
abbrev pub slot_word : Slot → List ℕ
slot_word (File u) = unit_word u
slot_word Limit = codes "limit"
slot_word Statements = codes "statements"
slot_word Number = codes "number"
slot_word Form = codes "form"
slot_word Core = codes "core"

-- the option that fills a slot: two hyphens and the slot's word
abbrev pub option_word : Slot → List ℕ
option_word slot = codes "--" ++ slot_word slot

-- ---- the slots of a command

-- the slots of an assembly, next to the source
abbrev pub assembly : List Slot
assembly = File Object ∷ File Image ∷ File Listing ∷ Form ∷ []

-- the slots of the machine, next to the deck
abbrev pub machine : List Slot
machine = File Data ∷ File Keys ∷ File Script ∷ File Pack ∷ File Punched ∷ File Typed ∷ Limit ∷ []

-- a report, and the size of core
abbrev pub common : List Slot
common = File Report ∷ Core ∷ []

-- the slots that the words must fill
abbrev pub required : Command → List Slot
required Assemble = File Source ∷ []
required Load = File Deck ∷ []
required Run = File Source ∷ []
required Debug = File Source ∷ File Commands ∷ []
required Generate = Statements ∷ Number ∷ []
required Trial = Statements ∷ Number ∷ []
required Disk = File Source ∷ File Pack ∷ []

-- the slots that the words may fill
abbrev pub optional : Command → List Slot
optional Assemble = assembly ++ common
optional Load = machine ++ common
optional Run = assembly ++ machine ++ common
optional Debug = assembly ++ machine ++ common
optional Generate = File Made ∷ File Report ∷ []
optional Trial = File Report ∷ []
optional Disk = File Object ∷ File Image ∷ common

-- all slots that the command takes
abbrev pub slots : Command → List Slot
slots command = required command ++ optional command
