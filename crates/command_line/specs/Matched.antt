-- The words of the program as clap reads them, and the meaning of its matches.
use Rattle.std.specs.Prelude.{◌≡◌, Bool, true, List, [], ◌∷◌, Option, Some, None, codes, option_and_then}
use Rattle.clap.specs.Words.{App, Row as Found, Rule, Shape, Text, app_of, first_of, new_app, new_rule, with_rule, with_subcommand}
use Rattle.clap.specs.declared.builder.command.Command as clap
use Rattle.clap.specs.declared.builder.command.Command.TheViews.{out-Command}
use Rattle.clap.specs.declared.builder.action.ArgAction.TheVariants.{Set}
use Rattle.line_words.specs.Rows.{NameRow, value_by_name}
use Rattle.command_line.specs.declared.options.Slot.{Slot}
use Rattle.command_line.specs.declared.words.Command.{Command}
use Rattle.command_line.specs.Options.{slot_word, slots}
use Rattle.command_line.specs.Reading.{WordsSaid, Values, reading_of_command}
use Rattle.command_line.specs.Words.{commands, with_value}

-- an option with this word after its hyphens takes one value, and clap finds the value by the word
abbrev pub rule_for : Text → Rule
rule_for word = record (new_rule word) { long = Some word; action = Some Set }

-- clap's command is this program
abbrev pub IsApp : App → clap.Command → Type 0
IsApp app command = app_of command ≡ app

-- clap's command has an option that holds for its subcommands too
abbrev pub has_globals : clap.Command → Bool
has_globals command = (out-Command command).has_globals

-- the options of slots, one after another
abbrev pub with_options : App → List Slot → App
with_options app [] = app
with_options app (slot ∷ rest) = with_options (with_rule app (rule_for (slot_word slot))) rest

-- a command with its options
abbrev pub subcommand_for : NameRow Command → App
subcommand_for r = with_options (new_app r.name) (slots r.value)

-- the commands of a table, one after another
abbrev pub with_subcommands : App → List (NameRow Command) → App
with_subcommands app [] = app
with_subcommands app (r ∷ rows) = with_subcommands (with_subcommand app (subcommand_for r).top) rows

-- the words begin with a command, and no word asks for help
abbrev pub top_level : Shape
top_level = record (new_app (codes "ibm1620")).top {
  no_binary_name = true;
  disable_help_flag = true;
  disable_help_subcommand = true;
}

-- the program while it has no command
abbrev pub top : App
top = record { top = top_level; subs = [] }

-- the program with its commands
abbrev pub program : App
program = with_subcommands top commands

-- the program with this command alone
abbrev pub program_for : NameRow Command → App
program_for r = with_subcommand top (subcommand_for r).top

-- the first value that was found for each slot
abbrev pub values_found : List Found → Values
values_found found slot = first_of (slot_word slot) found

-- a map with the text that was found for a slot
abbrev pub with_found : Slot → Option Text → Values → Values
with_found slot None values = values
with_found slot (Some text) values = with_value slot text values

-- the meaning of the command that was found, with its options
abbrev pub meaning_found : Option (Text × List Found) → Option WordsSaid
meaning_found None = None
meaning_found (Some p) = option_and_then (λ command. reading_of_command command (values_found p.1)) (value_by_name commands p.0)
