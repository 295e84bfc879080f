-- The reading of values: the meaning of each slot's text, and the standard value of a slot without text.
use Rattle.std.specs.Prelude.{ℕ, List, [], ◌∷◌, Option, Some, None, option_and_then}
use Rattle.outside_io.specs.declared.host.Unit as unit
use Rattle.line_words.specs.Words.{largest_number, number_in}
use Rattle.line_words.specs.Rows.{NameRow, row, value_by_name}
use Rattle.command_line.specs.declared.options.Slot.{Slot}
use Rattle.command_line.specs.declared.options.Slot.TheVariants.{File, Limit, Statements, Number, Form, Core}
use Rattle.command_line.specs.declared.reading.Settings.{Settings}
use Rattle.command_line.specs.declared.words.Command.{Command}
use Rattle.deck_punch.specs.declared.form.DeckForm.{DeckForm}
use Rattle.deck_punch.specs.declared.form.DeckForm.TheVariants.{SelfLoading, Dense}
use Rattle.command_line.specs.declared.words.CoreSize.{CoreSize}
use Rattle.command_line.specs.declared.words.CoreSize.TheVariants.{OneModule, TwoModules, ThreeModules}

-- the text of each slot, if it has one
abbrev pub Values : Type 0
Values = Slot → Option (List ℕ)

-- the names of files, by their units
abbrev pub Names : Type 0
Names = unit.Unit → Option (List ℕ)

abbrev pub no_names : Names
no_names u = None

-- the meaning of plain words: a command, the names of the files, the settings of the job, and the size of core
pub record WordsSaid : Type 0 where
  pub command : Command
  pub names : Names
  pub settings : Settings
  pub core : CoreSize

-- how many steps a run makes at most if the words give no limit
abbrev pub standard_limit : ℕ
standard_limit = 1000000

-- the fewest and the most statements of a made source
abbrev pub fewest_made : ℕ
fewest_made = 8

abbrev pub most_made : ℕ
most_made = 1600

-- the greatest number that a source is made from
abbrev pub last_source : ℕ
last_source = 999999

-- THE TABLE of forms of an object deck
abbrev pub deck_forms : List (NameRow DeckForm)
deck_forms = row "self" SelfLoading ∷ row "dense" Dense ∷ []

-- THE TABLE of sizes of core
abbrev pub core_sizes : List (NameRow CoreSize)
core_sizes = row "20000" OneModule ∷ row "40000" TwoModules ∷ row "60000" ThreeModules ∷ []

-- the value of a text, and the standard value without a text
abbrev pub read_or : {A : Type 0} → (List ℕ → Option A) → A → Option (List ℕ) → Option A
read_or read standard None = Some standard
read_or read standard (Some text) = read text

abbrev pub limit_in : Values → Option ℕ
limit_in values = read_or (number_in 0 largest_number) standard_limit (values Limit)

-- how many statements a made source has: the least if the words don't say
abbrev pub statements_in : Values → Option ℕ
statements_in values = read_or (number_in fewest_made most_made) fewest_made (values Statements)

-- the number that a source is made from
abbrev pub number_read : Values → Option ℕ
number_read values = read_or (number_in 0 last_source) 0 (values Number)

abbrev pub form_in : Values → Option DeckForm
form_in values = read_or (value_by_name deck_forms) SelfLoading (values Form)

abbrev pub core_in : Values → Option CoreSize
core_in values = read_or (value_by_name core_sizes) OneModule (values Core)

abbrev pub with : {A B : Type 0} → Option A → (A → Option B) → Option B
with value next = option_and_then next value

-- the settings of a job, if each of them can be read
abbrev pub settings_in : Values → Option Settings
settings_in values =
    with (limit_in values) (λ limit.
    with (statements_in values) (λ statements.
    with (number_read values) (λ number.
    with (form_in values) (λ form.
    Some (record {
      limit = limit;
      statements = statements;
      number = number;
      form = form;
    })))))

-- the meaning of a command with these values, if each of them can be read
abbrev pub reading_of_command : Command → Values → Option WordsSaid
reading_of_command command values =
    with (settings_in values) (λ settings.
    with (core_in values) (λ core.
    Some (record {
      command = command;
      names = λ u. values (File u);
      settings = settings;
      core = core;
    })))
