-- The job trial: a source is made from two numbers, assembled and run, and a line reports its numbers, cards and steps.
use Rattle.std.specs.Prelude.{ℕ, List, [], ◌++◌, codes, decimal, Option, Some, None, option_map}
use Rattle.outside_io.specs.declared.host.Unit.TheVariants as units
use Rattle.outside_io.specs.World.{World, Seen}
use Rattle.outside_io.specs.Events.{text_events}
use Rattle.sps_generator.specs.Generated.{source_deck}
use Rattle.report_lines.specs.Numbers.{at_count}
use Rattle.deck_punch.specs.declared.form.DeckForm.TheVariants.{SelfLoading}
use Rattle.command_line.specs.Reading.{standard_limit}
use Rattle.command_line.specs.declared.reading.Settings.{Settings}
use Rattle.ibm1620_cli.specs.declared.status.Status.{Status}
use Rattle.ibm1620_cli.specs.declared.answer.Answer.{Answer}
use Rattle.ibm1620_cli.specs.declared.status.Status.TheVariants.{Halted, CheckStop, Limit, NeedCards, NeedKeys}
use Rattle.ibm1620_cli.specs.Promise.{Job, Promise, KeepsPromise}
use Rattle.ibm1620_cli.specs.Source.{card_count, running_promise, assembly_promise}
use Rattle.ibm1620_cli.specs.RunJob.{turned_promise}

-- a trial has one module of core
abbrev pub trial_modules : ℕ
trial_modules = 1

-- the settings of its run: the standard limit of steps, and a self-loading deck
abbrev pub trial_settings : Settings → Settings
trial_settings settings = record settings { limit = standard_limit; form = SelfLoading }

-- the steps that a status counts
abbrev pub steps_of : Status → Option ℕ
steps_of (Halted at steps) = Some steps
steps_of (CheckStop kind at steps) = Some steps
steps_of (Limit steps) = Some steps
steps_of (NeedCards at steps) = Some steps
steps_of (NeedKeys at steps) = Some steps
steps_of other = None

-- the line of a trial: the numbers of its source, the cards of its deck, and the steps of its run
abbrev pub trial_line : Settings → ℕ → ℕ → List ℕ
trial_line settings cards steps =
    codes "TRIAL STATEMENTS " ++ decimal settings.statements
    ++ codes " NUMBER " ++ decimal settings.number
    ++ codes " CARDS " ++ decimal cards
    ++ codes " STEPS " ++ at_count steps

-- the line after the report line, if the status counts steps
abbrev pub line_behind : Settings → ℕ → Option ℕ → List ℕ
line_behind settings cards None = []
line_behind settings cards (Some steps) = trial_line settings cards steps

-- the same job, with the line of a trial after all else that it does
abbrev pub job_of_trial : Settings → ℕ → Job → Job
job_of_trial settings cards j = record j {
  events = j.events ++ text_events units.Report (line_behind settings cards (steps_of j.status));
}

-- the same promise, with the line of a trial
abbrev pub with_trial : Settings → ℕ → Promise → Promise
with_trial settings cards c = record {
  job = option_map (job_of_trial settings cards) c.job;
  outline = c.outline;
  made = c.made;
  usage = c.usage;
}

-- the promise for the made source, if it breaks no rule
abbrev pub tried_promise : Settings → List ℕ → World → Promise
tried_promise settings source w =
    let run = turned_promise trial_modules (trial_settings settings) [] source w in
    with_trial settings (card_count trial_modules SelfLoading source) run

-- THE PROMISE OF A TRIAL, from the world in which its files are bound
abbrev pub trial_promise : Settings → World → Promise
trial_promise settings w =
    assembly_promise trial_modules (running_promise trial_modules (tried_promise settings))
    (source_deck settings.statements settings.number) w

-- What the functions of this job answer.

abbrev pub TriesAssembled : Settings → List ℕ → Seen → Seen → Answer → Type 0
TriesAssembled settings source old new answer = KeepsPromise (tried_promise settings source old.world) old new answer

abbrev pub TriesSource : Settings → Seen → Seen → Answer → Type 0
TriesSource settings old new answer = KeepsPromise (trial_promise settings old.world) old new answer
