-- How jobs end, by what the program tells.
use Rattle.std.proofs.Common.{◌≡◌, ◌≢◌, ℕ, true, List, refl, ap, subst, ◌∙◌, inl, inr}
use Rattle.std.specs.Prelude.{◌⊎◌, Option, Some, None, IfSome, option_map, option_and_then, Result}
use Rattle.outside_io.specs.World.{World, Seen, all_units}
use Rattle.outside_io.specs.declared.host.Unit.TheVariants as units
use Rattle.digit_core.specs.Size.{size}
use Rattle.operator_script.specs.declared.turns.Ending.{Ending}
use Rattle.operator_script.specs.declared.turns.Ending.TheVariants as ending
use Rattle.sps_pass_one.specs.Layout.{Refusal}
use Rattle.sps_pass_two.specs.Broken.{refusal_of}
use Rattle.sps_generator.specs.Generated.{source_deck}
use Rattle.operator_script.specs.declared.script.ScriptLine.{ScriptLine}
use Rattle.console_debug.specs.declared.commands.DebugCommand as commands
use Rattle.command_line.specs.declared.words.Command.{Command}
use Rattle.command_line.specs.Words.{WordsSaid}
use Rattle.ibm1620_cli.specs.declared.status.Status.{Status}
use Rattle.ibm1620_cli.specs.declared.answer.Answer.{Answer}
use Rattle.ibm1620_cli.specs.declared.status.Status.TheVariants.{SessionEnded, HostFault, OutOfMemory}
use Rattle.ibm1620_cli.specs.Binding.{all_bound}
use Rattle.ibm1620_cli.specs.Promise.{Promise, promise_behind, Outline, outline_after, outline_read, KeepsOutline, OwnEnd, is_own, InputTexts, world_with_texts, AreTold}
use Rattle.ibm1620_cli.specs.Turns.{status_of, ends_a_run}
use Rattle.ibm1620_cli.specs.Source.{source_read, made_of, made_events, promise_by, running_promise, assembly_promise}
use Rattle.ibm1620_cli.specs.TrialJob.{trial_modules, tried_promise}
use Rattle.ibm1620_cli.specs.LoadJob.{script_read}
use Rattle.ibm1620_cli.specs.Sessions.{ends_a_session}
use Rattle.ibm1620_cli.specs.DebugJob.{commands_read, debugged_promise, commands_promise, lines_promise}
use Rattle.ibm1620_cli.specs.Job.{modules_of, bind_events, job_promise, said_promise, DoesSaid, DoesWords, TellsAnswer}
use Rattle.ibm1620_cli.proofs.ToldValues.{told_text}
use Rattle.ibm1620_cli.specs.Endings.{SaidTrial, is_refused, TrialEnds, SoundSession, SessionEnds}

-- a run that ends of its own ends in one of the six ways
pub own_ends : (steps : ℕ) (how : Ending) → is_own (status_of steps how) ≡ true → ends_a_run (status_of steps how) ≡ true
own_ends steps (ending.Halted at) own = refl
own_ends steps (ending.Stopped kind at) own = refl
own_ends steps ending.Limit own = refl
own_ends steps (ending.NeedCards at) own = refl
own_ends steps (ending.NeedKeys at) own = refl
own_ends steps (ending.Jam u line) own = refl
own_ends steps ending.Failed own = cc

-- a status with which a session ends is that of its end
session_end : (s : Status) → ends_a_session s ≡ true → s ≡ SessionEnded
session_end SessionEnded ends = refl
session_end other ends = cc

module _ (words : List (List ℕ)) (old new : Seen) (answer : Answer) (t : SaidTrial words) where
  abbrev w : World
  w = all_bound t.said.names old.world

  abbrev source : List ℕ
  source = source_deck t.said.settings.statements t.said.settings.number

  abbrev Ends : Type 0
  Ends = (ends_a_run answer.status ≡ true) ⊎ (is_refused answer.status ≡ true)

  -- by any texts of units that it doesn't read
  module _ (texts : InputTexts) where
    abbrev given : World
    given = world_with_texts texts w

    -- by the first broken statement of its source
    abbrev by : Option Refusal → Promise
    by o = promise_behind (bind_events all_units t.said.names) (promise_by (running_promise trial_modules (tried_promise t.said.settings)) source o given)

    promise_is : said_promise t.said given ≡ by (refusal_of (size trial_modules) source)
    promise_is = ap (λ (command : Command). promise_behind (bind_events all_units t.said.names) (job_promise (modules_of t.said.core) command t.said.settings given)) t.command

    by_source : (o : Option Refusal) → OwnEnd (by o) old new answer → Ends
    by_source (Some r) own = inr (ap is_refused own.all.status)
    by_source None own = inl own.outline.ends

  trial_said : DoesSaid t.said old new answer → answer.status ≢ HostFault → answer.status ≢ OutOfMemory → Ends
  trial_said kept unfailed found = elim kept.keeps [
    | inl own ↦ by_source kept.texts (refusal_of (size trial_modules) source) (subst (λ (c : Promise). OwnEnd c old new answer) (promise_is kept.texts) own)
    | inr (inl fault) ↦ absurd (unfailed fault.status)
    | inr (inr lacks) ↦ absurd (found (ap (λ (a : Answer). a.status) lacks.plain))
  ]

  pub trial_of : TellsAnswer words old new answer → answer.status ≢ HostFault → answer.status ≢ OutOfMemory → Ends
  trial_of (inl does) unfailed found = trial_said (subst (λ (o : Option WordsSaid). DoesWords o old new answer) t.said_is does) unfailed found
  trial_of (inr lacks) unfailed found = absurd (found lacks.0.lacks)

pub trial_told : (words : List (List ℕ)) (old new : Seen) (answer : Answer) → TellsAnswer words old new answer → TrialEnds words old new answer.status
trial_told words old new answer tells t unfailed found = trial_of words old new answer t tells unfailed found

module _ (words : List (List ℕ)) (old new : Seen) (answer : Answer) (t : SoundSession words old.world) where
  abbrev bound : World
  bound = all_bound t.said.names old.world

  abbrev m : ℕ
  m = modules_of t.said.core

  abbrev behind : Option Outline → Option Outline
  behind o = option_map (outline_after (bind_events all_units t.said.names)) o

  -- by any texts that are what is told
  module _ (texts : InputTexts) (told : AreTold texts bound) where
    abbrev here : World
    here = world_with_texts texts bound

    abbrev from_script : Result (List ScriptLine) Status → Option Outline
    from_script x = outline_read (λ lines. (lines_promise m t.said.settings lines here).outline) x

    abbrev from_commands : Result (List commands.DebugCommand) Status → Option Outline
    from_commands x = outline_read (λ cs. (commands_promise m t.said.settings t.lines cs here).outline) x

    abbrev from_source : Result (List ℕ) Status → Option Outline
    from_source x = outline_read (λ source. (assembly_promise m (running_promise m (debugged_promise m t.said.settings t.lines t.commands)) source here).outline) x

    outline_is : (said_promise t.said here).outline ≡ behind (Some (record { ends = ends_a_session; before = made_events (made_of m t.said.settings.form t.source) }))
    outline_is =
        ap (λ (command : Command). behind (job_promise m command t.said.settings here).outline) t.command
        ∙ ap (λ (left : Option (List ℕ)). behind (option_and_then (λ text. from_script (script_read m text)) left)) (told_text (bound.left units.Script) t.script texts.script t.script_is told.script)
        ∙ ap (λ (x : Result (List ScriptLine) Status). behind (from_script x)) t.lines_are
        ∙ ap (λ (left : Option (List ℕ)). behind (option_and_then (λ text. from_commands (commands_read m text)) left)) (told_text (bound.left units.Commands) t.text texts.commands t.text_is told.commands)
        ∙ ap (λ (x : Result (List commands.DebugCommand) Status). behind (from_commands x)) t.commands_are
        ∙ ap (λ (left : Option (List ℕ)). behind (option_and_then (λ text. from_source (source_read text)) left)) (told_text (bound.left units.Source) t.source texts.source t.source_is told.source)
        ∙ ap (λ (x : Result (List ℕ) Status). behind (from_source x)) t.source_fits
        ∙ ap (λ (x : Option Refusal). behind (promise_by (running_promise m (debugged_promise m t.said.settings t.lines t.commands)) t.source x here).outline) t.unbroken

  session_said : DoesSaid t.said old new answer → answer.status ≢ HostFault → answer.status ≢ OutOfMemory → answer.status ≡ SessionEnded
  session_said kept unfailed found = elim kept.keeps [
    | inl own ↦ session_end answer.status (subst (λ (o : Option Outline). IfSome o (λ x. KeepsOutline x old.world new.world answer.status)) (outline_is kept.texts kept.told) own.outline).ends
    | inr (inl fault) ↦ absurd (unfailed fault.status)
    | inr (inr lacks) ↦ absurd (found (ap (λ (a : Answer). a.status) lacks.plain))
  ]

  pub session_ends : TellsAnswer words old new answer → answer.status ≢ HostFault → answer.status ≢ OutOfMemory → answer.status ≡ SessionEnded
  session_ends (inl does) unfailed found = session_said (subst (λ (o : Option WordsSaid). DoesWords o old new answer) t.said_is does) unfailed found
  session_ends (inr lacks) unfailed found = absurd (found lacks.0.lacks)

pub session_told : (words : List (List ℕ)) (old new : Seen) (answer : Answer) → TellsAnswer words old new answer → SessionEnds words old new answer.status
session_told words old new answer tells t unfailed found = session_ends words old new answer t tells unfailed found
