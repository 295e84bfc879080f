-- The headline, by what the program tells.
use Rattle.deck_punch.specs.declared.form.DeckForm.{DeckForm}
use Rattle.std.proofs.Common.{◌≡◌, ◌≢◌, ℕ, Bool, true, false, List, [], ◌∷◌, ◌++◌, refl, sym, append_assoc, ap, subst, ◌∙◌, arith, inl, inr}
use Rattle.std.specs.Prelude.{Option, Some, None, IfSome, option_map, option_and_then, Result, Ok}
use Rattle.std.proofs.lemmas.Bool.{true≢false}
use Rattle.outside_io.specs.declared.host.Unit as unit
use Rattle.outside_io.specs.declared.host.Unit.TheVariants as units
use Rattle.outside_io.specs.declared.host.TheConstants.{UNIT_COUNT}
use Rattle.outside_io.specs.World.{World, Seen, Rose, IsFresh, HasNoText, all_units}
use Rattle.outside_io.specs.Events.{Event, after_events, text_events, DidAll, DidPart}
use Rattle.outside_io.proofs.EventLemmas.{after_append}
use Rattle.digit_core.specs.Size.{IsSize, size}
use Rattle.cpu_step.specs.State.{State}
use Rattle.operator_script.specs.declared.script.ScriptLine.{ScriptLine}
use Rattle.operator_script.specs.Turn.{RunPlace, last_place, most_turns, ending_of}
use Rattle.operator_script.specs.TurnEvents.{run_events}
use Rattle.card_steps.specs.Steps.{deck_taken}
use Rattle.sps_pass_one.specs.Layout.{Refusal, symbols_of, statements_of}
use Rattle.sps_pass_two.specs.Broken.{refusal_of}
use Rattle.sps_pass_two.specs.Image.{cells_from}
use Rattle.sps_pass_two.specs.Assembled.{fields_of, start_in}
use Rattle.sps_pass_two.proofs.Program.{is_image, is_program, within, start_fits}
use Rattle.command_line.specs.Words.{Names, WordsSaid}
use Rattle.command_line.specs.declared.words.Command.{Command}
use Rattle.command_line.specs.declared.words.CoreSize.{CoreSize}
use Rattle.command_line.specs.declared.words.CoreSize.TheVariants.{OneModule, TwoModules, ThreeModules}
use Rattle.ibm1620_cli.specs.declared.status.Status.{Status}
use Rattle.ibm1620_cli.specs.declared.answer.Answer.{Answer}
use Rattle.ibm1620_cli.specs.declared.status.Status.TheVariants.{HostFault, OutOfMemory}
use Rattle.ibm1620_cli.specs.Report.{report_line}
use Rattle.ibm1620_cli.specs.Binding.{all_bound}
use Rattle.ibm1620_cli.specs.Promise.{Job, job_read, job_behind, job_with_program, EndsWithAnswer, StopsAt, is_own, InputTexts, world_with_texts, AreTold}
use Rattle.ibm1620_cli.specs.Turns.{MachineFeed, SetUp, ends_a_run, state_over, first_over, turns_job}
use Rattle.ibm1620_cli.specs.Program.{Program, Fits, deck_of, loaded_by, set_up_at_power_on, set_up_after_load, set_up_at_start}
use Rattle.ibm1620_cli.specs.Source.{source_read, program_of, texts_of_program, made_of, made_events, promise_by, running_promise, assembly_promise}
use Rattle.ibm1620_cli.specs.LoadJob.{script_read}
use Rattle.ibm1620_cli.specs.RunJob.{turned_promise, script_promise}
use Rattle.ibm1620_cli.specs.Job.{modules_of, job_promise, bind_event, bind_events, said_promise, DoesSaid, DoesWords, TellsAnswer}
use Rattle.ibm1620_cli.specs.Headline.{bytes_in, SoundRun, job_in, DoesProgram, Headline}
use Rattle.ibm1620_cli.proofs.ToldValues.{told_text}
use Rattle.ibm1620_cli.proofs.Scripts.{short_read}
use Rattle.ibm1620_cli.proofs.Sources.{short_source}
use Rattle.ibm1620_cli.proofs.Forms.{loads_in}
use Rattle.ibm1620_cli.proofs.Entering.{same_set_up}
use Rattle.ibm1620_cli.proofs.Bindings.{first_none}
use Rattle.ibm1620_cli.proofs.Endings.{own_ends}
use Rattle.ibm1620_cli.proofs.Jobs.{all_after}
use Rattle.ibm1620_cli.specs.Inputs.{reads_pack}
use Rattle.ibm1620_cli.proofs.Writes.{AreWrites, writes_both, writes_text, writes_within, written_as, only_those}
use Rattle.ibm1620_cli.proofs.Makings.{made_writes}

-- the sizes that words say exist
pub modules_exist : (core : CoreSize) → IsSize (modules_of core)
modules_exist OneModule = (omega arith, omega arith)
modules_exist TwoModules = (omega arith, omega arith)
modules_exist ThreeModules = (omega arith, omega arith)

-- a source that breaks no rule comes to a program that fits
pub fits_of : (m : ℕ) → IsSize m → (form : DeckForm) → (source : List ℕ) → refusal_of (size m) source ≡ None → Fits (program_of m form source)
fits_of m sized form source good =
    let cells = cells_from (fields_of (size m) source) 0 (size m) in
    let image = is_image (size m) source good (omega (arith, sized.1)) cells refl in
    let program = is_program (size m) source good (omega (arith, sized.1)) cells refl (start_in (symbols_of source) (statements_of source)) refl in
    let fits = start_fits (size m) source good (omega (arith, sized.1)) cells refl (start_in (symbols_of source) (statements_of source)) refl in
    record { sized = sized; each = image.each; above = program.above; below = within (size m) source good (omega (arith, sized.1)) cells refl; start_below = omega (arith, fits) }

-- bindings write no byte
bind_bytes : (u v : unit.Unit) (o : Option (List ℕ)) (ds : List Event) → bytes_in u (bind_event v o ++ ds) ≡ bytes_in u ds
bind_bytes u v None ds = refl
bind_bytes u v (Some name) ds = refl

binds_bytes : (u : unit.Unit) (us : List unit.Unit) (names : Names) (ds : List Event) → bytes_in u (bind_events us names ++ ds) ≡ bytes_in u ds
binds_bytes u [] names ds = refl
binds_bytes u (v ∷ us) names ds = ap (bytes_in u) (append_assoc (bind_event v (names v)) (bind_events us names) ds) ∙ bind_bytes u v (names v) (bind_events us names ++ ds) ∙ binds_bytes u us names ds

-- the two statuses that are no end of a job's own differ
abbrev is_host_fault : Status → Bool
is_host_fault HostFault = true
is_host_fault status = false

memory_is_no_fault : OutOfMemory ≡ HostFault → ⊥
memory_is_no_fault same = true≢false (sym (ap is_host_fault same))

-- behind all bindings each told text is what the events write on its unit, where no text had a byte
pub texts_behind : (names : Names) (ds : List Event) (old new : World) → HasNoText old → AreWrites ds → DidAll (bind_events all_units names ++ ds) old new → (u : unit.Unit) → IfSome (new.written u) (λ text. text ≡ bytes_in u (bind_events all_units names ++ ds))
texts_behind names ds old new none are did u =
    let bound : World = all_bound names old in
    let world : after_events old (bind_events all_units names ++ ds) ≡ after_events bound ds =
    after_append (bind_events all_units names) ds old ∙ ap (λ (w : World). after_events w ds) (all_after all_units names old) in
    let is : new.written u ≡ option_map (λ t. t ++ bytes_in u ds) (bound.written u) =
    ap (λ (f : unit.Unit → Option (List ℕ)). f u) did.written ∙ ap (λ (w : World). w.written u) world ∙ written_as u ds bound are in
    subst (λ (bytes : List ℕ). IfSome (new.written u) (λ text. text ≡ bytes)) (sym (binds_bytes u all_units names ds))
    (subst (λ (o : Option (List ℕ)). IfSome o (λ text. text ≡ bytes_in u ds)) (sym is) (only_those (bound.written u) (bytes_in u ds) (first_none UNIT_COUNT names old none u)))

-- no file is bound where the cards of a deck are taken
writes_taken : (deck : List (List ℕ)) → AreWrites (deck_taken deck)
writes_taken [] = tt
writes_taken (card ∷ cards) = writes_taken cards

module _ (words : List (List ℕ)) (old new : Seen) (answer : Answer) (r : SoundRun words old.world) where
  abbrev m : ℕ
  m = modules_of r.said.core

  abbrev p : Program
  p = program_of m r.said.settings.form r.source

  fits : Fits p
  fits = fits_of m (modules_exist r.said.core) r.said.settings.form r.source r.unbroken

  abbrev w : World
  w = all_bound r.said.names old.world

  abbrev made : List Event
  made = made_events (made_of m r.said.settings.form r.source)

  abbrev binds : List Event
  binds = bind_events all_units r.said.names

  abbrev first : SetUp → RunPlace
  first s = first_over w s r.lines

  abbrev powered : MachineFeed → State
  powered feed = state_over w (set_up_at_power_on p feed)

  abbrev with_program : Job → Job
  with_program j = job_with_program (texts_of_program m r.source) j

  abbrev whole : SetUp → Job
  whole s = job_behind binds (with_program (turns_job (Some (deck_of p)) made r.said.settings.limit (loaded_by p r.feed (powered r.feed) (first s))))

  -- by any texts that are what is told
  module _ (t : InputTexts) (told : AreTold t w) where
    abbrev given : World
    given = world_with_texts t w

    abbrev by_script : Result (List ScriptLine) Status → Option Job
    by_script x = job_read (λ lines. (script_promise m r.said.settings lines given).job) x

    abbrev by_source : Result (List ℕ) Status → Option Job
    by_source x = job_read (λ source. (assembly_promise m (running_promise m (turned_promise m r.said.settings r.lines)) source given).job) x

    job_is : (said_promise r.said given).job ≡ Some (whole (set_up_after_load p r.feed))
    job_is =
        ap (λ (command : Command). option_map (job_behind binds) (job_promise m command r.said.settings given).job) r.command
        ∙ ap (λ (left : Option (List ℕ)). option_map (job_behind binds) (option_and_then (λ text. by_script (script_read m text)) left)) (told_text (w.left units.Script) r.script t.script r.script_is told.script)
        ∙ ap (λ (x : Result (List ScriptLine) Status). option_map (job_behind binds) (by_script x)) (short_read m r.script (Ok r.lines) r.script_fits r.lines_are)
        ∙ ap (λ (left : Option (List ℕ)). option_map (job_behind binds) (option_and_then (λ text. by_source (source_read text)) left)) (told_text (w.left units.Source) r.source t.source r.source_is told.source)
        ∙ ap (λ (x : Result (List ℕ) Status). option_map (job_behind binds) (by_source x)) (short_source r.source r.source_fits)
        ∙ ap (λ (x : Option Refusal). option_map (job_behind binds) (promise_by (running_promise m (turned_promise m r.said.settings r.lines)) r.source x given).job) r.unbroken
        ∙ ap (λ (o : Option MachineFeed). option_map (job_behind binds) (option_map with_program (option_map (λ feed. turns_job (Some (deck_of p)) made r.said.settings.limit (loaded_by p feed (powered feed) (first (set_up_after_load p feed)))) o))) r.feed_is

  set_up_is : set_up_after_load p r.feed ≡ set_up_at_start p r.feed
  set_up_is = λ i. same_set_up p fits i r.feed

  -- the turns begin in the program's own machine
  entered_is : (t : InputTexts) → AreTold t w → (said_promise r.said (world_with_texts t w)).job ≡ Some (job_in r)
  entered_is t told = job_is t told ∙ ap (λ (s : SetUp). Some (whole s)) set_up_is

  abbrev place : RunPlace
  place = first (set_up_at_start p r.feed)

  -- what the turns and the loading before them do
  abbrev done : List Event
  done = made ++ (deck_taken (deck_of p) ++ run_events r.said.settings.limit place)

  writes : AreWrites (done ++ text_events units.Report (report_line (job_in r).status))
  writes =
      writes_both reads_pack done (text_events units.Report (report_line (job_in r).status))
      (writes_both reads_pack made (deck_taken (deck_of p) ++ run_events r.said.settings.limit place) (made_writes (made_of m r.said.settings.form r.source) reads_pack)
      (writes_both reads_pack (deck_taken (deck_of p)) (run_events r.said.settings.limit place) (writes_taken (deck_of p)) (writes_within r.said.settings.limit (most_turns r.said.settings.limit place) place)))
      (writes_text reads_pack units.Report (report_line (job_in r).status))

  by_does : IsFresh old.world → is_own answer.status ≡ true → EndsWithAnswer (job_in r) old new answer → DoesProgram old r new answer
  by_does fresh own does = record {
    loads = loads_in p.form p.image p.start fits.each fits.above;
    enters = set_up_is;
    does = does;
    texts = texts_behind r.said.names (done ++ text_events units.Report (report_line (job_in r).status)) old.world new.world fresh.empty writes does.did;
    ending = subst (λ (s : Status). ends_a_run s ≡ true) (sym does.status) (own_ends (last_place r.said.settings.limit place).steps (ending_of (last_place r.said.settings.limit place).state) (subst (λ (s : Status). is_own s ≡ true) does.status own));
  }

  -- after a host fault the count rose, and a first part of the job was done
  fault_said : DoesSaid r.said old new answer → answer.status ≡ HostFault → Rose old.faults new.faults × DidPart (job_in r).events old.world new.world
  fault_said kept failed = elim kept.keeps [
    | inl own ↦ absurd (true≢false (sym own.own ∙ ap is_own failed))
    | inr (inl fault) ↦ (fault.rose, (subst (λ (o : Option Job). IfSome o (λ j. StopsAt j answer.console old.world new.world)) (entered_is kept.texts kept.told) fault.part).did)
    | inr (inr lacks) ↦ absurd (memory_is_no_fault (sym (ap (λ (a : Answer). a.status) lacks.plain) ∙ failed))
  ]

  pub fault_told : TellsAnswer words old new answer → answer.status ≡ HostFault → Rose old.faults new.faults × DidPart (job_in r).events old.world new.world
  fault_told (inl does) failed = fault_said (subst (λ (o : Option WordsSaid). DoesWords o old new answer) r.said_is does) failed
  fault_told (inr lacks) failed = absurd (memory_is_no_fault (sym lacks.0.lacks ∙ failed))

  of_said : IsFresh old.world → DoesSaid r.said old new answer → answer.status ≢ HostFault → answer.status ≢ OutOfMemory → DoesProgram old r new answer
  of_said fresh kept unfailed found = elim kept.keeps [
    | inl own ↦ by_does fresh own.own (subst (λ (o : Option Job). IfSome o (λ j. EndsWithAnswer j old new answer)) (entered_is kept.texts kept.told) own.all)
    | inr (inl fault) ↦ absurd (unfailed fault.status)
    | inr (inr lacks) ↦ absurd (found (ap (λ (a : Answer). a.status) lacks.plain))
  ]

  pub of_told : IsFresh old.world → TellsAnswer words old new answer → answer.status ≢ HostFault → answer.status ≢ OutOfMemory → DoesProgram old r new answer
  of_told fresh (inl does) unfailed found = of_said fresh (subst (λ (o : Option WordsSaid). DoesWords o old new answer) r.said_is does) unfailed found
  of_told fresh (inr lacks) unfailed found = absurd (found lacks.0.lacks)

pub headline_told : (words : List (List ℕ)) (old new : Seen) (answer : Answer) → IsFresh old.world → TellsAnswer words old new answer → Headline words old new answer
headline_told words old new answer fresh tells r unfailed found = of_told words old new answer r fresh tells unfailed found
