-- The promise of a trial.
use Rattle.std.proofs.Common.{◌≡◌, ◌≤◌, ℕ, false, List, [], ◌++◌, refl, sym, ◌∙◌, ap, subst, arith, inl, inr}
use Rattle.std.proofs.lemmas.List.{append-nil}
use Rattle.std.specs.Prelude.{◌⊎◌, Option, Some, None, IfSome, option_map}
use Rattle.outside_io.specs.declared.host.Unit.TheVariants as units
use Rattle.outside_io.specs.World.{Seen, Goes, world_after_put}
use Rattle.outside_io.specs.Whole.{Stops}
use Rattle.outside_io.specs.Events.{Event, text_events, DidAll}
use Rattle.outside_io.proofs.EventLemmas.{did_none, did_text, did_on, first_more}
use Rattle.digit_core.specs.Size.{size}
use Rattle.sps_pass_one.specs.Layout.{Refusal}
use Rattle.sps_pass_two.specs.Broken.{refusal_of}
use Rattle.sps_generator.specs.Generated.{source_deck}
use Rattle.deck_punch.specs.declared.form.DeckForm.TheVariants.{SelfLoading}
use Rattle.command_line.specs.declared.reading.Settings.{Settings}
use Rattle.ibm1620_cli.specs.declared.status.Status.{Status}
use Rattle.ibm1620_cli.specs.declared.answer.Answer.{Answer}
use Rattle.ibm1620_cli.specs.declared.status.Status.TheVariants.{HostFault, OutOfMemory}
use Rattle.ibm1620_cli.specs.Inputs.{reads_nothing}
use Rattle.ibm1620_cli.specs.Promise.{Job, answer_of, EndsWithAnswer, StopsAt, Promise, KeepsPromise}
use Rattle.ibm1620_cli.specs.Turns.{MachineFeed, feed_at, state_over, first_over, LoadedMachine, turns_job}
use Rattle.ibm1620_cli.specs.Program.{Program, Fits, deck_of, set_up_at_power_on, set_up_after_load, loaded_by}
use Rattle.ibm1620_cli.specs.Source.{card_count, program_of, made_of, made_events, promise_by, running_promise}
use Rattle.ibm1620_cli.specs.RunJob.{turned_promise}
use Rattle.ibm1620_cli.specs.TrialJob.{trial_modules, trial_settings, steps_of, trial_line, line_behind, job_of_trial, with_trial, tried_promise, trial_promise}
use Rattle.ibm1620_cli.specs.Parts.{RefusesSource, breaks, no_memory, ReportsBy, ReportsTrial, StopsWithin, LeavesUnread}
use Rattle.ibm1620_cli.proofs.ToldValues.{if_some, all_some, if_both}
use Rattle.ibm1620_cli.proofs.Leaving.{rest_reported}
use Rattle.ibm1620_cli.proofs.KeptPromises.{stops_reported, outline_reported, promise_memory, report_stays, stays_same}
use Rattle.ibm1620_cli.proofs.TurnPromises.{HasInputs, turns_inputs, ended_asks}
use Rattle.ibm1620_cli.proofs.Programs.{program_loaded}
use Rattle.ibm1620_cli.proofs.Makings.{made_take}
use Rattle.ibm1620_cli.proofs.Sources.{refused_promise}
use Rattle.ibm1620_cli.proofs.Runs.{promise_run_unwritten}

if_map : {A B : Type 0} (f : A → B) (o : Option A) (P : B → Type 0) → IfSome o (λ x. P (f x)) → IfSome (option_map f o) P
if_map f None P holds = tt
if_map f (Some x) P holds = holds

steps_fault : (s : Status) (n : ℕ) → s ≡ HostFault → steps_of s ≡ Some n → ⊥
steps_fault s n is counts = let none : steps_of s ≡ None = ap steps_of is in let both : None ≡ Some n = sym none ∙ counts in cc

steps_memory : (s : Status) (n : ℕ) → s ≡ OutOfMemory → steps_of s ≡ Some n → ⊥
steps_memory s n is counts = let none : steps_of s ≡ None = ap steps_of is in let both : None ≡ Some n = sym none ∙ counts in cc

module _ (settings : Settings) (cards : ℕ) (c : Promise) (start mid : Seen) (ran : Answer) where
  abbrev whole : Promise
  whole = with_trial settings cards c

  abbrev tried : Job → Job
  tried j = job_of_trial settings cards j

  -- the line behind a job that ends so
  line_by : (j : Job) (o : Option ℕ) → ran.status ≡ j.status → steps_of ran.status ≡ o → line_behind settings cards (steps_of j.status) ≡ line_behind settings cards o
  line_by j o same counts = ap (line_behind settings cards) (ap steps_of (sym same) ∙ counts)

  -- no line is added
  without : steps_of ran.status ≡ None → KeepsPromise c start mid ran → KeepsPromise whole start mid ran
  without none (inl own) = inl (record {
    own = own.own;
    usage_is = own.usage_is;
    all = if_map tried c.job (λ j. EndsWithAnswer j start mid ran) (if_some c.job (λ j all. record {
      status = all.status;
      did = subst (λ (ds : List Event). DidAll ds start.world mid.world) (sym (ap (λ (l : List ℕ). j.events ++ text_events units.Report l) (line_by j None all.status none) ∙ append-nil j.events)) all.did;
      rest = all.rest;
      refusal = all.refusal;
      statement = all.statement;
    }) own.all);
    outline = own.outline;
  })
  without none (inr (inl fault)) = inr (inl (record {
    status = fault.status;
    refusal = fault.refusal;
    statement = fault.statement;
    rose = fault.rose;
    part = if_map tried c.job (λ j. StopsAt j ran.console start.world mid.world) (if_some c.job (λ j stops. record {
      did = record {
        done = stops.did.done;
        part = first_more stops.did.done j.events (text_events units.Report (line_behind settings cards (steps_of j.status))) stops.did.part;
        did = stops.did.did;
      };
      inputs = stops.inputs;
    }) fault.part);
  }))
  without none (inr (inr lacks)) = inr (inr (record { words = lacks.words; plain = lacks.plain; done = lacks.done; did = lacks.did; makings = lacks.makings; part = lacks.part; unasked = lacks.unasked }))

  module _ (steps : ℕ) (counts : steps_of ran.status ≡ Some steps) where
    abbrev line : List ℕ
    line = trial_line settings cards steps

    -- the line is added
    with_done : (new : Seen) → Goes mid new (world_after_put units.Report line mid.world) → KeepsPromise c start mid ran → KeepsPromise whole start new ran
    with_done new goes (inl own) = inl (record {
      own = own.own;
      usage_is = own.usage_is;
      all = if_map tried c.job (λ j. EndsWithAnswer j start new ran) (if_some c.job (λ j all. record {
        status = all.status;
        did = subst (λ (l : List ℕ). DidAll (j.events ++ text_events units.Report l) start.world new.world) (sym (line_by j (Some steps) all.status counts))
            (did_on j.events (text_events units.Report line) start.world mid.world new.world all.did (did_text units.Report line mid.world new.world goes.world));
        rest = rest_reported j.rest ran.console mid new line goes all.rest;
        refusal = all.refusal;
        statement = all.statement;
      }) own.all);
      outline = outline_reported c.outline start.world mid new ran.status line goes own.outline;
    })
    with_done new goes (inr (inl fault)) = absurd (steps_fault ran.status steps fault.status counts)
    with_done new goes (inr (inr lacks)) = absurd (steps_memory ran.status steps (ap (λ (a : Answer). a.status) lacks.plain) counts)

    -- a part of it is
    with_part : (new : Seen) → start.faults ≤ mid.faults → ran.refusal ≡ None → ran.statement ≡ None → IfSome c.job HasInputs → Stops mid new units.Report line → KeepsPromise c start mid ran → KeepsPromise whole start new (record ran { status = HostFault })
    with_part new later unrefused unstated inputs stops (inl own) = inr (inl (record {
      status = refl;
      refusal = unrefused;
      statement = unstated;
      rose = omega (arith, later, stops.rose);
      part = if_map tried c.job (λ j. StopsAt j ran.console start.world new.world)
          (if_both c.job (λ j has all. stops_reported (tried j) j.events line ran.console start.world mid new (ap (λ (l : List ℕ). j.events ++ text_events units.Report l) (line_by j (Some steps) all.status counts)) all.did (ended_asks j start mid ran has all) stops) inputs own.all);
    }))
    with_part new later unrefused unstated inputs stops (inr (inl fault)) = absurd (steps_fault ran.status steps fault.status counts)
    with_part new later unrefused unstated inputs stops (inr (inr lacks)) = absurd (steps_memory ran.status steps (ap (λ (a : Answer). a.status) lacks.plain) counts)

  -- whatever was added
  promise_with : (new : Seen) (status : Status) → start.faults ≤ mid.faults → ran.refusal ≡ None → ran.statement ≡ None → IfSome c.job HasInputs → (o : Option ℕ) → steps_of ran.status ≡ o → ReportsBy o settings cards mid new ran.status status → KeepsPromise c start mid ran
      → KeepsPromise whole start new (record ran { status = status })
  promise_with new status later unrefused unstated inputs None none reports kept = rw (reports.0, reports.1) (without none kept)
  promise_with new status later unrefused unstated inputs (Some steps) counts (inl done) kept = rw done.0 (with_done steps counts new done.1 kept)
  promise_with new status later unrefused unstated inputs (Some steps) counts (inr stops) kept = rw stops.0 (with_part steps counts new later unrefused unstated inputs stops.1 kept)

-- the line binds nothing, and reads nothing
pub trial_stays : (o : Option ℕ) (settings : Settings) (cards : ℕ) (old new : Seen) (status answer : Status) → ReportsBy o settings cards old new status answer → LeavesUnread reads_nothing old.world new.world
trial_stays None settings cards old new status answer nothing = stays_same reads_nothing old new nothing.1
trial_stays (Some steps) settings cards old new status answer reports = report_stays old new status (trial_line settings cards steps) answer reports

-- Behind the source that was made, where it breaks no rule.
module _ (settings : Settings) (source : List ℕ) (start : Seen) where
  abbrev run : Promise
  run = turned_promise trial_modules (trial_settings settings) [] source start.world

  abbrev cards : ℕ
  cards = card_count trial_modules SelfLoading source

  abbrev program : Program
  program = program_of trial_modules SelfLoading source

  abbrev texts : List Event
  texts = made_events (made_of trial_modules SelfLoading source)

  abbrev loaded : MachineFeed → LoadedMachine
  loaded feed = loaded_by program feed (state_over start.world (set_up_at_power_on program feed)) (first_over start.world (set_up_after_load program feed) [])

  counts_none : (s : Status) (new : Seen) → ((s ≡ OutOfMemory) × (new ≡ start)) ⊎ ((s ≡ HostFault) × StopsWithin (made_events (made_of trial_modules SelfLoading source)) start new) → steps_of s ≡ None
  counts_none s new (inl lacks) = ap steps_of lacks.0
  counts_none s new (inr stops) = ap steps_of stops.0

  -- its texts are not written, or not all
  pub promise_untried : (new : Seen) (s : Status) → ((s ≡ OutOfMemory) × (new ≡ start)) ⊎ ((s ≡ HostFault) × StopsWithin (made_events (made_of trial_modules SelfLoading source)) start new) → KeepsPromise (tried_promise settings source start.world) start new (answer_of s)
  promise_untried new s fails = without settings cards run start new (answer_of s) (counts_none s new fails) (promise_run_unwritten trial_modules (trial_settings settings) [] source start new s fails)

  run_inputs : Fits program → IfSome run.job HasInputs
  run_inputs fits =
      if_map (λ feed. turns_job (Some (deck_of program)) texts (trial_settings settings).limit (loaded feed)) (feed_at start.world) HasInputs
      (all_some (feed_at start.world) (λ feed. turns_inputs (Some (deck_of program)) texts (trial_settings settings).limit (loaded feed) (made_take (made_of trial_modules SelfLoading source)) (program_loaded program fits start.world [] feed)))

  -- its program was run, and the line is added
  pub promise_tried : Fits program → (mid new : Seen) (ran : Answer) (status : Status) (count : ℕ) → count ≡ cards → start.faults ≤ mid.faults → ran.refusal ≡ None → ran.statement ≡ None → ReportsTrial settings count mid new ran.status status → KeepsPromise run start mid ran
      → KeepsPromise (tried_promise settings source start.world) start new (record ran { status = status })
  promise_tried fits mid new ran status count are later unrefused unstated reports kept =
      promise_with settings cards run start mid ran new status later unrefused unstated (run_inputs fits) (steps_of ran.status) refl
      (subst (λ (n : ℕ). ReportsTrial settings n mid new ran.status status) are reports) kept

-- Behind the making of the source.
module _ (settings : Settings) (start : Seen) where
  abbrev made : List ℕ
  made = source_deck settings.statements settings.number

  abbrev by : Option Refusal → Promise
  by o = promise_by (running_promise trial_modules (tried_promise settings)) made o start.world

  -- no memory was found
  plain_by : (o : Option Refusal) → (by o).usage ≡ false
  plain_by None = refl
  plain_by (Some r) = refl

  unbound_by : (o : Option Refusal) → (by o).made.bindings ≡ []
  unbound_by None = refl
  unbound_by (Some r) = refl

  pub trial_lacks : KeepsPromise (trial_promise settings start.world) start start (answer_of OutOfMemory)
  trial_lacks = promise_memory (by (refusal_of (size trial_modules) made)) start start (did_none start.world) (λ u read. refl) (unbound_by (refusal_of (size trial_modules) made)) (plain_by (refusal_of (size trial_modules) made))

  -- it breaks a rule, which is reported
  pub trial_refused : (new : Seen) (answer : Answer) → RefusesSource trial_modules made start new answer → KeepsPromise (trial_promise settings start.world) start new answer
  trial_refused new answer (breaks statement rule part broken reports) = refused_promise (running_promise trial_modules (tried_promise settings)) made (refusal_of (size trial_modules) made) start new statement rule part answer broken reports
  trial_refused new answer (no_memory is same) = rw (is, same) trial_lacks

  -- it breaks none
  pub trial_unbroken : (new : Seen) (answer : Answer) → refusal_of (size trial_modules) made ≡ None → KeepsPromise (running_promise trial_modules (tried_promise settings) made start.world) start new answer → KeepsPromise (trial_promise settings start.world) start new answer
  trial_unbroken new answer good kept = subst (λ (o : Option Refusal). KeepsPromise (by o) start new answer) (sym good) kept
