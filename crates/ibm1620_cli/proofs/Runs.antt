-- The promise of a run: the texts of its source, and then the turns of its program.
use Rattle.std.proofs.Common.{◌≡◌, ℕ, ◌≤◌, false, List, [], ◌++◌, inl, inr, refl, sym, ◌∙◌, subst, append_assoc}
use Rattle.std.proofs.lemmas.List.{append-nil}
use Rattle.std.specs.Prelude.{◌⊎◌, Option, Some, None, IfSome, option_map}
use Rattle.outside_io.specs.declared.host.Unit.TheVariants as units
use Rattle.outside_io.specs.World.{World, Readings, Seen, Goes, world_after_take}
use Rattle.outside_io.specs.Events.{Event, after_events, text_events, DidAll, DidPart}
use Rattle.outside_io.proofs.EventLemmas.{same_of, did_none}
use Rattle.operator_script.specs.declared.script.ScriptLine.{ScriptLine}
use Rattle.operator_script.specs.TurnEvents.{run_events}
use Rattle.sps_pass_one.specs.Layout.{Refusal}
use Rattle.deck_punch.specs.declared.form.DeckForm.{DeckForm}
use Rattle.command_line.specs.declared.reading.Settings.{Settings}
use Rattle.ibm1620_cli.specs.declared.status.Status.{Status}
use Rattle.ibm1620_cli.specs.declared.answer.Answer.{Answer}
use Rattle.ibm1620_cli.specs.declared.status.Status.TheVariants.{HostFault, OutOfMemory}
use Rattle.ibm1620_cli.specs.Makings.{AreMakings}
use Rattle.ibm1620_cli.specs.Report.{report_line}
use Rattle.ibm1620_cli.specs.Promise.{Job, job_behind, outline_after, answer_of, Unasked, StopsAt, texts_alone, Promise, world_with_texts, InputTexts, KeepsPromise}
use Rattle.cpu_step.specs.State.{UnitTexts}
use Rattle.cpu_step.specs.Machine.{machine_texts}
use Rattle.ibm1620_cli.specs.Turns.{MachineFeed, feed_at, ends_a_run, LoadedMachine, turns_job, turns_promise, first_in}
use Rattle.ibm1620_cli.specs.Program.{deck_of, set_up_at_power_on, set_up_after_load, loaded_by, program_promise}
use Rattle.ibm1620_cli.specs.Source.{SourceTexts, program_of, made_of, made_events, events_by, events_of_source, events_at, promise_by, running_promise}
use Rattle.ibm1620_cli.specs.RunJob.{turned_promise, script_promise}
use Rattle.ibm1620_cli.specs.Parts.{StopsWithin}
use Rattle.ibm1620_cli.proofs.ToldValues.{map_twice}
use Rattle.ibm1620_cli.proofs.Writes.{stops_fails, stops_asked}
use Rattle.ibm1620_cli.proofs.TakenInputs.{goes_unasked, stops_unasked}
use Rattle.ibm1620_cli.proofs.KeptPromises.{promise_made, promise_memory}
use Rattle.ibm1620_cli.proofs.Sources.{FollowsSource, source_apart}
use Rattle.ibm1620_cli.proofs.Makings.{makings_of, made_take, made_world, made_keeps_texts}

-- BEHIND WHAT WAS DONE BEFORE

module _ {A : Type 0} (own : Option (List (List ℕ))) (before : List Event) (limit : ℕ) (loaded : A → LoadedMachine) (told : Option A) where
  -- behind texts that were made
  abbrev made_behind : Promise
  made_behind = record { job = option_map (job_behind before) (turns_promise own [] limit loaded told).job; outline = option_map (outline_after before) (turns_promise own [] limit loaded told).outline; made = texts_alone (Some (before ++ [])); usage = false }

  job_is : (a : A) → job_behind before (turns_job own [] limit (loaded a)) ≡ turns_job own before limit (loaded a)
  job_is a =
      let j : Job = turns_job own before limit (loaded a) in
      λ i. record j { events = sym (append_assoc before ((loaded a).taken ++ run_events limit (loaded a).first) (text_events units.Report (report_line j.status))) i }

  behind_is : made_behind ≡ turns_promise own before limit loaded told
  behind_is = λ i. record {
    job = (map_twice told (job_behind before) (λ a. turns_job own [] limit (loaded a)) ∙ (λ k. option_map (λ a. job_is a k) told)) i;
    outline = Some (record { ends = ends_a_run; before = append-nil before i });
    made = texts_alone (Some (append-nil before i));
    usage = false;
  }

  pub turns_behind : (start mid new : Seen) → start.faults ≤ mid.faults → DidAll before start.world mid.world → Unasked start.world mid.world → AreMakings before → (answer : Answer) → KeepsPromise (turns_promise own [] limit loaded told) mid new answer → KeepsPromise (turns_promise own before limit loaded told) start new answer
  turns_behind start mid new later did still makings answer kept =
      subst (λ (c : Promise). KeepsPromise c start new answer) behind_is (promise_made before makings (turns_promise own [] limit loaded told).job (turns_promise own [] limit loaded told).outline [] start mid new later did still answer kept)

module _ (m : ℕ) (settings : Settings) (lines : List ScriptLine) (source : List ℕ) where
  abbrev made : SourceTexts
  made = made_of m settings.form source

  abbrev deck : List (List ℕ)
  deck = deck_of (program_of m settings.form source)

  abbrev loaded_at : UnitTexts → MachineFeed → LoadedMachine
  loaded_at texts feed = loaded_by (program_of m settings.form source) feed (set_up_at_power_on (program_of m settings.form source) feed texts) (first_in (set_up_after_load (program_of m settings.form source) feed texts) lines)

  abbrev loaded : World → MachineFeed → LoadedMachine
  loaded w feed = loaded_at (machine_texts w) feed

  -- the texts are written, and then the turns are taken
  pub promise_run_behind : (start mid new : Seen) (answer : Answer) → Goes start mid (after_events start.world (made_events made))
      → KeepsPromise (program_promise [] settings.limit lines (program_of m settings.form source) mid.world) mid new answer → KeepsPromise (turned_promise m settings lines source start.world) start new answer
  promise_run_behind start mid new answer goes kept =
      turns_behind (Some deck) (made_events made) settings.limit (loaded start.world) (feed_at start.world) start mid new goes.later
      (same_of mid.world (after_events start.world (made_events made)) goes.world) (goes_unasked (made_events made) start mid goes) (makings_of made) answer
      (subst (λ (texts : UnitTexts). KeepsPromise (turns_promise (Some deck) [] settings.limit (loaded_at texts) (feed_at start.world)) mid new answer) (made_keeps_texts made start.world)
      (subst (λ (v : World). KeepsPromise (turns_promise (Some deck) [] settings.limit (loaded v) (feed_at v)) mid new answer) (goes.world ∙ made_world made start.world) kept))

  job_part : (o : Option MachineFeed) (at : MachineFeed → LoadedMachine) (start new : Seen) → Unasked start.world new.world → DidPart (made_events made) start.world new.world → IfSome (option_map (λ feed. turns_job (Some deck) (made_events made) settings.limit (at feed)) o) (λ j. StopsAt j None start.world new.world)
  job_part None at start new still p = tt
  job_part (Some feed) at start new still p =
      stops_unasked (turns_job (Some deck) (made_events made) settings.limit (at feed)) (made_events made) _ start.world new.world (append_assoc (made_events made) ((at feed).taken ++ run_events settings.limit (at feed).first) _) (made_take made) still p

  -- or they are not
  pub promise_run_unwritten : (start new : Seen) (s : Status) → ((s ≡ OutOfMemory) × (new ≡ start)) ⊎ ((s ≡ HostFault) × StopsWithin (made_events made) start new) → KeepsPromise (turned_promise m settings lines source start.world) start new (answer_of s)
  promise_run_unwritten start new s (inl lacks) = rw (lacks.0, lacks.1) (promise_memory (turned_promise m settings lines source start.world) start start (did_none start.world) (λ u read. refl) refl refl)
  promise_run_unwritten start new s (inr stops) =
      let fails = stops_fails (made_events made) start new stops.1 in
      inr (inl (record { status = stops.0; refusal = refl; statement = refl; rose = fails.rose; part = job_part (feed_at start.world) (loaded start.world) start new (stops_asked (made_events made) start new stops.1) fails.part }))

-- what is done behind the script is so whatever was taken from it, and whatever it was
pub run_apart : (m : ℕ) (settings : Settings) (lines : List ScriptLine) (gone : Readings) (script : List ℕ) (t : InputTexts) (w : World) → script_promise m settings lines (world_with_texts t (world_after_take units.Script gone w)) ≡ script_promise m settings lines (world_with_texts (record t { script = script }) w)
run_apart m settings lines gone script t w = source_apart m (events_at m settings.form) (running_promise m (turned_promise m settings lines)) (world_with_texts t (world_after_take units.Script gone w)) (world_with_texts (record t { script = script }) w) refl refl (λ source. refl)

-- the texts that may be there where no memory was found
made_texts : (m : ℕ) (settings : Settings) (lines : List ScriptLine) (source : List ℕ) (o : Option Refusal) (w : World) (P : List Event → Type 0) → IfSome (promise_by (turned_promise m settings lines) source o w).made.texts P → P (events_by m settings.form o source)
made_texts m settings lines source None w P is = is
made_texts m settings lines source (Some r) w P is = is

told_texts : (m : ℕ) (form : DeckForm) (source : List ℕ) (left : Option (List ℕ)) (P : List Event → Type 0) → IfSome left (λ text. text ≡ source) → P (events_of_source m form source) → IfSome (option_map (events_of_source m form) left) P
told_texts m form source None P told holds = tt
told_texts m form source (Some text) P told holds = subst (λ (t : List ℕ). P (events_of_source m form t)) (sym told) holds

pub turned_follows : (m : ℕ) (settings : Settings) (lines : List ScriptLine) (source : List ℕ) → FollowsSource m (events_at m settings.form) (turned_promise m settings lines) source
turned_follows m settings lines source = record {
  plain = λ w. refl;
  unbound = λ w. refl;
  apart = λ gone t w. refl;
  texts = λ o w P good told here. told_texts m settings.form source (w.left units.Source) P told (subst (λ (x : Option Refusal). P (events_by m settings.form x source)) (sym good) (made_texts m settings lines source o w P here));
}
