-- The promises of a machine that is powered on over a hopper, makes the steps of a deck, and takes the turns.
use Rattle.std.proofs.Common.{◌≡◌, ℕ, ◌≤◌, Bool, true, List, [], ◌++◌, take, inl, inr, refl, sym, ◌∙◌, ap, subst, arith}
use Rattle.std.proofs.lemmas.List.{append-nil}
use Rattle.std.specs.Prelude.{Option, Some, None, is_some, IfSome, option_map}
use Rattle.outside_io.specs.declared.host.Unit as unit
use Rattle.outside_io.specs.declared.host.Unit.TheVariants as units
use Rattle.outside_io.specs.World.{World, Seen, Rose, same_unit}
use Rattle.outside_io.specs.Frame.{Keeps}
use Rattle.outside_io.specs.Events.{Event, after_events, DidAll}
use Rattle.outside_io.proofs.EventLemmas.{after_append, did_on, first_on, first_more}
use Rattle.card_code.specs.Entries.{Entry}
use Rattle.card_unit.specs.declared.hopper.Hopper.{Hopper}
use Rattle.card_unit.specs.Hopper.{deck_left, own_cards, IsNewHopper}
use Rattle.cpu_step.specs.declared.machine.Machine.{Machine}
use Rattle.cpu_step.specs.declared.console.Console.{Console}
use Rattle.cpu_step.specs.State.{State}
use Rattle.cpu_step.specs.Effects.{Effect}
use Rattle.cpu_step.specs.Load.{state_for_load, load_trace, load_key, load_cut}
use Rattle.cpu_step.specs.Outside.{all_outside, load_events}
use Rattle.cpu_step.specs.Machine.{machine_texts, state_of, IsPowered, Frames, FramesBut, is_read, is_written}
use Rattle.cpu_step.specs.Console.{shown_on}
use Rattle.cpu_step.proofs.ExactCards.{exact, states_told, frames_both}
use Rattle.cpu_step.proofs.InputsTaken.{HasTaken, taken_on, load_taken, load_cut_taken}
use Rattle.cpu_step.proofs.Outside.{seen_by, load_seen, load_cut_seen, first_effects, did_between}
use Rattle.operator_script.specs.declared.script.Script.{Script}
use Rattle.operator_script.specs.declared.script.ScriptLine.{ScriptLine}
use Rattle.operator_script.specs.declared.turns.Ending.{Ending}
use Rattle.operator_script.specs.declared.turns.Ending.TheVariants as ending
use Rattle.operator_script.specs.Scripts.{lines_left}
use Rattle.operator_script.specs.Turn.{RunPlace, last_place, most_turns, IsLast, IsOnTheWay}
use Rattle.operator_script.specs.TurnEvents.{run_events}
use Rattle.operator_script.specs.Run.{RunState, run_state, moment_at, place_of, RunsOut, BreaksOff, Runs}
use Rattle.operator_script.proofs.ByEnding.{either, not_failed}
use Rattle.operator_script.proofs.LastPlace.{last_is}
use Rattle.operator_script.proofs.Running.{place_is}
use Rattle.operator_script.proofs.TurnEventLemmas.{DoesPart, last_does, last_takes, way_did}
use Rattle.sps_pass_two.specs.Assembled.{PlacedText}
use Rattle.console_debug.specs.declared.commands.Commands.{Commands}
use Rattle.ibm1620_cli.specs.declared.status.Status.{Status}
use Rattle.ibm1620_cli.specs.declared.status.Status.TheVariants.{HostFault, OutOfMemory, SessionEnded}
use Rattle.ibm1620_cli.specs.declared.answer.Answer.{Answer}
use Rattle.ibm1620_cli.specs.Report.{report_line}
use Rattle.ibm1620_cli.specs.Makings.{AreMakings}
use Rattle.ibm1620_cli.specs.Inputs.{reads_feed, reads_pack}
use Rattle.ibm1620_cli.specs.Ways.{Way, StandsOn, StandsInRun, in_key, in_deck}
use Rattle.ibm1620_cli.specs.Promise.{job_leaving, answer_of, answer_with, TakesNone, Unasked, StopsAt, Promise, KeepsPromise}
use Rattle.ibm1620_cli.specs.Turns.{MachineFeed, state_over_feed, first_in, status_of, LoadedMachine, turns_job, turns_promise}
use Rattle.ibm1620_cli.specs.Parts.{ReportsAs, ShowsMachine, BreaksKey, PressesKey, BreaksSteps, MakesSteps, TakesTurns, Executes, HoldsSession, lacks_memory, breaks_key, breaks_steps, takes_turns, breaks_session, ends_session, LeavesUnread}
use Rattle.ibm1620_cli.proofs.SetUps.{set_up_after_steps, machine_after_steps}
use Rattle.ibm1620_cli.proofs.ToldValues.{if_some, if_both, if_told, if_mapped, of_map, map_twice, none_told}
use Rattle.ibm1620_cli.proofs.KeptPromises.{once_same, report_stays, stays_on, stays_again, stays_same, neither}
use Rattle.ibm1620_cli.proofs.TakenInputs.{makings_take, taken_behind}
use Rattle.ibm1620_cli.proofs.Leaving.{Supply, rest_at, HasReadOf, powered_reads, frames_read, machine_asks}
use Rattle.ibm1620_cli.proofs.TurnPromises.{IsLoaded, supply_of, way_of, promise_run}

-- where a run ended, its machine shows the last place's state
ran_by : {A : Type 0} (k : ℕ) (o : Option A) (x here : Option RunPlace) (y z : Option State) (g : A → RunPlace) (how : Ending) → z ≡ option_map (λ a. (g a).state) o → x ≡ option_map g o → is_some y ≡ is_some z
    → ((q : RunPlace) → here ≡ Some q → y ≡ Some q.state) → IfSome x (λ first. (n : ℕ) × (q : RunPlace) × (here ≡ Some q) × IsLast k first n q how)
    → ((a : A) → (g a).steps ≤ k) → y ≡ option_map (λ a. (last_place k (g a)).state) o
ran_by k None x here y z g how z_is x_is told place last each = none_told y (told ∙ ap is_some z_is)
ran_by {A = A} k (Some a) x here y z g how z_is x_is told place last each =
    let found = subst (λ (b : Option RunPlace). IfSome b (λ first. (n : ℕ) × (q : RunPlace) × (here ≡ Some q) × IsLast k first n q how)) x_is last in
    let over : last_place k (g a) ≡ found.1 = last_is k (g a) found.0 found.1 how (each a) found.3 in
    place found.1 found.2 ∙ ap (λ (q : RunPlace). Some q.state) (sym over)

-- what a machine leaves is bound as before, and of the inputs it reads its own alone
pub frames_stay : {may_write : unit.Unit → Bool} (m : ℕ) (old new : Machine m) (before after : Seen) → FramesBut may_write m old new before after → LeavesUnread reads_feed before.world after.world
frames_stay m old new before after frames = record { in_use = frames.keeps.in_use; names = frames.keeps.names; left = λ u unread. frames.keeps.left u (neither (is_read u) (reads_pack u) unread).0; sectors = λ none. cc; asked = λ u unread. frames.keeps.asked u (neither (is_read u) (reads_pack u) unread).0; once = λ u fed. once_same _ _ (frames.keeps.asked u (neither (is_read u) (reads_pack u) fed).0) }

-- what stays in a run, however it ends
run_frames : (m limit : ℕ) (old new : RunState m) (before after : Seen) (how : Ending) → Runs m limit (moment_at m old before) (moment_at m new after) how → Frames m old.machine new.machine before after
run_frames m limit old new before after how runs =
    either (BreaksOff m limit (moment_at m old before) (moment_at m new after)) (RunsOut m limit (moment_at m old before) (moment_at m new after)) (λ e. Frames m old.machine new.machine before after)
    (λ broke. broke.frames) (λ e other out. out.frames) how runs

turns_stay : (m limit : ℕ) (machine : Machine m) (script : Script) (old new : Seen) (answer : Answer) → TakesTurns m limit machine script old new answer → LeavesUnread reads_feed old.world new.world
turns_stay m limit machine script old new answer taken =
    stays_on reads_feed old.world taken.mid.world new.world
    (frames_stay m machine taken.left old taken.mid (run_frames m limit (run_state m machine script 0) (run_state m taken.left taken.left_script taken.steps) old taken.mid taken.how taken.runs))
    (report_stays taken.mid new (status_of taken.steps taken.how) (report_line (status_of taken.steps taken.how)) answer.status taken.reports)

-- a run that didn't fail came to its end
pub runs_out : (m limit : ℕ) (old new : RunState m) (before after : Seen) (how : Ending) → (how ≡ ending.Failed → ⊥) → Runs m limit (moment_at m old before) (moment_at m new after) how → RunsOut m limit (moment_at m old before) (moment_at m new after) how
runs_out m limit old new before after = not_failed (BreaksOff m limit (moment_at m old before) (moment_at m new after)) (RunsOut m limit (moment_at m old before) (moment_at m new after))

-- one that failed broke off
pub broke_off : (m limit : ℕ) (old new : RunState m) (before after : Seen) (how : Ending) → how ≡ ending.Failed → Runs m limit (moment_at m old before) (moment_at m new after) how → BreaksOff m limit (moment_at m old before) (moment_at m new after)
broke_off m limit old new before after how is runs = subst (λ (h : Ending). Runs m limit (moment_at m old before) (moment_at m new after) h) is runs

-- and so all of it
pub executes_stays : (m steps limit : ℕ) (hopper : Hopper) (script : Script) (old new : Seen) (answer : Answer) → Executes m steps limit hopper script old new answer → LeavesUnread reads_feed old.world new.world
executes_stays m steps limit hopper script old new answer (lacks_memory status same) = stays_same reads_feed old new same
executes_stays m steps limit hopper script old new answer (breaks_key status broke shows) = frames_stay m broke.machine broke.keyed old new broke.breaks.makes.frames
executes_stays m steps limit hopper script old new answer (breaks_steps pressed key status broke shows) =
    stays_again old.world pressed.world new.world (frames_stay m key.machine key.keyed old pressed key.makes.frames) (frames_stay m key.keyed broke.left pressed new broke.breaks.frames)
executes_stays m steps limit hopper script old new answer (takes_turns pressed ready_at key ready made taken) =
    stays_again old.world pressed.world new.world (frames_stay m key.machine key.keyed old pressed key.makes.frames)
    (stays_again pressed.world ready_at.world new.world (frames_stay m key.keyed ready pressed ready_at made.out.frames) (turns_stay m limit ready script ready_at new answer taken))

report_later : (old new : Seen) (status : Status) (line : List ℕ) (answer : Status) → ReportsAs old new status line answer → old.faults ≤ new.faults
report_later old new status line answer (inl done) = done.1.later
report_later old new status line answer (inr stops) = stops.1.goes.later

-- nor do faults fall
pub executes_later : (m steps limit : ℕ) (hopper : Hopper) (script : Script) (old new : Seen) (answer : Answer) → Executes m steps limit hopper script old new answer → old.faults ≤ new.faults
executes_later m steps limit hopper script old new answer (lacks_memory status same) = rw same (omega arith)
executes_later m steps limit hopper script old new answer (breaks_key status broke shows) = broke.breaks.makes.frames.later
executes_later m steps limit hopper script old new answer (breaks_steps pressed key status broke shows) = omega (arith, key.makes.frames.later, broke.breaks.frames.later)
executes_later m steps limit hopper script old new answer (takes_turns pressed ready_at key ready made taken) =
    omega (
      arith,
      key.makes.frames.later,
      made.out.frames.later,
      (run_frames m limit (run_state m ready script 0) (run_state m taken.left taken.left_script taken.steps) ready_at taken.mid taken.how taken.runs).later,
      report_later taken.mid new (status_of taken.steps taken.how) (report_line (status_of taken.steps taken.how)) answer.status taken.reports,
    )

-- and no statement is shown of a refusal
pub executes_unrefused : (m steps limit : ℕ) (hopper : Hopper) (script : Script) (old new : Seen) (answer : Answer) → Executes m steps limit hopper script old new answer → answer.refusal ≡ None
executes_unrefused m steps limit hopper script old new answer (lacks_memory status same) = ap (λ (a : Answer). a.refusal) status
executes_unrefused m steps limit hopper script old new answer (breaks_key status broke shows) = shows.refusal
executes_unrefused m steps limit hopper script old new answer (breaks_steps pressed key status broke shows) = shows.refusal
executes_unrefused m steps limit hopper script old new answer (takes_turns pressed ready_at key ready made taken) = taken.shows.refusal

-- nor of the program
pub executes_unstated : (m steps limit : ℕ) (hopper : Hopper) (script : Script) (old new : Seen) (answer : Answer) → Executes m steps limit hopper script old new answer → answer.statement ≡ None
executes_unstated m steps limit hopper script old new answer (lacks_memory status same) = ap (λ (a : Answer). a.statement) status
executes_unstated m steps limit hopper script old new answer (breaks_key status broke shows) = shows.statement
executes_unstated m steps limit hopper script old new answer (breaks_steps pressed key status broke shows) = shows.statement
executes_unstated m steps limit hopper script old new answer (takes_turns pressed ready_at key ready made taken) = taken.shows.statement

-- WHAT LOADING DOES

-- a part of the Load key is a first part of what it does, and of what it and more do
pub key_part : (w : World) (done : ℕ) (s : State) (more : List Event) → DoesPart w s (load_cut done s) (load_events s ++ more)
key_part w done s more =
    let effects : List Effect = (load_trace (state_for_load s)).effects in
    record {
      done = all_outside (take done effects);
      seen = load_cut_seen w done s;
      taken = load_cut_taken done s;
      part = first_more (all_outside (take done effects)) (load_events s) more (first_effects w done effects);
    }

-- and the whole of it with a first part of what follows
pub part_keyed : (w : World) (s t : State) (all : List Event) → DoesPart w (load_key s) t all → DoesPart w s t (load_events s ++ all)
part_keyed w s t all d = record {
  done = load_events s ++ d.done;
  seen = d.seen ∙ ap (λ (x : World). after_events x d.done) (load_seen w s) ∙ sym (after_append (load_events s) d.done (seen_by w s));
  taken = taken_on (load_events s) d.done s (load_key s) t (load_taken s) d.taken;
  part = first_on (load_events s) d.done all d.part;
}

-- an answer with the console of a machine shows it
pub shows_console : (m : ℕ) (machine : Machine m) (answer : Answer) (status : Status) (console : Console) → answer ≡ answer_with status console → console ≡ shown_on m machine → ShowsMachine m machine answer
shows_console m machine answer status console is shown = record {
  console = ap (λ (a : Answer). a.console) is ∙ ap (λ (c : Console). Some c) shown;
  refusal = ap (λ (a : Answer). a.refusal) is;
  statement = ap (λ (a : Answer). a.statement) is;
}

-- and what is reported is its status
pub reports_console : (mid new : Seen) (said status : Status) (line : List ℕ) (console : Console) (answer : Answer) → answer ≡ answer_with status console → ReportsAs mid new said line status → ReportsAs mid new said line answer.status
reports_console mid new said status line console answer is reports = subst (λ (a : Answer). ReportsAs mid new said line a.status) (sym is) reports

-- a machine was powered on, behind what was done before, and stands on its way where a first part of a list was done: there its job stops
pub stops_on : (m : ℕ) (had : Supply) (way : Way) (before all more : List Event) (machine now : Machine m) (base start new : World) (from last t : State) (shown : Option Console) (status : Status) (line : List ℕ) → TakesNone before → DidAll before base start
    → Keeps is_read is_written true start new → state_of m machine start ≡ Some from → state_of m now new ≡ Some t → DoesPart start from t all → from.hopper ≡ had.cards → from.keys ≡ had.keys → HasReadOf m had now new → shown ≡ Some (shown_on m now) → StandsOn way t
    → StopsAt (job_leaving (Some (rest_at had last)) (Some way) status line (before ++ (all ++ more))) shown base new
stops_on m had way before all more machine now base start new from last t shown status line none did keeps here there d cards keys has shows stands = record {
  did = record {
    done = before ++ d.done;
    part = first_more (before ++ d.done) (before ++ (all ++ more)) _ (first_on before d.done (all ++ more) (first_more d.done all more d.part));
    did = did_on before d.done base start new did (did_between m machine now start new from t d.done keeps here there d.seen);
  };
  inputs = machine_asks m had now way from last (before ++ d.done) base new t shown there (taken_behind before d.done from t none d.taken) cards keys has shows (inl stands);
}

-- what the Load key and the steps of a deck do
module _ (m steps : ℕ) (w : World) (lines : List ScriptLine) (pile cards : List Entry) (feed : MachineFeed) where
  abbrev powered : State
  powered = state_over_feed m (machine_texts w) cards feed

  abbrev machine : LoadedMachine
  machine = machine_after_steps m steps w lines pile cards feed

  loading_seen : seen_by w machine.first.state ≡ after_events (seen_by w powered) machine.taken
  unfolding set_up_after_steps
  loading_seen =
      let key : RunPlace = first_in (load_key powered) [] in
      last_does w steps (most_turns steps key) key ∙ ap (λ (x : World). after_events x (run_events steps key)) (load_seen w powered) ∙ sym (after_append (load_events powered) (run_events steps key) (seen_by w powered))

  loading_taken : HasTaken powered machine.first.state machine.taken
  unfolding set_up_after_steps
  loading_taken =
      let key : RunPlace = first_in (load_key powered) [] in
      taken_on (load_events powered) (run_events steps key) powered (load_key powered) (last_place steps key).state (load_taken powered) (last_takes steps (most_turns steps key) key)

  pub steps_loaded : IsLoaded machine
  steps_loaded = let taken = loading_taken in record { cards = taken.cards; lines = taken.lines }

-- ALL OF IT

module _ {A : Type 0} (m steps limit : ℕ) (own : Option (List (List ℕ))) (before : List Event) (pile_of cards_of : A → List Entry) (feed_of : A → MachineFeed) (told : Option A) (hopper : Hopper) (script : Script) (base start : Seen)
    (is_powered : (machine : Machine m) → IsPowered m hopper machine
    → state_of m machine start.world ≡ option_map (λ a. state_over_feed m (machine_texts start.world) (cards_of a) (feed_of a)) told)
    (later : base.faults ≤ start.faults) (did : DidAll before base.world start.world) (still : Unasked base.world start.world) (makings : AreMakings before) (own_is : own_cards hopper ≡ own) (begins : IsNewHopper hopper) (pile_is : IfSome told (λ a. IfSome (deck_left hopper start.world) (λ left. pile_of a ≡ left))) where
  abbrev powered_by : A → State
  powered_by a = state_over_feed m (machine_texts start.world) (cards_of a) (feed_of a)

  abbrev key_at : A → RunPlace
  key_at a = first_in (load_key (powered_by a)) []

  abbrev loaded_machine : A → LoadedMachine
  loaded_machine a = machine_after_steps m steps start.world (lines_left script) (pile_of a) (cards_of a) (feed_of a)

  abbrev first : A → RunPlace
  first a = (loaded_machine a).first

  abbrev supply : A → Supply
  supply a = supply_of own (loaded_machine a)

  abbrev promise : Promise
  promise = turns_promise own before limit loaded_machine told

  none : TakesNone before
  none = makings_take before makings

  -- where a machine stands within the loading
  abbrev Within : (machine : Machine m) (now : World) (a : A) → Type 0
  Within machine now a = (s : State) × (state_of m machine now ≡ Some s) × DoesPart start.world (powered_by a) s (loaded_machine a).taken × StandsInRun (powered_by a) steps limit (first a) s

  abbrev IsOn : Machine m → A → Type 0
  IsOn machine a = state_of m machine start.world ≡ Some (powered_by a)

  on_power : (machine : Machine m) → IsPowered m hopper machine → IfSome told (IsOn machine)
  on_power machine powered = of_map told powered_by (state_of m machine start.world) (IsOn machine) (is_powered machine powered) (λ a is. is)

  -- there its reader and its keyboard have read nothing yet
  abbrev HasReadBy : Machine m → World → A → Type 0
  HasReadBy machine now a = HasReadOf m (supply a) machine now

  reads_on_power : (machine : Machine m) → IsPowered m hopper machine → IfSome told (HasReadBy machine start.world)
  reads_on_power machine powered =
      if_both told (λ a told_pile on. powered_reads m own (pile_of a) hopper machine start.world (powered_by a) own_is begins told_pile powered on) pile_is (on_power machine powered)

  -- there its job stops
  stops_within : (machine now : Machine m) (new : World) (shown : Option Console) → shown ≡ Some (shown_on m now) → Keeps is_read is_written true start.world new → (a : A) → IsOn machine a → HasReadBy now new a → Within now new a → StopsAt (turns_job own before limit (loaded_machine a)) shown base.world new
  stops_within machine now new shown shows keeps a on has here =
      stops_on m (supply a) (way_of limit (loaded_machine a)) before (loaded_machine a).taken (run_events limit (first a)) machine now base.world start.world new (powered_by a) (last_place limit (first a)).state here.0 shown _ _ none did keeps on here.1 here.2 refl refl has shows here.3

  reads_on : (machine now : Machine m) (new : Seen) → Frames m machine now start new → (a : A) → HasReadBy machine start.world a → HasReadBy now new.world a
  reads_on machine now new frames a has = frames_read m (supply a) machine now start new frames has

  -- the host failed there
  fault_at : (machine now : Machine m) (new : Seen) (answer : Answer) → answer.status ≡ HostFault → ShowsMachine m now answer → IsPowered m hopper machine → Frames m machine now start new → Rose base.faults new.faults → IfSome told (Within now new.world) → KeepsPromise promise base new answer
  fault_at machine now new answer fault shows powered frames rose within = inr (inl (record {
    status = fault;
    refusal = shows.refusal;
    statement = shows.statement;
    rose = rose;
    part = if_mapped (λ j. StopsAt j answer.console base.world new.world) (λ a. StopsAt (turns_job own before limit (loaded_machine a)) answer.console base.world new.world) told (λ a. turns_job own before limit (loaded_machine a)) (λ a x. x)
        (if_both told (λ a f here. f here)
        (if_both told (stops_within machine now new.world answer.console shows.console frames.keeps) (on_power machine powered) (if_some told (reads_on machine now new frames) (reads_on_power machine powered))) within);
  }))

  for_memory : KeepsPromise promise base start (answer_of OutOfMemory)
  for_memory = inr (inr (record { words = refl; plain = refl; done = before; did = did; makings = makings; part = ([], append-nil before); unasked = still }))

  for_key : (new : Seen) (answer : Answer) → answer.status ≡ HostFault → (broke : BreaksKey m hopper start new) → ShowsMachine m broke.keyed answer → KeepsPromise promise base new answer
  for_key new answer fault broke shows =
      let makes = broke.breaks.makes in
      let cut : State → State = load_cut broke.breaks.done in
      fault_at broke.machine broke.keyed new answer fault shows broke.powered makes.frames (omega (arith, later, broke.breaks.rose))
      (of_map told (λ a. cut (powered_by a)) (state_of m broke.keyed new.world) (Within broke.keyed new.world)
      (exact m cut broke.machine broke.keyed start new makes ∙ ap (λ (o : Option State). option_map cut o) (is_powered broke.machine broke.powered) ∙ map_twice told cut powered_by)
      (λ a is. (cut (powered_by a), is, key_part start.world broke.breaks.done (powered_by a) (run_events steps (key_at a)), in_key broke.breaks.done refl)))

  module _ (pressed : Seen) (key : PressesKey m hopper start pressed) where
    keyed_state : state_of m key.keyed pressed.world ≡ option_map (λ a. load_key (powered_by a)) told
    keyed_state =
        exact m load_key key.machine key.keyed start pressed key.makes
        ∙ ap (λ (o : Option State). option_map load_key o) (is_powered key.machine key.powered)
        ∙ map_twice told load_key powered_by

    keyed_place : (none : Script) → lines_left none ≡ [] → place_of m (run_state m key.keyed none 0) pressed.world ≡ option_map key_at told
    keyed_place none no_lines =
        ap (λ (o : Option State). option_map (λ s. record { state = s; steps = 0; script = lines_left none }) o) keyed_state
        ∙ map_twice told (λ s. record { state = s; steps = 0; script = lines_left none }) (λ a. load_key (powered_by a))
        ∙ ap (λ (lines : List ScriptLine). option_map (λ a. first_in (load_key (powered_by a)) lines) told) no_lines

    module _ (new : Seen) (broke : BreaksSteps m steps key.keyed pressed new) where
      abbrev OnTheWay : RunPlace → Type 0
      OnTheWay p0 = (q : RunPlace) × (place_of m (run_state m broke.left broke.left_script broke.made) new.world ≡ Some q) × IsOnTheWay steps p0 q

      within_steps : (a : A) → OnTheWay (key_at a) → Within broke.left new.world a
      within_steps a way = (
        way.0.state,
        (place_is m (run_state m broke.left broke.left_script broke.made) new.world way.0 way.1).0,
        part_keyed start.world (powered_by a) way.0.state (run_events steps (key_at a)) (way_did start.world steps (key_at a) way.0 (omega arith) way.2),
        in_deck way.0 way.2 refl,
      )

      for_steps : (answer : Answer) → answer.status ≡ HostFault → ShowsMachine m broke.left answer → KeepsPromise promise base new answer
      for_steps answer fault shows =
          fault_at key.machine broke.left new answer fault shows key.powered (frames_both m key.machine key.keyed broke.left start pressed new key.makes.frames broke.breaks.frames) (omega (arith, later, key.makes.frames.later, broke.breaks.rose))
          (if_some told within_steps (if_told OnTheWay told key_at (place_of m (run_state m key.keyed broke.none 0) pressed.world) (keyed_place broke.none broke.no_lines) broke.breaks.on_the_way))

    module _ (ready : Machine m) (ready_at : Seen) (made : MakesSteps m steps key.keyed ready pressed ready_at) where
      ready_state : state_of m ready ready_at.world ≡ option_map (λ a. (first a).state) told
      unfolding set_up_after_steps
      ready_state =
          ran_by steps told (place_of m (run_state m key.keyed made.none 0) pressed.world) (place_of m (run_state m ready made.left_script made.made) ready_at.world)
          (state_of m ready ready_at.world) (state_of m key.keyed pressed.world) key_at made.how keyed_state (keyed_place made.none made.no_lines)
          (states_told m key.keyed ready pressed ready_at made.out.frames)
          (λ q is. (place_is m (run_state m ready made.left_script made.made) ready_at.world q is).0) made.out.last (λ a. omega arith)

      is_first : place_of m (run_state m ready script 0) ready_at.world ≡ option_map first told
      is_first =
          ap (λ (o : Option State). option_map (λ s. first_in s (lines_left script)) o) ready_state
          ∙ map_twice told (λ s. first_in s (lines_left script)) (λ a. (first a).state)

      frames : Frames m key.machine ready start ready_at
      frames = frames_both m key.machine key.keyed ready start pressed ready_at key.makes.frames made.out.frames

      did_loading : (a : A) → IsOn key.machine a → place_of m (run_state m ready script 0) ready_at.world ≡ Some (first a) → DidAll (before ++ (loaded_machine a).taken) base.world ready_at.world
      did_loading a on is =
          did_on before (loaded_machine a).taken base.world start.world ready_at.world did
          (did_between m key.machine ready start.world ready_at.world (powered_by a) (first a).state (loaded_machine a).taken frames.keeps on
          (place_is m (run_state m ready script 0) ready_at.world (first a) is).0 (loading_seen m steps start.world (lines_left script) (pile_of a) (cards_of a) (feed_of a)))

      did_ready : IfSome told (λ a. DidAll (before ++ (loaded_machine a).taken) base.world ready_at.world)
      did_ready =
          if_both told did_loading (on_power key.machine key.powered)
          (of_map told first (place_of m (run_state m ready script 0) ready_at.world) (λ a. place_of m (run_state m ready script 0) ready_at.world ≡ Some (first a)) is_first (λ a is. is))

      reads_ready : IfSome told (HasReadBy ready ready_at.world)
      reads_ready = if_some told (λ a has. frames_read m (supply a) key.machine ready start ready_at frames has) (reads_on_power key.machine key.powered)

      for_turns : (new : Seen) (answer : Answer) → TakesTurns m limit ready script ready_at new answer → KeepsPromise promise base new answer
      for_turns new answer taken =
          promise_run m limit own before loaded_machine told ready taken.left script taken.left_script base ready_at taken.mid (omega (arith, later, frames.later)) (λ a. omega arith) is_first did_ready
          (λ a. steps_loaded m steps start.world (lines_left script) (pile_of a) (cards_of a) (feed_of a)) reads_ready none
          (λ u silent. frames.keeps.written u (neither (is_written u) (same_unit units.Report u) silent).0 ∙ ap (λ (written : unit.Unit → Option (List ℕ)). written u) did.written)
          taken.steps taken.how taken.runs new answer taken.reports taken.shows

  -- all its ends
  pub promise_executes : (new : Seen) (answer : Answer) → Executes m steps limit hopper script start new answer → KeepsPromise promise base new answer
  promise_executes new answer (lacks_memory is same) = subst (λ (a : Answer). KeepsPromise promise base new a) (sym is) (subst (λ (s : Seen). KeepsPromise promise base s (answer_of OutOfMemory)) (sym same) for_memory)
  promise_executes new answer (breaks_key fault broke shows) = for_key new answer fault broke shows
  promise_executes new answer (breaks_steps pressed key fault broke shows) = for_steps pressed key new broke answer fault shows
  promise_executes new answer (takes_turns pressed ready_at key ready made taken) = for_turns pressed key ready ready_at made new answer taken

-- A SESSION

pub session_stays : (m limit : ℕ) (placed : List PlacedText) (hopper : Hopper) (script : Script) (commands : Commands) (old new : Seen) (answer : Answer) → HoldsSession m limit placed hopper script commands old new answer → LeavesUnread reads_feed old.world new.world
session_stays m limit placed hopper script commands old new answer (lacks_memory status same) = stays_same reads_feed old new same
session_stays m limit placed hopper script commands old new answer (breaks_key status broke shows) = frames_stay m broke.machine broke.keyed old new broke.breaks.makes.frames
session_stays m limit placed hopper script commands old new answer (breaks_session pressed key left left_script status shows broke) =
    stays_again old.world pressed.world new.world (frames_stay m key.machine key.keyed old pressed key.makes.frames) (frames_stay m key.keyed left pressed new broke.frames)
session_stays m limit placed hopper script commands old new answer (ends_session pressed mid key left left_script set ended reports shows) =
    stays_again old.world pressed.world new.world (frames_stay m key.machine key.keyed old pressed key.makes.frames)
    (stays_on reads_feed pressed.world mid.world new.world (frames_stay m key.keyed left pressed mid ended.frames) (report_stays mid new SessionEnded (report_line SessionEnded) answer.status reports))
