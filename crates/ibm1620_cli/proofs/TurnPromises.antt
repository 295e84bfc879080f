-- The promise of the turns of a machine that was set up.
use Rattle.std.proofs.Common.{◌≡◌, ℕ, ◌≤◌, true, false, List, ◌++◌, drop, inl, inr, refl, sym, ◌∙◌, ap, subst, append_assoc, arith}
use Rattle.std.specs.Prelude.{Option, Some, None, IfSome, option_map}
use Rattle.outside_io.specs.declared.host.Unit as unit
use Rattle.outside_io.specs.declared.host.Unit.TheVariants as units
use Rattle.outside_io.specs.World.{World, Seen, same_unit}
use Rattle.outside_io.specs.Frame.{Keeps}
use Rattle.cpu_step.specs.declared.machine.Machine.{Machine}
use Rattle.cpu_step.specs.declared.console.Console.{Console}
use Rattle.cpu_step.specs.State.{State}
use Rattle.cpu_step.specs.Machine.{state_of, Frames, is_read, is_written}
use Rattle.cpu_step.specs.Console.{shown_on}
use Rattle.cpu_step.proofs.ExactCards.{state_is}
use Rattle.cpu_step.proofs.InputsTaken.{HasTaken, taken_on}
use Rattle.operator_script.specs.declared.script.Script.{Script}
use Rattle.operator_script.specs.declared.turns.Ending.{Ending}
use Rattle.operator_script.specs.declared.turns.Ending.TheVariants as ending
use Rattle.operator_script.specs.Turn.{RunPlace, last_place, most_turns, ending_of, IsLast, IsOnTheWay}
use Rattle.operator_script.specs.Run.{run_state, moment, place_of, RunsOut, BreaksOff, Runs}
use Rattle.operator_script.proofs.LastPlace.{last_is}
use Rattle.operator_script.proofs.Running.{place_is}
use Rattle.console_debug.specs.Debugs.{is_said}
use Rattle.ibm1620_cli.specs.declared.status.Status.{Status}
use Rattle.ibm1620_cli.specs.declared.answer.Answer.{Answer}
use Rattle.ibm1620_cli.specs.declared.status.Status.TheVariants.{HostFault}
use Rattle.ibm1620_cli.specs.Report.{report_line}
use Rattle.outside_io.specs.Events.{Event, after_events, cards_in, lines_in, text_events, DidAll}
use Rattle.ibm1620_cli.specs.Ways.{Way, ByRun, in_turns}
use Rattle.ibm1620_cli.specs.Promise.{MachineEnd, Job, LeavesMachine, ShowsRefusal, EndsWithAnswer, TakesNone, AsksForInputs, asked, StopsAt, Promise, KeepsPromise, is_own, is_usage}
use Rattle.operator_script.specs.TurnEvents.{run_events}
use Rattle.ibm1620_cli.specs.Turns.{status_of, ends_a_run, LoadedMachine, turns_job, turns_promise}
use Rattle.ibm1620_cli.specs.Parts.{Reports, ShowsMachine}
use Rattle.ibm1620_cli.proofs.ToldValues.{if_both, if_told, if_mapped, of_map}
use Rattle.outside_io.proofs.EventLemmas.{did_on, first_on, first_more}
use Rattle.ibm1620_cli.proofs.TakenInputs.{takes_before, taken_behind, left_as}
use Rattle.ibm1620_cli.proofs.Leaving.{Supply, rest_at, HasReadOf, frames_read, machine_has, machine_asks}
use Rattle.ibm1620_cli.proofs.KeptPromises.{ReadyJob, neither, promise_report, promise_fault}
use Rattle.cpu_step.proofs.Outside.{seen_by, did_between}
use Rattle.operator_script.proofs.TurnEventLemmas.{last_does, last_takes, way_did}

-- CARDS AND LINES OF KEYS

-- a job has a machine, and where it ends the cards and the lines that are left are those at power on without the ones that the job takes
pub record HasInputs (j : Job) : Type 0 where
  pub rest : MachineEnd
  pub is : j.rest ≡ Some rest
  pub cards : rest.state.hopper ≡ drop (cards_in j.events) rest.cards
  pub keys : rest.state.keys ≡ drop (lines_in j.events) rest.keys

-- what a loaded machine had at power on
abbrev pub supply_of : Option (List (List ℕ)) → LoadedMachine → Supply
supply_of own l = record { own = own; pile = l.pile; cards = l.cards; keys = l.keys }

-- the way of its turns
abbrev pub way_of : ℕ → LoadedMachine → Way
way_of limit l = ByRun l.powered l.steps limit l.first

-- a state with the cards and the lines that a machine had at power on
abbrev pub state_unloaded : LoadedMachine → State
state_unloaded l = record l.first.state { hopper = l.cards; keys = l.keys }

-- where the turns of a loaded machine begin it has what loading leaves of them
abbrev pub IsLoaded : LoadedMachine → Type 0
IsLoaded l = HasTaken (state_unloaded l) l.first.state l.taken

-- what is done before, the loading and the turns take those that are gone at the last place
turns_take : (before : List Event) (limit : ℕ) (l : LoadedMachine) → TakesNone before → IsLoaded l → HasTaken (state_unloaded l) (last_place limit l.first).state (before ++ (l.taken ++ run_events limit l.first))
turns_take before limit l none loaded =
    let last : State = (last_place limit l.first).state in
    taken_behind before (l.taken ++ run_events limit l.first) (state_unloaded l) last none
    (taken_on l.taken (run_events limit l.first) (state_unloaded l) l.first.state last loaded (last_takes limit (most_turns limit l.first) l.first))

pub turns_inputs : (own : Option (List (List ℕ))) (before : List Event) (limit : ℕ) (l : LoadedMachine) → TakesNone before → IsLoaded l → HasInputs (turns_job own before limit l)
turns_inputs own before limit l none loaded =
    let last : RunPlace = last_place limit l.first in
    let events : List Event = before ++ (l.taken ++ run_events limit l.first) in
    let taken = turns_take before limit l none loaded in
    let same = takes_before events units.Report (report_line (status_of last.steps (ending_of last.state))) in
    record {
      rest = rest_at (supply_of own l) last.state;
      is = refl;
      cards = taken.cards ∙ ap (λ (n : ℕ). drop n l.cards) (sym same.0);
      keys = taken.lines ∙ ap (λ (n : ℕ). drop n l.keys) (sym same.1);
    }

-- such a job came to its end
pub ended_asks : (j : Job) (start mid : Seen) (answer : Answer) → HasInputs j → EndsWithAnswer j start mid answer → AsksForInputs j.rest j.way j.events answer.console start.world mid.world
ended_asks j start mid answer has ends =
    asked has.rest has.is has.rest.state (inr refl)
    (left_as has.rest has.rest.state.hopper has.rest.state.keys (drop (cards_in j.events) has.rest.cards) (drop (lines_in j.events) has.rest.keys) has.rest.state answer.console mid.world has.cards has.keys
    (subst (λ (o : Option MachineEnd). LeavesMachine o answer.console mid.world) has.is ends.rest))

-- nothing is shown of a source by a machine
pub none_shown : (m : ℕ) (machine : Machine m) (answer : Answer) → ShowsMachine m machine answer → ShowsRefusal None answer.refusal
none_shown m machine answer shows = subst (ShowsRefusal None) (sym shows.refusal) tt

-- where its turns begin, all was done before, and its reader and its keyboard have read what they have
pub record StandsFirst (m : ℕ) (own : Option (List (List ℕ))) (before : List Event) (l : LoadedMachine) (machine : Machine m) (script : Script) (start now : World) : Type 0 where
  pub stands : place_of m (run_state m machine script 0) now ≡ Some l.first
  pub did : DidAll (before ++ l.taken) start now
  pub has_read : HasReadOf m (supply_of own l) machine now

module _ {A : Type 0} (m limit : ℕ) (own : Option (List (List ℕ))) (before : List Event) (loaded : A → LoadedMachine) (told : Option A) (machine ended : Machine m) (script left_script : Script) (start loaded_at ran : Seen)
    (later : start.faults ≤ loaded_at.faults) (counted : (a : A) → (loaded a).first.steps ≤ limit)
    (is_first : place_of m (run_state m machine script 0) loaded_at.world ≡ option_map (λ a. (loaded a).first) told) (did : IfSome told (λ a. DidAll (before ++ (loaded a).taken) start.world loaded_at.world))
    (is_loaded : (a : A) → IsLoaded (loaded a)) (reads : IfSome told (λ a. HasReadOf m (supply_of own (loaded a)) machine loaded_at.world)) (none : TakesNone before)
    (settled : (u : unit.Unit) → is_said u ≡ false → loaded_at.world.written u ≡ (after_events start.world before).written u) where
  abbrev first : A → RunPlace
  first a = (loaded a).first

  abbrev taken : A → List Event
  taken a = (loaded a).taken

  abbrev supply : A → Supply
  supply a = supply_of own (loaded a)

  abbrev job : A → Job
  job a = turns_job own before limit (loaded a)

  abbrev promise : Promise
  promise = turns_promise own before limit loaded told

  abbrev IsFirst : A → Type 0
  IsFirst a = place_of m (run_state m machine script 0) loaded_at.world ≡ Some (first a)

  abbrev IsHere : A → Type 0
  IsHere a = StandsFirst m own before (loaded a) machine script start.world loaded_at.world

  is_here : (a : A) → IsFirst a → DidAll (before ++ taken a) start.world loaded_at.world → HasReadOf m (supply a) machine loaded_at.world → IsHere a
  is_here a is before_it has_read = record { stands = is; did = before_it; has_read = has_read }

  here : IfSome told IsHere
  here =
      if_both told (λ a f r. f r) (if_both told is_here (of_map told first (place_of m (run_state m machine script 0) loaded_at.world) IsFirst is_first (λ a is. is)) did) reads

  -- what was done by a place that they stand at
  did_to : (keeps : Keeps is_read is_written true loaded_at.world ran.world) (steps : ℕ) (a : A) (q : RunPlace) (ds : List Event) → IsHere a → place_of m (run_state m ended left_script steps) ran.world ≡ Some q
      → seen_by loaded_at.world q.state ≡ after_events (seen_by loaded_at.world (first a).state) ds → DidAll (before ++ (taken a ++ ds)) start.world ran.world
  did_to keeps steps a q ds h at_q path =
      subst (λ (es : List Event). DidAll es start.world ran.world) (append_assoc before (taken a) ds)
      (did_on (before ++ taken a) ds start.world loaded_at.world ran.world h.did
      (did_between m machine ended loaded_at.world ran.world (first a).state q.state ds keeps (place_is m (run_state m machine script 0) loaded_at.world (first a) h.stands).0
      (place_is m (run_state m ended left_script steps) ran.world q at_q).0 path))

  abbrev Last : Ending → ℕ → RunPlace → Type 0
  Last how steps p0 = (n : ℕ) × (p : RunPlace) × (place_of m (run_state m ended left_script steps) ran.world ≡ Some p) × IsLast limit p0 n p how

  module _ (steps : ℕ) (how : Ending) (out : RunsOut m limit (moment m machine script 0 loaded_at) (moment m ended left_script steps ran) how) (answer : Answer) (shows : ShowsMachine m ended answer) where
    abbrev status : Status
    status = status_of steps how

    abbrev Ready : Job → Type 0
    Ready j = ReadyJob j status (report_line status) answer start.world ran.world

    ready : (a : A) → IsHere a → Last how steps (first a) → Ready (job a)
    ready a h last =
        let at_last = place_is m (run_state m ended left_script steps) ran.world last.1 last.2 in
        let over : last_place limit (first a) ≡ last.1 = last_is limit (first a) last.0 last.1 how (counted a) last.3 in
        let p : RunPlace = last_place limit (first a) in
        let place : place_of m (run_state m ended left_script steps) ran.world ≡ Some p = last.2 ∙ ap (λ (x : RunPlace). Some x) (sym over) in
        let at_p : state_of m ended ran.world ≡ Some p.state = (place_is m (run_state m ended left_script steps) ran.world p place).0 in
        let steps_is : p.steps ≡ steps = ap (λ (x : RunPlace). x.steps) over ∙ at_last.1 in
        let how_is : ending_of p.state ≡ how = ap (λ (t : State). ending_of t) (state_is m ended ran.world p.state at_p) ∙ sym out.ending in
        let turns : List Event = run_events limit (first a) in
        let events : List Event = before ++ (taken a ++ turns) in
        let has = frames_read m (supply a) machine ended loaded_at ran out.frames h.has_read in
        record {
          before = events;
          status_is = λ i. status_of (steps_is i) (how_is i);
          events_are = λ i. events ++ text_events units.Report (report_line (status_of (steps_is i) (how_is i)));
          did = did_to out.frames.keeps steps a p turns h place (last_does loaded_at.world limit (most_turns limit (first a)) (first a));
          leaves = machine_has m (supply a) ended ran.world p.state p.state answer.console at_p has shows.console;
          inputs = machine_asks m (supply a) ended (way_of limit (loaded a)) (state_unloaded (loaded a)) p.state events start.world ran.world p.state answer.console at_p (turns_take before limit (loaded a) none (is_loaded a)) refl refl has shows.console (inr refl);
          refusal = λ sound. none_shown m ended answer shows;
          program = refl;
        }

    promise_out : (new : Seen) → ends_a_run status ≡ true → is_own status ≡ true → is_usage status ≡ false → Reports ran new status answer.status → KeepsPromise promise start new answer
    promise_out new runs_out own_end usage reports =
        promise_report promise start ran new status (report_line status) answer (omega (arith, later, out.frames.later)) own_end usage (λ fault. shows.refusal) shows.statement
        (if_mapped Ready (λ a. Ready (job a)) told job (λ a r. r)
        (if_both told ready here (if_told (Last how steps) told first (place_of m (run_state m machine script 0) loaded_at.world) is_first out.last)))
        (record { ends = runs_out; written = λ u silent. out.frames.keeps.written u (neither (is_written u) (same_unit units.Report u) silent).0 ∙ settled u silent })
        reports

  abbrev OnTheWay : ℕ → RunPlace → Type 0
  OnTheWay steps p0 = (q : RunPlace) × (place_of m (run_state m ended left_script steps) ran.world ≡ Some q) × IsOnTheWay limit p0 q

  part : (frames : Frames m machine ended loaded_at ran) (steps : ℕ) (shown : Option Console) → shown ≡ Some (shown_on m ended) → (a : A) → IsHere a → OnTheWay steps (first a) → StopsAt (job a) shown start.world ran.world
  part frames steps shown shows a h way =
      let d = way_did loaded_at.world limit (first a) way.0 (counted a) way.2 in
      let all : List Event = run_events limit (first a) in
      let done : List Event = before ++ (taken a ++ d.done) in
      let last : State = (last_place limit (first a)).state in
      record {
        did = record {
          done = done;
          part = first_more done (before ++ (taken a ++ all)) _ (first_on before (taken a ++ d.done) (taken a ++ all) (first_on (taken a) d.done all d.part));
          did = did_to frames.keeps steps a way.0 d.done h way.1 d.seen;
        };
        inputs = machine_asks m (supply a) ended (way_of limit (loaded a)) (state_unloaded (loaded a)) last done start.world ran.world way.0.state shown (place_is m (run_state m ended left_script steps) ran.world way.0 way.1).0
            (taken_behind before (taken a ++ d.done) (state_unloaded (loaded a)) way.0.state none (taken_on (taken a) d.done (state_unloaded (loaded a)) (first a).state way.0.state (is_loaded a) d.taken))
            refl refl (frames_read m (supply a) machine ended loaded_at ran frames h.has_read) shows (inl (in_turns way.0 way.2 refl));
      }

  promise_break : (steps : ℕ) → BreaksOff m limit (moment m machine script 0 loaded_at) (moment m ended left_script steps ran) → (new : Seen) (answer : Answer) → Reports ran new HostFault answer.status → ShowsMachine m ended answer → KeepsPromise promise start new answer
  promise_break steps broke new answer reports shows =
      promise_fault promise start ran new answer (omega (arith, later, broke.rose))
      (if_mapped (λ j. StopsAt j answer.console start.world ran.world) (λ a. StopsAt (job a) answer.console start.world ran.world) told job (λ a r. r)
      (if_both told (part broke.frames steps answer.console shows.console) here (if_told (OnTheWay steps) told first (place_of m (run_state m machine script 0) loaded_at.world) is_first broke.on_the_way)))
      reports shows.refusal shows.statement

  -- the run ended, and is reported
  pub promise_run : (steps : ℕ) (how : Ending) → Runs m limit (moment m machine script 0 loaded_at) (moment m ended left_script steps ran) how → (new : Seen) (answer : Answer) → Reports ran new (status_of steps how) answer.status → ShowsMachine m ended answer
      → KeepsPromise promise start new answer
  promise_run steps ending.Failed runs new answer reports shows = promise_break steps runs new answer reports shows
  promise_run steps (ending.Halted at) runs new answer reports shows = promise_out steps (ending.Halted at) runs answer shows new refl refl refl reports
  promise_run steps (ending.Stopped kind at) runs new answer reports shows = promise_out steps (ending.Stopped kind at) runs answer shows new refl refl refl reports
  promise_run steps ending.Limit runs new answer reports shows = promise_out steps ending.Limit runs answer shows new refl refl refl reports
  promise_run steps (ending.NeedCards at) runs new answer reports shows = promise_out steps (ending.NeedCards at) runs answer shows new refl refl refl reports
  promise_run steps (ending.NeedKeys at) runs new answer reports shows = promise_out steps (ending.NeedKeys at) runs answer shows new refl refl refl reports
  promise_run steps (ending.Jam u n) runs new answer reports shows = promise_out steps (ending.Jam u n) runs answer shows new refl refl refl reports
