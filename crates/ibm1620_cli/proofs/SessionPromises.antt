-- The promise of a session over a program's deck.
use Rattle.std.proofs.Common.{◌≡◌, ℕ, ◌≤◌, List, [], ◌∷◌, ◌++◌, map, inl, inr, refl, sym, ◌∙◌, ap, subst, append_assoc, arith}
use Rattle.std.proofs.lemmas.List.{append-nil}
use Rattle.std.specs.Prelude.{◌⊎◌, Option, Some, None, IfSome, option_map}
use Rattle.outside_io.specs.declared.host.Unit as unit
use Rattle.outside_io.specs.declared.host.Unit.TheVariants as units
use Rattle.outside_io.specs.World.{World, Readings, Seen, Rose, Goes, same_unit, world_after_take}
use Rattle.outside_io.specs.Events.{Event, after_events, IsFirstPart, DidAll, DidPart}
use Rattle.outside_io.proofs.EventLemmas.{did_none, did_on, first_on, first_more}
use Rattle.card_code.specs.Entries.{Text}
use Rattle.card_unit.specs.declared.hopper.Hopper.{Hopper}
use Rattle.card_unit.specs.Hopper.{hopper_left, deck_left, own_cards, cards_and_data, IsNewHopper}
use Rattle.cpu_step.specs.declared.machine.Machine.{Machine}
use Rattle.cpu_step.specs.declared.console.Console.{Console}
use Rattle.cpu_step.specs.State.{UnitTexts, State}
use Rattle.cpu_step.specs.Load.{load_key, load_cut}
use Rattle.cpu_step.specs.Outside.{load_events}
use Rattle.cpu_step.specs.Machine.{machine_texts, state_of, is_written, IsPowered}
use Rattle.cpu_step.specs.Console.{shown_on}
use Rattle.cpu_step.proofs.ExactCards.{exact}
use Rattle.cpu_step.proofs.InputsTaken.{HasTaken, taken_on, load_taken}
use Rattle.cpu_step.proofs.Outside.{load_seen, did_between}
use Rattle.operator_script.specs.declared.script.Script.{Script}
use Rattle.operator_script.specs.declared.script.ScriptLine.{ScriptLine}
use Rattle.operator_script.specs.Scripts.{lines_left}
use Rattle.operator_script.specs.Turn.{RunPlace}
use Rattle.operator_script.specs.Run.{run_state, moment, place_of}
use Rattle.operator_script.proofs.TurnEventLemmas.{DoesPart}
use Rattle.sps_pass_one.specs.Layout.{Refusal}
use Rattle.sps_pass_two.specs.Assembled.{PlacedText}
use Rattle.console_debug.specs.declared.commands.DebugCommand.{DebugCommand}
use Rattle.console_debug.specs.declared.commands.Commands.{Commands}
use Rattle.console_debug.specs.CommandLists.{command_list}
use Rattle.console_debug.specs.Session.{Course as SessionCourse, Act, place_of_session, act_events, session_events}
use Rattle.console_debug.proofs.Acts.{events_append}
use Rattle.console_debug.specs.Debugs.{task, without_count, StandsBy, StandsWithin, EndsSession, BreaksSession}
use Rattle.command_line.specs.declared.reading.Settings.{Settings}
use Rattle.ibm1620_cli.specs.declared.status.Status.{Status}
use Rattle.ibm1620_cli.specs.declared.answer.Answer.{Answer}
use Rattle.ibm1620_cli.specs.declared.status.Status.TheVariants.{HostFault, OutOfMemory, SessionEnded}
use Rattle.ibm1620_cli.specs.Report.{report_line}
use Rattle.ibm1620_cli.specs.Makings.{AreMakings}
use Rattle.ibm1620_cli.specs.Ways.{Way, BySession, in_key, in_act}
use Rattle.ibm1620_cli.specs.Promise.{Job, TakesNone, Unasked, StopsAt, Promise, InputTexts, world_with_texts, answer_of, KeepsPromise}
use Rattle.ibm1620_cli.specs.Turns.{MachineFeed, feed_at, first_in, LoadedMachine}
use Rattle.ibm1620_cli.specs.Sessions.{Debugging, course_from, session_from, session_job, session_promise}
use Rattle.ibm1620_cli.specs.Program.{Program, deck_of, set_up_at_power_on}
use Rattle.ibm1620_cli.specs.RunJob.{turned_promise}
use Rattle.ibm1620_cli.specs.Source.{program_of, made_of, made_events, events_at, promise_by, running_promise}
use Rattle.ibm1620_cli.specs.DebugJob.{commands_read, keyed_program, keyed_over, debugging_of, debugged_promise, commands_promise, lines_promise}
use Rattle.ibm1620_cli.specs.Parts.{ShowsMachine, BreaksKey, PressesKey, HoldsSession, lacks_memory, breaks_key, breaks_session, ends_session, Reports, StopsWithin}
use Rattle.ibm1620_cli.proofs.ToldValues.{if_both, if_told, if_mapped, of_map, map_twice}
use Rattle.ibm1620_cli.proofs.Programs.{powered_state, pile_told}
use Rattle.ibm1620_cli.proofs.Writes.{stops_fails, stops_asked}
use Rattle.operator_script.proofs.Running.{place_is}
use Rattle.ibm1620_cli.proofs.TakenInputs.{makings_take, taken_behind, stops_unasked}
use Rattle.ibm1620_cli.proofs.Leaving.{Supply, HasReadOf, powered_reads, frames_read, machine_has, machine_asks}
use Rattle.ibm1620_cli.proofs.TurnPromises.{supply_of, none_shown}
use Rattle.ibm1620_cli.proofs.KeptPromises.{ReadyJob, neither, promise_report, promise_memory}
use Rattle.ibm1620_cli.proofs.DeckPromises.{key_part, stops_on}
use Rattle.ibm1620_cli.proofs.Readings.{read_apart}
use Rattle.ibm1620_cli.proofs.Sources.{FollowsSource, source_apart}
use Rattle.ibm1620_cli.proofs.Makings.{made_take, made_world, made_keeps_texts}
use Rattle.ibm1620_cli.proofs.Runs.{turned_follows}

-- what some acts do, and a first part of what the next does, is a first part of what all do
within_acts : (c : SessionCourse) (done : List Act) (next : Act) (rest acts : List Act) (part : List Event) → done ++ next ∷ rest ≡ acts → IsFirstPart part (act_events c next) → IsFirstPart (session_events c done ++ part) (session_events c acts)
within_acts c done next rest acts part parts first =
    subst (λ (ds : List Event). IsFirstPart (session_events c done ++ part) ds) (sym (events_append c done (next ∷ rest)) ∙ ap (session_events c) parts)
    (first_on (session_events c done) part (session_events c (next ∷ rest)) (first_more part (act_events c next) (session_events c rest) first))

-- A session over a program's deck, behind what was done before.
module _ (before : List Event) (limit : ℕ) (placed : List PlacedText) (p : Program) (hopper : Hopper) (script : Script) (commands : Commands) (base start : Seen) (later : base.faults ≤ start.faults) (did : DidAll before base.world start.world)
    (still : Unasked base.world start.world) (makings : AreMakings before) (holds : (w : World) → hopper_left hopper w ≡ cards_and_data (deck_of p) w) (deck_is : (w : World) → deck_left hopper w ≡ Some (map Text (deck_of p))) (own : own_cards hopper ≡ Some (deck_of p)) (begins : IsNewHopper hopper) where
  abbrev g : Debugging
  g = record { limit = limit; lines = lines_left script; placed = placed; commands = command_list commands }

  abbrev told : Option MachineFeed
  told = feed_at start.world

  abbrev powered_by : MachineFeed → State
  powered_by feed = set_up_at_power_on p feed (machine_texts start.world)

  abbrev loaded : MachineFeed → LoadedMachine
  loaded feed = keyed_over p start.world g.lines feed

  abbrev first : MachineFeed → RunPlace
  first feed = (loaded feed).first

  abbrev over : MachineFeed → SessionCourse
  over feed = course_from g (first feed)

  abbrev acts : MachineFeed → List Act
  acts feed = (session_from g (first feed)).acts

  abbrev events : MachineFeed → List Event
  events feed = session_events (over feed) (acts feed)

  abbrev last : MachineFeed → State
  last feed = (place_of_session (over feed) (session_from g (first feed))).state

  abbrev supply : MachineFeed → Supply
  supply feed = supply_of (Some (deck_of p)) (loaded feed)

  abbrev way : MachineFeed → Way
  way feed = BySession (powered_by feed) (over feed) (acts feed)

  abbrev job : MachineFeed → Job
  job feed = session_job (Some (deck_of p)) before g (loaded feed)

  abbrev promise : Promise
  promise = session_promise (Some (deck_of p)) before g loaded told

  -- the host failed, and a first part of the job was done
  fault_at : (new : Seen) (left : Machine p.modules) (answer : Answer) → answer.status ≡ HostFault → ShowsMachine p.modules left answer → Rose base.faults new.faults → IfSome told (λ feed. StopsAt (job feed) answer.console base.world new.world) → KeepsPromise promise base new answer
  fault_at new left answer fault shows rose part = inr (inl (record {
    status = fault;
    refusal = shows.refusal;
    statement = shows.statement;
    rose = rose;
    part = if_mapped (λ j. StopsAt j answer.console base.world new.world) (λ feed. StopsAt (job feed) answer.console base.world new.world) told job (λ feed x. x) part;
  }))

  none : TakesNone before
  none = makings_take before makings

  -- no memory was found
  for_memory : KeepsPromise promise base start (answer_of OutOfMemory)
  for_memory = inr (inr (record { words = refl; plain = refl; done = before; did = did; makings = makings; part = ([], append-nil before); unasked = still }))

  -- at power on
  abbrev IsOn : Machine p.modules → MachineFeed → Type 0
  IsOn machine feed = state_of p.modules machine start.world ≡ Some (powered_by feed)

  on_power : (machine : Machine p.modules) → IsPowered p.modules hopper machine → IfSome told (IsOn machine)
  on_power machine powered = of_map told powered_by (state_of p.modules machine start.world) (IsOn machine) (powered_state p.modules (deck_of p) hopper start.world holds machine powered) (λ feed is. is)

  -- there its reader and its keyboard have read nothing yet
  abbrev HasReadBy : Machine p.modules → World → MachineFeed → Type 0
  HasReadBy machine now feed = HasReadOf p.modules (supply feed) machine now

  reads_on_power : (machine : Machine p.modules) → IsPowered p.modules hopper machine → IfSome told (HasReadBy machine start.world)
  reads_on_power machine powered =
      if_both told (λ feed told_pile on. powered_reads p.modules (Some (deck_of p)) (map Text (deck_of p)) hopper machine start.world (powered_by feed) own begins told_pile powered on) (pile_told (deck_of p) hopper start.world deck_is) (on_power machine powered)

  -- the host failed in the Load key
  stops_in_key : (new : Seen) (shown : Option Console) (broke : BreaksKey p.modules hopper start new) → shown ≡ Some (shown_on p.modules broke.keyed) → (feed : MachineFeed) → IsOn broke.machine feed → HasReadBy broke.machine start.world feed
      → state_of p.modules broke.keyed new.world ≡ Some (load_cut broke.breaks.done (powered_by feed)) → StopsAt (job feed) shown base.world new.world
  stops_in_key new shown broke shows feed on has here =
      let frames = broke.breaks.makes.frames in
      let cut : State = load_cut broke.breaks.done (powered_by feed) in
      stops_on p.modules (supply feed) (way feed) before (loaded feed).taken (events feed) broke.machine broke.keyed base.world start.world new.world (powered_by feed) (last feed) cut shown SessionEnded (report_line SessionEnded) none did frames.keeps on here
      (subst (DoesPart start.world (powered_by feed) cut) (append-nil (load_events (powered_by feed))) (key_part start.world broke.breaks.done (powered_by feed) []))
      refl refl (frames_read p.modules (supply feed) broke.machine broke.keyed start new frames has) shows (in_key broke.breaks.done refl)

  for_key : (new : Seen) (answer : Answer) → answer.status ≡ HostFault → (broke : BreaksKey p.modules hopper start new) → ShowsMachine p.modules broke.keyed answer → KeepsPromise promise base new answer
  for_key new answer fault broke shows =
      let makes = broke.breaks.makes in
      let cut : State → State = load_cut broke.breaks.done in
      fault_at new broke.keyed answer fault shows (omega (arith, later, broke.breaks.rose))
      (if_both told (λ feed f here. f here)
      (if_both told (stops_in_key new answer.console broke shows.console) (on_power broke.machine broke.powered) (reads_on_power broke.machine broke.powered))
      (of_map told (λ feed. cut (powered_by feed)) (state_of p.modules broke.keyed new.world) (λ feed. state_of p.modules broke.keyed new.world ≡ Some (cut (powered_by feed)))
      (exact p.modules cut broke.machine broke.keyed start new makes
      ∙ ap (λ (o : Option State). option_map cut o) (powered_state p.modules (deck_of p) hopper start.world holds broke.machine broke.powered)
      ∙ map_twice told cut powered_by) (λ feed is. is)))

  module _ (pressed : Seen) (key : PressesKey p.modules hopper start pressed) where
    keyed_state : state_of p.modules key.keyed pressed.world ≡ option_map (λ feed. load_key (powered_by feed)) told
    keyed_state =
        exact p.modules load_key key.machine key.keyed start pressed key.makes
        ∙ ap (λ (o : Option State). option_map load_key o) (powered_state p.modules (deck_of p) hopper start.world holds key.machine key.powered)
        ∙ map_twice told load_key powered_by

    -- the session begins where the key leaves the machine
    is_first : place_of p.modules (run_state p.modules key.keyed script 0) pressed.world ≡ option_map first told
    is_first =
        ap (λ (o : Option State). option_map (λ s. first_in s (lines_left script)) o) keyed_state
        ∙ map_twice told (λ s. first_in s (lines_left script)) (λ feed. load_key (powered_by feed))

    -- all that the key does was done, and the reader and the keyboard have read what it read
    abbrev DidKey : MachineFeed → Type 0
    DidKey feed = DidAll (before ++ (loaded feed).taken) base.world pressed.world

    abbrev IsPressed : MachineFeed → Type 0
    IsPressed feed = DidKey feed × HasReadOf p.modules (supply feed) key.keyed pressed.world

    did_key : (feed : MachineFeed) → IsOn key.machine feed → state_of p.modules key.keyed pressed.world ≡ Some (load_key (powered_by feed)) → DidKey feed
    did_key feed on is =
        did_on before (loaded feed).taken base.world start.world pressed.world did
        (did_between p.modules key.machine key.keyed start.world pressed.world (powered_by feed) (load_key (powered_by feed)) (loaded feed).taken key.makes.frames.keeps on is (load_seen start.world (powered_by feed)))

    both_pressed : (feed : MachineFeed) → DidKey feed → HasReadBy key.machine start.world feed → IsPressed feed
    both_pressed feed done has = (done, frames_read p.modules (supply feed) key.machine key.keyed start pressed key.makes.frames has)

    did_pressed : IfSome told IsPressed
    did_pressed =
        if_both told both_pressed
        (if_both told did_key (on_power key.machine key.powered)
        (of_map told (λ feed. load_key (powered_by feed)) (state_of p.modules key.keyed pressed.world) (λ feed. state_of p.modules key.keyed pressed.world ≡ Some (load_key (powered_by feed))) keyed_state (λ feed is. is)))
        (reads_on_power key.machine key.powered)

    -- what the key takes, and what was taken behind it
    taken_from : (feed : MachineFeed) (done : List Event) (s : State) → HasTaken (first feed).state s done → HasTaken (powered_by feed) s (before ++ ((loaded feed).taken ++ done))
    taken_from feed done s taken =
        taken_behind before ((loaded feed).taken ++ done) (powered_by feed) s none
        (taken_on (loaded feed).taken done (powered_by feed) (load_key (powered_by feed)) s (load_taken (powered_by feed)) taken)

    did_from : (feed : MachineFeed) (done : List Event) (now : World) → DidKey feed → DidAll done pressed.world now → DidAll (before ++ ((loaded feed).taken ++ done)) base.world now
    did_from feed done now keyed more =
        subst (λ (ds : List Event). DidAll ds base.world now) (append_assoc before (loaded feed).taken done) (did_on (before ++ (loaded feed).taken) done base.world pressed.world now keyed more)

    -- the host failed within the session
    module _ (left : Machine p.modules) (left_script : Script) (new : Seen) (broke : BreaksSession p.modules (task limit placed (command_list commands)) (moment p.modules key.keyed script 0 pressed) (without_count p.modules left left_script new)) where
      abbrev Within : RunPlace → Type 0
      Within f = StandsWithin p.modules (course_from g f) (moment p.modules left left_script broke.steps new) pressed.world (session_from g f).acts

      session_part : (shown : Option Console) → shown ≡ Some (shown_on p.modules left) → (feed : MachineFeed) → IsPressed feed → Within (first feed) → StopsAt (job feed) shown base.world new.world
      session_part shown shows feed keyed here =
          let done : List Event = session_events (over feed) here.done ++ here.part in
          let all : List Event = before ++ ((loaded feed).taken ++ done) in
          let at_place = (place_is p.modules (run_state p.modules left left_script broke.steps) new.world here.place here.place_is).0 in
          record {
            did = record {
              done = all;
              part = first_more all (before ++ ((loaded feed).taken ++ events feed)) _
                  (first_on before ((loaded feed).taken ++ done) ((loaded feed).taken ++ events feed)
                  (first_on (loaded feed).taken done (events feed) (within_acts (over feed) here.done here.next here.rest (acts feed) here.part here.parts here.first)));
              did = did_from feed done new.world keyed.0 here.did;
            };
            inputs = machine_asks p.modules (supply feed) left (way feed) (powered_by feed) (last feed) all base.world new.world here.place.state shown at_place
                (taken_from feed done here.place.state (record { cards = here.cards; lines = here.lines })) refl refl
                (frames_read p.modules (supply feed) key.keyed left pressed new broke.frames keyed.1) shows
                (inl (in_act here.done here.next here.rest here.parts here.place here.within refl));
          }

      for_break : (answer : Answer) → answer.status ≡ HostFault → ShowsMachine p.modules left answer → KeepsPromise promise base new answer
      for_break answer fault shows =
          fault_at new left answer fault shows (omega (arith, later, key.makes.frames.later, broke.rose))
          (if_both told (session_part answer.console shows.console) did_pressed (if_told Within told first (place_of p.modules (run_state p.modules key.keyed script 0) pressed.world) is_first broke.told))

    -- it came to its end
    module _ (left : Machine p.modules) (left_script : Script) (breaks : List ℕ) (mid : Seen) (out : EndsSession p.modules (task limit placed (command_list commands)) (moment p.modules key.keyed script 0 pressed) (without_count p.modules left left_script mid) breaks) where
      abbrev By : RunPlace → Type 0
      By f = StandsBy p.modules (course_from g f) (moment p.modules left left_script out.steps mid) breaks pressed.world (session_from g f)

      module _ (answer : Answer) (shows : ShowsMachine p.modules left answer) where
        abbrev Ready : Job → Type 0
        Ready j = ReadyJob j SessionEnded (report_line SessionEnded) answer base.world mid.world

        session_done : (feed : MachineFeed) → IsPressed feed → By (first feed) → Ready (job feed)
        session_done feed keyed here =
            let has = frames_read p.modules (supply feed) key.keyed left pressed mid out.frames keyed.1 in
            let at : State = last feed in
            let at_place : state_of p.modules left mid.world ≡ Some at = (place_is p.modules (run_state p.modules left left_script out.steps) mid.world (place_of_session (over feed) (session_from g (first feed))) here.place).0 in
            let all : List Event = before ++ ((loaded feed).taken ++ events feed) in
            record {
              before = all;
              status_is = refl;
              events_are = refl;
              did = did_from feed (events feed) mid.world keyed.0 here.did;
              leaves = machine_has p.modules (supply feed) left mid.world at at answer.console at_place has shows.console;
              inputs = machine_asks p.modules (supply feed) left (way feed) (powered_by feed) at all base.world mid.world at answer.console at_place (taken_from feed (events feed) at (record { cards = here.cards; lines = here.lines })) refl refl has shows.console (inr refl);
              refusal = λ sound. none_shown p.modules left answer shows;
              program = refl;
            }

        for_end : (new : Seen) → Reports mid new SessionEnded answer.status → KeepsPromise promise base new answer
        for_end new reports =
            promise_report promise base mid new SessionEnded (report_line SessionEnded) answer (omega (arith, later, key.makes.frames.later, out.frames.later)) refl refl (λ fault. shows.refusal) shows.statement
            (if_mapped Ready (λ feed. Ready (job feed)) told job (λ feed ready. ready)
            (if_both told session_done did_pressed (if_told By told first (place_of p.modules (run_state p.modules key.keyed script 0) pressed.world) is_first out.told)))
            (record {
              ends = refl;
              written = λ u silent. out.frames.keeps.written u silent ∙ key.makes.frames.keeps.written u (neither (is_written u) (same_unit units.Report u) silent).0 ∙ ap (λ (written : unit.Unit → Option (List ℕ)). written u) did.written;
            })
            reports

  -- all its ends
  pub promise_holds : (new : Seen) (answer : Answer) → HoldsSession p.modules limit placed hopper script commands start new answer → KeepsPromise promise base new answer
  promise_holds new answer (lacks_memory is same) = subst (λ (a : Answer). KeepsPromise promise base new a) (sym is) (subst (λ (s : Seen). KeepsPromise promise base s (answer_of OutOfMemory)) (sym same) for_memory)
  promise_holds new answer (breaks_key fault broke shows) = for_key new answer fault broke shows
  promise_holds new answer (breaks_session pressed key left left_script fault shows broke) = for_break pressed key left left_script new broke answer fault shows
  promise_holds new answer (ends_session pressed mid key left left_script breaks out reports shows) = for_end pressed key left left_script breaks mid out answer shows new reports

-- Behind the texts of a source.
module _ (m : ℕ) (settings : Settings) (lines : List ScriptLine) (commands : List DebugCommand) (source : List ℕ) where
  abbrev made : List Event
  made = made_events (made_of m settings.form source)

  abbrev given : Debugging
  given = debugging_of m settings lines commands source

  abbrev deck : List (List ℕ)
  deck = deck_of (program_of m settings.form source)

  abbrev keyed_in : World → MachineFeed → LoadedMachine
  keyed_in w feed = keyed_over (program_of m settings.form source) w lines feed

  abbrev keyed_at : World → UnitTexts → MachineFeed → LoadedMachine
  keyed_at w texts feed =
      let powered = set_up_at_power_on (program_of m settings.form source) feed texts in
      record (keyed_in w feed) { powered = powered; taken = load_events powered; first = first_in (keyed_program (program_of m settings.form source) feed texts) lines }

  -- the session was held
  pub promise_debug_behind : (start mid new : Seen) (answer : Answer) → Goes start mid (after_events start.world made)
      → KeepsPromise (session_promise (Some deck) made given (keyed_in mid.world) (feed_at mid.world)) start new answer → KeepsPromise (debugged_promise m settings lines commands source start.world) start new answer
  promise_debug_behind start mid new answer goes kept =
      subst (λ (texts : UnitTexts). KeepsPromise (session_promise (Some deck) made given (keyed_at start.world texts) (feed_at start.world)) start new answer) (made_keeps_texts (made_of m settings.form source) start.world)
      (subst (λ (w : World). KeepsPromise (session_promise (Some deck) made given (keyed_in w) (feed_at w)) start new answer) (goes.world ∙ made_world (made_of m settings.form source) start.world) kept)

  job_part : (o : Option MachineFeed) (at : MachineFeed → LoadedMachine) (start new : Seen) → Unasked start.world new.world → DidPart made start.world new.world → IfSome (option_map (λ feed. session_job (Some deck) made given (at feed)) o) (λ j. StopsAt j None start.world new.world)
  job_part None at start new still p = tt
  job_part (Some feed) at start new still p =
      let first : RunPlace = (at feed).first in
      let events : List Event = session_events (course_from given first) (session_from given first).acts in
      stops_unasked (session_job (Some deck) made given (at feed)) made _ start.world new.world (append_assoc made ((at feed).taken ++ events) _) (made_take (made_of m settings.form source)) still p

  -- the texts were not written, or not all
  pub promise_debug_unwritten : (start new : Seen) (s : Status) → ((s ≡ OutOfMemory) × (new ≡ start)) ⊎ ((s ≡ HostFault) × StopsWithin made start new) → KeepsPromise (debugged_promise m settings lines commands source start.world) start new (answer_of s)
  promise_debug_unwritten start new s (inl lacks) = rw (lacks.0, lacks.1) (promise_memory (debugged_promise m settings lines commands source start.world) start start (did_none start.world) (λ u read. refl) refl refl)
  promise_debug_unwritten start new s (inr stops) =
      let fails = stops_fails made start new stops.1 in
      inr (inl (record { status = stops.0; refusal = refl; statement = refl; rose = fails.rose; part = job_part (feed_at start.world) (keyed_in start.world) start new (stops_asked made start new stops.1) fails.part }))

  -- the texts that may be there where no memory was found are those of a run
  same_made : (o : Option Refusal) (w : World) (P : List Event → Type 0) → IfSome (promise_by (debugged_promise m settings lines commands) source o w).made.texts P → IfSome (promise_by (turned_promise m settings lines) source o w).made.texts P
  same_made None w P here = here
  same_made (Some r) w P here = here

  pub debugged_follows : FollowsSource m (events_at m settings.form) (debugged_promise m settings lines commands) source
  debugged_follows = record {
    plain = λ w. refl;
    unbound = λ w. refl;
    apart = λ gone t w. refl;
    texts = λ o w P good told here. (turned_follows m settings lines source).texts o w P good told (same_made o w P here);
  }

-- What is done behind a reading is so whatever was taken before, and whatever it was.

module _ (m : ℕ) (settings : Settings) (lines : List ScriptLine) where
  pub commands_apart : (commands : List DebugCommand) (gone : Readings) (text : List ℕ) (t : InputTexts) (w : World)
      → commands_promise m settings lines commands (world_with_texts t (world_after_take units.Commands gone w)) ≡ commands_promise m settings lines commands (world_with_texts (record t { commands = text }) w)
  commands_apart commands gone text t w =
      source_apart m (events_at m settings.form) (running_promise m (debugged_promise m settings lines commands)) (world_with_texts t (world_after_take units.Commands gone w)) (world_with_texts (record t { commands = text }) w) refl refl (λ source. refl)

  pub script_apart : (gone : Readings) (script : List ℕ) (t : InputTexts) (w : World) → lines_promise m settings lines (world_with_texts t (world_after_take units.Script gone w)) ≡ lines_promise m settings lines (world_with_texts (record t { script = script }) w)
  script_apart gone script t w =
      let old : World = world_with_texts t (world_after_take units.Script gone w) in
      let new : World = world_with_texts (record t { script = script }) w in
      read_apart units.Commands (commands_read m) (events_at m settings.form) (commands_promise m settings lines) old new refl refl
      (λ commands. source_apart m (events_at m settings.form) (running_promise m (debugged_promise m settings lines commands)) old new refl refl (λ source. refl))
