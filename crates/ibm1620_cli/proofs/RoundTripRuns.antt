-- A load of an object deck, and of a bootstrap deck, and the run of its program.
use Rattle.std.proofs.Common.{inl, inr, ◌≢◌, ℕ, zero, suc, ◌≡◌, ◌+◌, ◌-◌, ◌==◌, ◌≤◌, ◌<◌, Bool, true, false, List, [], ◌∷◌, ◌++◌, length, map, drop, replicate, slice_set, refl, sym, ap, ◌∙◌, arith, append_assoc, subst, All}
use Rattle.std.proofs.lemmas.Bool.Decides.{nat_tests}
use Rattle.std.proofs.lemmas.List.{length-map, length-replicate}
use Rattle.std.specs.Prelude.{Option, Some, None, IfSome, option_map, option_and_then, Result, Ok, if◌then◌else◌}
use Rattle.outside_io.specs.declared.host.Unit.TheVariants as units
use Rattle.outside_io.specs.World.{World, Seen, world_after_put, all_units}
use Rattle.outside_io.specs.Events.{Event, after_events, text_events, DidAll}
use Rattle.outside_io.proofs.EventLemmas.{after_append, after_text}
use Rattle.digit_core.specs.Cell.{zero_cell}
use Rattle.digit_core.specs.Size.{IsSize, size}
use Rattle.indicators.specs.declared.Panel.{Panel}
use Rattle.card_code.specs.Entries.{Entry, Text, entries_of_unit, has_none_left}
use Rattle.disk_1311.specs.declared.TheConstants.{DRIVES}
use Rattle.cpu_step.specs.declared.machine.Mode.{Mode}
use Rattle.cpu_step.specs.declared.machine.Mode.TheVariants.{Running}
use Rattle.cpu_step.specs.Machine.{is_running}
use Rattle.cpu_step.specs.State.{UnitTexts, State}
use Rattle.cpu_step.specs.Step.{step}
use Rattle.cpu_step.specs.Load.{load_key}
use Rattle.cpu_step.specs.Machine.{machine_texts}
use Rattle.cpu_step.specs.Outside.{load_events}
use Rattle.operator_script.specs.declared.script.Due.{Due}
use Rattle.operator_script.specs.declared.script.Due.TheVariants as due
use Rattle.operator_script.specs.declared.script.Action.{Action}
use Rattle.operator_script.specs.declared.script.ScriptLine.{ScriptLine}
use Rattle.operator_script.specs.Turn.{RunPlace, Turning, Acted, Stepped, Ended, ending_of, is_due, due_action, state_after_action, turn, can_go, place_after, last_within}
use Rattle.operator_script.specs.Run.{IsQuiet}
use Rattle.operator_script.specs.TurnEvents.{step_events, front_events, events_within, run_events}
use Rattle.operator_script.proofs.Turning.{turning_by, turn_is}
use Rattle.operator_script.proofs.LastPlace.{last_on, last_from}
use Rattle.operator_script.proofs.TurnEventLemmas.{turned_events}
use Rattle.sps_pass_two.specs.Broken.{refusal_of}
use Rattle.sps_pass_two.specs.Image.{DigitRun}
use Rattle.sps_pass_two.specs.Kept.{IsRunBelow}
use Rattle.deck_punch.specs.declared.form.DeckForm.{DeckForm}
use Rattle.deck_punch.specs.declared.form.DeckForm.TheVariants.{SelfLoading}
use Rattle.deck_punch.specs.Overlay.{overlay}
use Rattle.card_steps.specs.Steps.{after_steps, events_of_steps, events_of_load, deck_taken}
use Rattle.loader_cards.specs.Loads.{LoadsOver}
use Rattle.disk_loader.specs.DiskOverlay.{disk_overlay}
use Rattle.disk_loader.specs.DiskLoads.{HasSectors, DiskLoadsOver}
use Rattle.disk_loader.specs.Writes.{image_sectors, sectors_after}
use Rattle.disk_loader.proofs.DiskLoaded.{disk_loads, disk_loaded_from}
use Rattle.disk_loader.proofs.SectorsRead.{sectors_read}
use Rattle.disk_loader.proofs.SameCore.{same_core, first_cylinder}
use Rattle.command_line.specs.declared.words.Command.{Command}
use Rattle.command_line.specs.Words.{WordsSaid}
use Rattle.ibm1620_cli.specs.declared.status.Status.{Status}
use Rattle.ibm1620_cli.specs.declared.answer.Answer.{Answer}
use Rattle.ibm1620_cli.specs.declared.status.Status.TheVariants.{HostFault, OutOfMemory}
use Rattle.ibm1620_cli.specs.Binding.{all_bound}
use Rattle.ibm1620_cli.specs.Report.{report_line}
use Rattle.ibm1620_cli.specs.Promise.{Job, job_behind, job_read, job_leaving, EndsWithAnswer, InputTexts, world_with_texts, AreTold}
use Rattle.ibm1620_cli.specs.Turns.{MachineFeed, lines_of_feed, state_over_feed, first_in, status_of, SetUp, state_over, turns_job}
use Rattle.ibm1620_cli.specs.Program.{Program, Fits, deck_of, steps_of_deck, set_up_at_power_on, set_up_after_load, set_up_at_start}
use Rattle.ibm1620_cli.specs.Source.{program_of, made_of, assembled_source}
use Rattle.ibm1620_cli.specs.LoadJob.{Loading, loading_of, powered_to_load, state_after_load_key, keyed_machine, loaded_promise, script_read}
use Rattle.ibm1620_cli.specs.DiskJob.{boot_cards, disk_placing, placing_events, with_placed}
use Rattle.ibm1620_cli.specs.Job.{modules_of, bind_events, job_promise, said_promise, DoesSaid, DoesWords, TellsAnswer}
use Rattle.ibm1620_cli.specs.RoundTrip.{later_due, later_line, later_lines, later_place, StandsAfter, EndsAfter, DoesAfter, load_of_made, MakesRoundTrip, RoundTripLaw, steps_of_boot, load_of_boot, arms_from_disk, set_up_from_disk, MakesDiskRoundTrip, DiskRoundTripLaw, LaterLoad, later_job, RoundTrip, DiskRoundTrip}
use Rattle.ibm1620_cli.proofs.CardLines.{deck_read, boot_read}
use Rattle.ibm1620_cli.proofs.Entering.{dark_cleared, over_powered, is_entered}
use Rattle.ibm1620_cli.proofs.StepEvents.{place, running_turn, events_on}
use Rattle.ibm1620_cli.proofs.Headlines.{modules_exist, fits_of}
use Rattle.ibm1620_cli.proofs.ToldValues.{told_text}
use Rattle.ibm1620_cli.proofs.Scripts.{short_read}
use Rattle.ibm1620_cli.proofs.PlacingOrder.{after_placed}

-- so many turns later
turns_on : (n limit k done : ℕ) (s : State) (lines : List ScriptLine) → done + n ≡ k → k ≤ limit → IsQuiet k lines → ((j : ℕ) → j ≤ n → (after_steps j s).mode ≡ Running)
    → place_after limit n (place s done lines) ≡ Some (place (after_steps n s) k lines)
unfolding place_after after_steps
turns_on zero limit k done s lines e low none running = let same : done ≡ k = omega arith in rw same refl
turns_on (suc n) limit k done s lines e low none running =
    let here : s.mode ≡ Running = running 0 (omega arith) in
    rw (place_after, after_steps, running_turn limit done k s lines (omega arith) low none here)
    (turns_on n limit k (done + 1) (step s) lines (omega arith) low none (λ j l. running (suc j) (omega arith)))

-- WITH SO MANY STEPS COUNTED BEFORE, each turn is the same.
module _ (k : ℕ) where
  abbrev later_turning : Turning → Turning
  later_turning (Acted q) = Acted (later_place k q)
  later_turning (Stepped q) = Stepped (later_place k q)
  later_turning (Ended how) = Ended how

  same_due : (n : ℕ) (d : Due) (m : Mode) → is_due (later_due k d) (n + k) m ≡ is_due d n m
  same_due n (due.At a) m = grind (arith, nat_tests)
  same_due n due.Halt m = refl

  same_action : (m : Mode) (n : ℕ) (lines : List ScriptLine) → due_action m (n + k) (later_lines k lines) ≡ due_action m n lines
  same_action m n [] = refl
  same_action m n (line ∷ rest) = ap (λ (b : Bool). if b then Some line.action else None) (same_due n line.due m)

  same_rest : (lines : List ScriptLine) → drop 1 (later_lines k lines) ≡ later_lines k (drop 1 lines)
  same_rest [] = refl
  same_rest (line ∷ rest) = refl

  same_end : (limit n : ℕ) → (n + k == limit + k) ≡ (n == limit)
  same_end limit n = grind (arith, nat_tests)

  same_by : (p : RunPlace) (goes : Bool) (due : Option Action) (running full : Bool) → turning_by (later_place k p) goes due running full ≡ later_turning (turning_by p goes due running full)
  same_by p false due running full = refl
  same_by p true (Some a) running full = ap (λ xs. Acted (place (state_after_action a p.state) (p.steps + k) xs)) (same_rest p.script)
  same_by p true None false full = refl
  same_by p true None true false = let e : p.steps + k + 1 ≡ p.steps + 1 + k = omega arith in ap (λ n. Stepped (place (step p.state) n (later_lines k p.script))) e
  same_by p true None true true = refl

  same_turn : (limit : ℕ) (p : RunPlace) → turn (limit + k) (later_place k p) ≡ later_turning (turn limit p)
  same_turn limit p =
      turn_is (limit + k) (later_place k p)
      ∙ (λ i. turning_by (later_place k p) (can_go p.state.mode) (same_action p.state.mode p.steps p.script i) (is_running p.state.mode) (same_end limit p.steps i))
      ∙ same_by p (can_go p.state.mode) (due_action p.state.mode p.steps p.script) (is_running p.state.mode) (p.steps == limit)
      ∙ ap later_turning (sym (turn_is limit p))

same_last : (n k limit : ℕ) (p : RunPlace) → last_within (limit + k) n (later_place k p) ≡ later_place k (last_within limit n p)
unfolding last_within
same_last zero k limit p = refl
same_last (suc n) k limit p = ap (last_on (limit + k) n (later_place k p)) (same_turn k limit p) ∙ by_turn (same_last n k limit) (turn limit p)
  where
    by_turn : ((q : RunPlace) → last_within (limit + k) n (later_place k q) ≡ later_place k (last_within limit n q)) → (t : Turning) → last_on (limit + k) n (later_place k p) (later_turning k t) ≡ later_place k (last_on limit n p t)
    by_turn on (Acted q) = on q
    by_turn on (Stepped q) = on q
    by_turn on (Ended how) = refl

same_front : (k : ℕ) (lines : List ScriptLine) (s : State) → front_events (later_lines k lines) s ≡ front_events lines s
same_front k [] s = refl
same_front k (line ∷ rest) s = refl

same_events : (n k limit : ℕ) (p : RunPlace) → events_within (limit + k) n (later_place k p) ≡ events_within limit n p
unfolding events_within
same_events zero k limit p = refl
same_events (suc n) k limit p = ap (turned_events (limit + k) n (later_place k p)) (same_turn k limit p) ∙ by_turn (same_events n k limit) (turn limit p)
  where
    by_turn : ((q : RunPlace) → events_within (limit + k) n (later_place k q) ≡ events_within limit n q) → (t : Turning) → turned_events (limit + k) n (later_place k p) (later_turning k t) ≡ turned_events limit n p t
    by_turn on (Acted q) = λ i. same_front k p.script p.state i ++ on q i
    by_turn on (Stepped q) = ap (λ (ds : List Event). step_events p ++ ds) (on q)
    by_turn on (Ended how) = refl

-- no line that was put off is due before
put_off : (k n : ℕ) (d : Due) → n < k → is_due (later_due k d) n Running ≡ false
put_off k n (due.At a) below = grind (arith, nat_tests)
put_off k n due.Halt below = refl

none_due : (k : ℕ) (lines : List ScriptLine) → IsQuiet k (later_lines k lines)
none_due k [] n below = refl
none_due k (line ∷ rest) n below = ap (λ (b : Bool). if b then Some line.action else None) (put_off k n line.due below)

-- FROM ONE STATE TO ANOTHER, by so many steps
module _ (k : ℕ) (s t : State) (there : after_steps k s ≡ t) (running : (n : ℕ) → n ≤ k → (after_steps n s).mode ≡ Running) where
  pub stands_after : StandsAfter k s t
  stands_after limit lines low none = turns_on k limit k 0 s lines (omega arith) low none running ∙ ap (λ (x : State). Some (place x k lines)) there

  turns_more : (limit : ℕ) (lines : List ScriptLine) → (limit + k - 0) + length (later_lines k lines) ≡ k + ((limit - 0) + length lines)
  turns_more limit lines = let n : length (later_lines k lines) ≡ length lines = length-map lines (later_line k) in omega arith

  pub ends_after : EndsAfter k s t
  ends_after limit lines =
      let first : RunPlace = first_in s (later_lines k lines) in
      let more : ℕ = (limit - 0) + length lines in
      let z : 0 + k ≡ k = omega arith in
      ap (λ (j : ℕ). last_within (limit + k) j first) (turns_more limit lines)
      ∙ last_from k more (limit + k) first (place t k (later_lines k lines)) (stands_after (limit + k) (later_lines k lines) (omega arith) (none_due k lines))
      ∙ ap (λ (j : ℕ). last_within (limit + k) more (place t j (later_lines k lines))) (sym z)
      ∙ same_last more k limit (first_in t lines)

  turns_do : (limit : ℕ) (lines : List ScriptLine) → run_events (limit + k) (first_in s (later_lines k lines)) ≡ events_of_steps k s ++ run_events limit (first_in t lines)
  turns_do limit lines =
      let first : RunPlace = first_in s (later_lines k lines) in
      let more : ℕ = (limit - 0) + length lines in
      let z : 0 + k ≡ k = omega arith in
      ap (λ (j : ℕ). events_within (limit + k) j first) (turns_more limit lines)
      ∙ events_on k more (limit + k) k 0 s (later_lines k lines) (omega arith) (omega arith) (none_due k lines) running
      ∙ ap (λ (x : State). events_of_steps k s ++ events_within (limit + k) more (place x k (later_lines k lines))) there
      ∙ ap (λ (j : ℕ). events_of_steps k s ++ events_within (limit + k) more (place t j (later_lines k lines))) (sym z)
      ∙ ap (λ (ds : List Event). events_of_steps k s ++ ds) (same_events more k limit (first_in t lines))

-- the Load key, and then so many steps, that take the cards of a deck
does_after : (k : ℕ) (deck : List (List ℕ)) (s t : State) → after_steps k (load_key s) ≡ t → ((n : ℕ) → n ≤ k → (after_steps n (load_key s)).mode ≡ Running) → events_of_load k s ≡ deck_taken deck → DoesAfter k deck s t
does_after k deck s t there running takes limit lines =
    ap (λ (ds : List Event). load_events s ++ ds) (turns_do k (load_key s) t there running limit lines)
    ∙ sym (append_assoc (load_events s) (events_of_steps k (load_key s)) (run_events limit (first_in t lines)))
    ∙ ap (λ (ds : List Event). ds ++ run_events limit (first_in t lines)) takes

-- AN OBJECT DECK
module _ (m : ℕ) (form : DeckForm) (source : List ℕ) (feed : MachineFeed) (sized : IsSize m) (good : refusal_of (size m) source ≡ None) where
  abbrev p : Program
  p = program_of m form source

  abbrev k : ℕ
  k = steps_of_deck p

  fits : Fits p
  fits = fits_of m sized form source good

  abbrev l : Loading
  l = load_of_made (made_of m form source) feed

  abbrev powered : UnitTexts → State
  powered written = set_up_at_power_on p feed written

  abbrev entered : UnitTexts → State
  entered written = set_up_at_start p feed written

  -- the same cards are in the hopper
  same_powered : (written : UnitTexts) → powered_to_load m l written ≡ powered written
  same_powered written =
      ap (λ (es : List Entry). state_over_feed m written (es ++ entries_of_unit units.Data 0 feed.cards) feed) (deck_read form units.Deck 0 p.image p.start)

  -- and the Load key was pressed over them
  same_key : (written : UnitTexts) → state_after_load_key m l written ≡ load_key (powered written)
  unfolding state_after_load_key
  same_key written = ap load_key (same_powered written)

  over : (written : UnitTexts) → LoadsOver (deck_of p) p.image p.start k (powered written) (entries_of_unit units.Data 0 feed.cards)
  over written = over_powered p feed written fits

  is_loaded : (written : UnitTexts) → after_steps k (load_key (powered written)) ≡ entered written
  unfolding set_up_after_load
  is_loaded written = is_entered p feed written fits

  pub makes_trip : MakesRoundTrip p (made_of m form source) feed
  makes_trip = record {
    cards = deck_read form units.Deck 0 p.image p.start;
    stands = λ written. subst (λ (s : State). StandsAfter k s (entered written)) (sym (same_key written))
        (stands_after k (load_key (powered written)) (entered written) (is_loaded written) (over written).running);
    ends = λ written. subst (λ (s : State). EndsAfter k s (entered written)) (sym (same_key written))
        (ends_after k (load_key (powered written)) (entered written) (is_loaded written) (over written).running);
    does = λ written. subst (λ (s : State). DoesAfter k (deck_of p) s (entered written)) (sym (same_powered written))
        (does_after k (deck_of p) (powered written) (entered written) (is_loaded written) (over written).running (over written).takes);
  }

pub trip : RoundTripLaw
trip m form source feed sized good = makes_trip m form source feed sized good

-- A BOOTSTRAP DECK
module _ (m : ℕ) (source : List ℕ) (sized : IsSize m) (good : refusal_of (size m) source ≡ None) where
  abbrev image : List DigitRun
  image = (assembled_source m source).pieces

  abbrev start : ℕ
  start = (assembled_source m source).start

  -- what a program has in either form
  fit : Fits (program_of m SelfLoading source)
  fit = fits_of m sized SelfLoading source good

  abbrev b : ℕ
  b = steps_of_boot m source

  module _ (feed : MachineFeed) (has : HasSectors image feed.sectors) (written : UnitTexts) where
    abbrev data_cards : List Entry
    data_cards = entries_of_unit units.Data 0 feed.cards

    abbrev booted : State
    booted = state_over_feed m written (map Text (boot_cards m source) ++ data_cards) feed

    boot_powered : powered_to_load m (load_of_boot m source feed) written ≡ booted
    boot_powered = ap (λ (es : List Entry). state_over_feed m written (es ++ data_cards) feed) (boot_read units.Deck 0 image start)

    boot_key : state_after_load_key m (load_of_boot m source feed) written ≡ load_key booted
    unfolding state_after_load_key
    boot_key = ap load_key boot_powered

    boot_over : DiskLoadsOver (boot_cards m source) image start b booted data_cards
    boot_over = disk_loads image start fit.each fit.above m booted data_cards sized (length-replicate (size m) zero_cell) refl fit.below fit.start_below has refl

    boot_loaded : after_steps b (load_key booted) ≡ set_up_from_disk m source feed written
    unfolding set_up_from_disk
    boot_loaded =
        disk_loaded_from image start m booted data_cards fit.each fit.above sized (length-replicate (size m) zero_cell) refl fit.below fit.start_below has refl
        ∙ ap (λ (panel : Panel). record (set_up_from_disk m source feed written) { panel = panel }) (dark_cleared (has_none_left data_cards))

  -- where the program is entered
  same_zeros : disk_overlay (replicate (size m) zero_cell) image start ≡ overlay (replicate (size m) zero_cell) image start
  same_zeros = let low : 1 ≤ m = sized.0 in same_core image start (size m) (omega arith) (omega arith) fit.above fit.below

  enters_same : (form : DeckForm) (feed : MachineFeed) (written : UnitTexts) → set_up_from_disk m source feed written ≡ record (set_up_at_start (program_of m form source) feed written) { arms = arms_from_disk m source }
  unfolding set_up_at_start set_up_from_disk
  enters_same form feed written = ap (λ (core : List ℕ). record (set_up_from_disk m source feed written) { core = core }) same_zeros

  arms_same : m ≡ 1 → arms_from_disk m source ≡ replicate DRIVES 0
  arms_same is = ap (λ (c : ℕ). slice_set (replicate DRIVES 0) 0 c) (first_cylinder image fit.above (subst (λ (n : ℕ). All (IsRunBelow (size n)) image) is fit.below))

  entered_same : m ≡ 1 → (form : DeckForm) (feed : MachineFeed) (written : UnitTexts) → set_up_from_disk m source feed written ≡ set_up_at_start (program_of m form source) feed written
  unfolding set_up_at_start
  entered_same is form feed written =
      enters_same form feed written ∙ ap (λ (arms : List ℕ). record (set_up_at_start (program_of m form source) feed written) { arms = arms }) (arms_same is)

  -- what a placing leaves
  abbrev placing : List Event
  placing = placing_events (disk_placing m source)

  after_all : (before : List Event) (line : List ℕ) (w : World) → after_events w (before ++ (placing ++ text_events units.Report line)) ≡ world_after_put units.Report line (with_placed (disk_placing m source) (after_events w before))
  after_all before line w =
      let v : World = after_events w before in
      after_append before (placing ++ text_events units.Report line) w
      ∙ after_append placing (text_events units.Report line) v
      ∙ ap (λ (x : World). after_events x (text_events units.Report line)) (after_placed (disk_placing m source) v v)
      ∙ after_text units.Report line (with_placed (disk_placing m source) v)

  if_placed : (o : Option (ℕ → List ℕ)) → IfSome (option_map (sectors_after (image_sectors image)) o) (HasSectors image)
  if_placed None = tt
  if_placed (Some before) = sectors_read image before

  pack_placed : (before : List Event) (line : List ℕ) (old new : World) → DidAll (before ++ (placing ++ text_events units.Report line)) old new → IfSome new.sectors (HasSectors image)
  pack_placed before line old new did =
      subst (λ (o : Option (ℕ → List ℕ)). IfSome o (HasSectors image)) (sym (did.sectors ∙ ap (λ (x : World). x.sectors) (after_all before line old))) (if_placed (after_events old before).sectors)

  pub makes_disk_trip : MakesDiskRoundTrip m source
  makes_disk_trip = record {
    cards = boot_read units.Deck 0 image start;
    sectors = λ before. sectors_read image before;
    placed = pack_placed;
    stands = λ feed has written. subst (λ (s : State). StandsAfter b s (set_up_from_disk m source feed written)) (sym (boot_key feed has written))
        (stands_after b (load_key (booted feed has written)) (set_up_from_disk m source feed written) (boot_loaded feed has written) (boot_over feed has written).running);
    ends = λ feed has written. subst (λ (s : State). EndsAfter b s (set_up_from_disk m source feed written)) (sym (boot_key feed has written))
        (ends_after b (load_key (booted feed has written)) (set_up_from_disk m source feed written) (boot_loaded feed has written) (boot_over feed has written).running);
    does = λ feed has written. subst (λ (s : State). DoesAfter b (boot_cards m source) s (set_up_from_disk m source feed written)) (sym (boot_powered feed has written))
        (does_after b (boot_cards m source) (booted feed has written) (set_up_from_disk m source feed written) (boot_loaded feed has written) (boot_over feed has written).running (boot_over feed has written).takes);
    enters = enters_same;
    same = λ is form. λ i feed written. entered_same is form feed written i;
  }

pub disk_trip : DiskRoundTripLaw
disk_trip m source sized good = makes_disk_trip m source sized good

-- a job, whatever way its machine goes
abbrev without_way : Job → Job
without_way j = record j { way = None }

ends_without : (j : Job) (old new : Seen) (answer : Answer) → EndsWithAnswer j old new answer → EndsWithAnswer (without_way j) old new answer
ends_without j old new answer ends = record { status = ends.status; did = ends.did; rest = ends.rest; refusal = ends.refusal; statement = ends.statement }

-- A load of a deck, by what the program tells
module _ (words : List (List ℕ)) (old new : Seen) (answer : Answer) (r : LaterLoad words old.world) (deck : List ℕ) (cards : List (List ℕ)) (set_up : SetUp) where
  abbrev w : World
  w = all_bound r.said.names old.world

  abbrev m : ℕ
  m = modules_of r.said.core

  abbrev load : Loading
  load = record { deck = deck; feed = r.feed }

  abbrev given : List ScriptLine
  given = later_lines r.steps r.lines

  abbrev binds : List Event
  binds = bind_events all_units r.said.names

  abbrev at_power_on : State
  at_power_on = state_over w (powered_to_load m load)

  abbrev from_key : State
  from_key = state_over w (state_after_load_key m load)

  abbrev entry : State
  entry = state_over w set_up

  -- what is known of the deck: its cards, and where it leads to
  pub record DeckLeads : Type 0 where
    pub deck_is : w.left units.Deck ≡ Some deck
    pub read : entries_of_unit units.Deck 0 deck ≡ map Text cards
    pub ends : EndsAfter r.steps from_key entry
    pub does : DoesAfter r.steps cards at_power_on entry

  abbrev ended_at : List Entry → RunPlace → List Event → Job
  ended_at pile last events =
      let status = status_of last.steps (ending_of last.state) in
      job_behind binds
      (job_leaving (Some (record { state = last.state; own = None; pile = pile; cards = pile ++ entries_of_unit units.Data 0 r.feed.cards; keys = lines_of_feed r.feed })) None status (report_line status) events)

  -- what the load comes to
  abbrev loaded : Job
  loaded = job_behind binds (turns_job None [] r.said.settings.limit (keyed_machine m w given load))

  -- it is the same but for the way that its machine goes
  same_job : DeckLeads → without_way loaded ≡ later_job r cards set_up
  unfolding state_after_load_key
  same_job leads =
      ap (λ (n : ℕ). without_way (job_behind binds (turns_job None [] n (keyed_machine m w given load)))) r.limit_is
      ∙ (λ i. ended_at (leads.read i) (leads.ends r.limit r.lines i) (leads.does r.limit r.lines i))

  -- by any texts that are what is told
  module _ (t : InputTexts) (told : AreTold t w) where
    abbrev given_by : World
    given_by = world_with_texts t w

    -- the job by what is read of the script
    abbrev read_as : Result (List ScriptLine) Status → Option Job
    read_as x = option_map (job_behind binds) (job_read (λ lines. (loaded_promise m r.said.settings lines given_by).job) x)

    job_is : DeckLeads → (said_promise r.said given_by).job ≡ Some loaded
    job_is leads =
        ap (λ (c : Command). option_map (job_behind binds) (job_promise m c r.said.settings given_by).job) r.loads
        ∙ ap (λ (left : Option (List ℕ)). option_map (job_behind binds) (option_and_then (λ text. job_read (λ lines. (loaded_promise m r.said.settings lines given_by).job) (script_read m text)) left)) (told_text (w.left units.Script) r.script t.script r.script_is told.script)
        ∙ ap read_as (short_read m r.script (Ok given) r.script_fits r.lines_are)
        ∙ (λ i. option_map (job_behind binds) (option_map (λ l. turns_job None [] r.said.settings.limit (keyed_machine m w given l)) (loading_of (leads.deck_is i) (r.feed_is i))))

  later_said : DeckLeads → DoesSaid r.said old new answer → answer.status ≢ HostFault → answer.status ≢ OutOfMemory → EndsWithAnswer (later_job r cards set_up) old new answer
  later_said leads kept unfailed found = elim kept.keeps [
    | inl own ↦ subst (λ (j : Job). EndsWithAnswer j old new answer) (same_job leads) (ends_without loaded old new answer (subst (λ (o : Option Job). IfSome o (λ j. EndsWithAnswer j old new answer)) (job_is kept.texts kept.told leads) own.all))
    | inr (inl fault) ↦ absurd (unfailed fault.status)
    | inr (inr lacks) ↦ absurd (found (ap (λ (a : Answer). a.status) lacks.plain))
  ]

  pub later_told : DeckLeads → TellsAnswer words old new answer → answer.status ≢ HostFault → answer.status ≢ OutOfMemory → EndsWithAnswer (later_job r cards set_up) old new answer
  later_told leads (inl told) unfailed found = later_said leads (subst (λ (o : Option WordsSaid). DoesWords o old new answer) r.is told) unfailed found
  later_told leads (inr lacks) unfailed found = absurd (found lacks.0.lacks)

pub trip_told : (words : List (List ℕ)) (old new : Seen) (answer : Answer) → TellsAnswer words old new answer → RoundTrip words old new answer
trip_told words old new answer tells r unfailed found =
    let c : ℕ = modules_of r.load.said.core in
    let world : World = all_bound r.load.said.names old.world in
    let p : Program = program_of c r.form r.source in
    let load : Loading = load_of_made (made_of c r.form r.source) r.load.feed in
    let t = makes_trip c r.form r.source r.load.feed (modules_exist r.load.said.core) r.unbroken in
    let enters : State = state_over world (set_up_at_start p r.load.feed) in
    later_told words old new answer r.load load.deck (deck_of p) (set_up_at_start p r.load.feed)
    (record {
      deck_is = r.deck_is;
      read = t.cards;
      ends = subst (λ (n : ℕ). EndsAfter n (state_over world (state_after_load_key c load)) enters) (sym r.steps_are) (t.ends (machine_texts world));
      does = subst (λ (n : ℕ). DoesAfter n (deck_of p) (state_over world (powered_to_load c load)) enters) (sym r.steps_are) (t.does (machine_texts world));
    })
    tells unfailed found

pub disk_trip_told : (words : List (List ℕ)) (old new : Seen) (answer : Answer) → TellsAnswer words old new answer → DiskRoundTrip words old new answer
disk_trip_told words old new answer tells r unfailed found =
    let c : ℕ = modules_of r.load.said.core in
    let world : World = all_bound r.load.said.names old.world in
    let load : Loading = load_of_boot c r.source r.load.feed in
    let t = makes_disk_trip c r.source (modules_exist r.load.said.core) r.unbroken in
    let enters : State = state_over world (set_up_from_disk c r.source r.load.feed) in
    later_told words old new answer r.load load.deck (boot_cards c r.source) (set_up_from_disk c r.source r.load.feed)
    (record {
      deck_is = r.deck_is;
      read = t.cards;
      ends = subst (λ (n : ℕ). EndsAfter n (state_over world (state_after_load_key c load)) enters) (sym r.steps_are) (t.ends r.load.feed r.sectors (machine_texts world));
      does = subst (λ (n : ℕ). DoesAfter n (boot_cards c r.source) (state_over world (powered_to_load c load)) enters) (sym r.steps_are) (t.does r.load.feed r.sectors (machine_texts world));
    })
    tells unfailed found
