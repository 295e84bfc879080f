-- How the promise of a job is kept: what its parts do, one behind the other.
use Rattle.std.proofs.Common.{◌≡◌, ℕ, ◌≤◌, ◌+◌, Bool, true, false, ◌||◌, List, [], ◌∷◌, ◌++◌, refl, sym, ◌∙◌, ap, subst, append_assoc, arith, inl, inr}
use Rattle.std.proofs.lemmas.Bool.{true≢false}
use Rattle.std.specs.Prelude.{◌≢◌, ◌⊎◌, Option, Some, None, IfSome, option_map, if◌then◌else◌}
use Rattle.outside_io.specs.declared.host.Unit as unit
use Rattle.outside_io.specs.declared.host.Unit.TheVariants as units
use Rattle.outside_io.specs.World.{World, Asked, Seen, Rose, Goes, same_unit, world_after_put}
use Rattle.outside_io.proofs.InMemory.{same_unit-eq}
use Rattle.outside_io.proofs.Worlds.{added_to-nil}
use Rattle.cpu_step.specs.declared.console.Console.{Console}
use Rattle.cpu_step.specs.Machine.{is_written}
use Rattle.sps_listing.specs.declared.standing.StandingLine.{StandingLine}
use Rattle.ibm1620_cli.specs.declared.status.Status.{Status}
use Rattle.ibm1620_cli.specs.declared.status.Status.TheVariants.{HostFault, OutOfMemory}
use Rattle.ibm1620_cli.specs.declared.answer.Answer.{Answer}
use Rattle.ibm1620_cli.specs.Report.{report_line}
use Rattle.outside_io.specs.Whole.{Stops}
use Rattle.outside_io.specs.Events.{Event, after_events, text_events, IsFirstPart, DidAll}
use Rattle.outside_io.proofs.EventLemmas.{same_of, did_on, did_text, first_none, first_on, first_text, FailsWithin}
use Rattle.ibm1620_cli.specs.Makings.{AreMakings}
use Rattle.ibm1620_cli.specs.Inputs.{EndsOnce, reads_nothing, reads_feed, reads_both}
use Rattle.ibm1620_cli.specs.Promise.{ProgramTexts, Job, job_ending, job_behind, LeavesMachine, ShowsRefusal, ShowsStatement, EndsWithAnswer, TakesNone, Unasked, AsksForInputs, StopsAt, answer_of, texts_alone, Promise, promise_behind, KeepsPromise, is_own, is_usage, Outline, outline_after, KeepsOutline}
use Rattle.ibm1620_cli.specs.Parts.{ReportsAs, Reports, IsAlone, LeavesUnread}
use Rattle.ibm1620_cli.proofs.ToldValues.{if_some, all_some}
use Rattle.ibm1620_cli.proofs.TakenInputs.{takes_before, makings_take, unasked_on, asks_on, asks_behind, stops_unasked}
use Rattle.ibm1620_cli.proofs.Leaving.{rest_reported}

-- a line without a byte is no report
pub record Unsaid (mid new : Seen) (status answer : Status) : Type 0 where
  pub world : new.world ≡ mid.world
  pub later : mid.faults ≤ new.faults
  pub answers : (answer ≡ status) ⊎ ((answer ≡ HostFault) × Rose mid.faults new.faults)

front_nil : (a b : List ℕ) → a ++ b ≡ [] → a ≡ []
front_nil [] b is = refl
front_nil (x ∷ a) b is = cc

pub unsaid : (mid new : Seen) (status answer : Status) → report_line status ≡ [] → Reports mid new status answer → Unsaid mid new status answer
unsaid mid new status answer silent (inl done) = record {
  world = done.1.world ∙ ap (λ (line : List ℕ). world_after_put units.Report line mid.world) silent ∙ added_to-nil units.Report mid.world;
  later = done.1.later;
  answers = inl done.0;
}
unsaid mid new status answer silent (inr stops) =
    let nothing : stops.1.written ≡ [] = front_nil stops.1.written stops.1.rest (stops.1.parts ∙ silent) in
    record {
      world = stops.1.goes.world ∙ ap (λ (line : List ℕ). world_after_put units.Report line mid.world) nothing ∙ added_to-nil units.Report mid.world;
      later = stops.1.goes.later;
      answers = inr (stops.0, stops.1.rose);
    }

pub fault_is : (mid new : Seen) (answer : Status) → (answer ≡ HostFault) ⊎ ((answer ≡ HostFault) × Rose mid.faults new.faults) → answer ≡ HostFault
fault_is mid new answer (inl is) = is
fault_is mid new answer (inr is) = is.0

pub neither : (a b : Bool) → (a || b) ≡ false → (a ≡ false) × (b ≡ false)
neither false b none = (refl, none)
neither true b none = cc

-- what is told of a unit's asking stays
pub once_same : (old new : Option Asked) → new ≡ old → EndsOnce old new
once_same None new same = tt
once_same (Some a) new same = subst (EndsOnce (Some a)) (sym same) (let more : a.ends ≤ a.ends + 1 = omega arith in more)

-- where the first or the second of two times it was not asked, it was found to have no more once at most
pub once_first : (a b c : Option Asked) → EndsOnce a b → c ≡ b → EndsOnce a c
once_first a b c once same = subst (EndsOnce a) (sym same) once

pub once_second : (a b c : Option Asked) → b ≡ a → EndsOnce b c → EndsOnce a c
once_second a b c same once = subst (λ (o : Option Asked). EndsOnce o c) same once

-- a report binds nothing
pub added_stays : (u : unit.Unit) (text : List ℕ) (old new : Seen) → Goes old new (world_after_put u text old.world) → LeavesUnread reads_nothing old.world new.world
added_stays u text old new goes = record { in_use = ap (λ (w : World). w.in_use) goes.world; names = ap (λ (w : World). w.names) goes.world; left = λ v unread. ap (λ (w : World). w.left v) goes.world; sectors = λ none. ap (λ (w : World). w.sectors) goes.world; asked = λ v unread. ap (λ (w : World). w.asked v) goes.world; once = λ v fed. once_same _ _ (ap (λ (w : World). w.asked v) goes.world) }

-- and reads nothing
pub report_stays : (old new : Seen) (status : Status) (line : List ℕ) (answer : Status) → ReportsAs old new status line answer → LeavesUnread reads_nothing old.world new.world
report_stays old new status line answer (inl done) = added_stays units.Report line old new done.1
report_stays old new status line answer (inr stops) = added_stays units.Report stops.1.written old new stops.1.goes

-- the one unit that is read first is not read again
once_both : (u v : unit.Unit) (q : unit.Unit → Bool) (same : Bool) (a b c : World) → same_unit u v ≡ same → LeavesUnread (same_unit u) a b → LeavesUnread q b c → q u ≡ false → reads_feed v ≡ false → EndsOnce (a.asked v) (c.asked v)
once_both u v q true a b c is first second apart fed = once_first (a.asked v) (b.asked v) (c.asked v) (first.once v fed) (second.asked v (subst (λ (x : unit.Unit). q x ≡ false) (same_unit-eq u v is) apart))
once_both u v q false a b c is first second apart fed = once_second (a.asked v) (b.asked v) (c.asked v) (first.asked v is) (second.once v fed)

-- a unit is read, and then others are
pub stays_both : (u : unit.Unit) (q : unit.Unit → Bool) (a b c : World) → q u ≡ false → LeavesUnread (same_unit u) a b → LeavesUnread q b c → LeavesUnread (reads_both (same_unit u) q) a c
stays_both u q a b c apart first second = record {
  in_use = second.in_use ∙ first.in_use;
  names = second.names ∙ first.names;
  left = λ v unread. second.left v (neither (same_unit u v) (q v) unread).1 ∙ first.left v (neither (same_unit u v) (q v) unread).0;
  sectors = λ none. second.sectors (neither (same_unit u units.Pack) (q units.Pack) none).1 ∙ first.sectors (neither (same_unit u units.Pack) (q units.Pack) none).0;
  asked = λ v unread. second.asked v (neither (same_unit u v) (q v) unread).1 ∙ first.asked v (neither (same_unit u v) (q v) unread).0;
  once = λ v fed. once_both u v q (same_unit u v) a b c refl first second apart fed;
}

-- one thing after another, of which the second reads nothing, or both read what a machine works with
pub stays_on : (r : unit.Unit → Bool) (a b c : World) → LeavesUnread r a b → LeavesUnread reads_nothing b c → LeavesUnread r a c
stays_on r a b c first second = record { in_use = second.in_use ∙ first.in_use; names = second.names ∙ first.names; left = λ u unread. second.left u refl ∙ first.left u unread; sectors = λ none. second.sectors refl ∙ first.sectors none; asked = λ u unread. second.asked u refl ∙ first.asked u unread; once = λ u fed. once_first (a.asked u) (b.asked u) (c.asked u) (first.once u fed) (second.asked u refl) }

pub stays_again : (a b c : World) → LeavesUnread reads_feed a b → LeavesUnread reads_feed b c → LeavesUnread reads_feed a c
stays_again a b c first second = record { in_use = second.in_use ∙ first.in_use; names = second.names ∙ first.names; left = λ u unread. second.left u unread ∙ first.left u unread; sectors = λ none. second.sectors none ∙ first.sectors none; asked = λ u unread. second.asked u unread ∙ first.asked u unread; once = λ u fed. once_first (a.asked u) (b.asked u) (c.asked u) (first.once u fed) (second.asked u fed) }

-- what reads less
pub stays_less : (r q : unit.Unit → Bool) (a b : World) → LeavesUnread r a b → LeavesUnread (reads_both r q) a b
stays_less r q a b stays = record { in_use = stays.in_use; names = stays.names; left = λ u unread. stays.left u (neither (r u) (q u) unread).0; sectors = λ none. stays.sectors (neither (r units.Pack) (q units.Pack) none).0; asked = λ u unread. stays.asked u (neither (r u) (q u) unread).0; once = stays.once }

pub stays_none : (r : unit.Unit → Bool) (a b : World) → LeavesUnread reads_nothing a b → LeavesUnread r a b
stays_none r a b stays = record { in_use = stays.in_use; names = stays.names; left = λ u unread. stays.left u refl; sectors = λ none. stays.sectors refl; asked = λ u unread. stays.asked u refl; once = stays.once }

pub stays_same : (r : unit.Unit → Bool) (old new : Seen) → new ≡ old → LeavesUnread r old.world new.world
stays_same r old new same = record { in_use = ap (λ (s : Seen). s.world.in_use) same; names = ap (λ (s : Seen). s.world.names) same; left = λ u unread. ap (λ (s : Seen). s.world.left u) same; sectors = λ none. ap (λ (s : Seen). s.world.sectors) same; asked = λ u unread. ap (λ (s : Seen). s.world.asked u) same; once = λ u fed. once_same _ _ (ap (λ (s : Seen). s.world.asked u) same) }

-- two lists of makings are one
pub both_makings : (ds es : List Event) → AreMakings ds → AreMakings es → AreMakings (ds ++ es)
both_makings [] es a b = b
both_makings (d ∷ ds) es a b = (a.0, both_makings ds es a.1 b)

-- AN ANSWER OF A STATUS ALONE

pub alone_of : (answer : Answer) (status : Status) → answer ≡ answer_of status → IsAlone answer
alone_of answer status is = record { console = ap (λ (a : Answer). a.console) is; refusal = ap (λ (a : Answer). a.refusal) is; statement = ap (λ (a : Answer). a.statement) is }

pub alone_is : (answer : Answer) (status : Status) → answer.status ≡ status → IsAlone answer → answer ≡ answer_of status
alone_is answer status is alone = λ i. record { status = is i; console = alone.console i; refusal = alone.refusal i; statement = alone.statement i }

-- what is reported is the status of such an answer
pub reports_of : (mid new : Seen) (said status : Status) (line : List ℕ) (answer : Answer) → answer ≡ answer_of status → ReportsAs mid new said line status → ReportsAs mid new said line answer.status
reports_of mid new said status line answer is reports = subst (λ (a : Answer). ReportsAs mid new said line a.status) (sym is) reports

-- no statement is shown, where a machine runs no program of a source
pub unstated_shows : (program : Option ProgramTexts) (shown : Option Console) (line : Option StandingLine) → program ≡ None → line ≡ None → ShowsStatement program shown line
unstated_shows program shown line none unstated = subst (λ (p : Option ProgramTexts). ShowsStatement p shown line) (sym none) unstated

-- ENDS

-- a job of which the last line is all that is still to be done, and whose machine runs no program of a source
pub record ReadyJob (j : Job) (status : Status) (line : List ℕ) (answer : Answer) (old now : World) : Type 0 where
  pub before : List Event
  pub status_is : j.status ≡ status
  pub events_are : j.events ≡ before ++ text_events units.Report line
  pub did : DidAll before old now
  pub leaves : LeavesMachine j.rest answer.console now
  pub inputs : AsksForInputs j.rest j.way before answer.console old now
  pub refusal : answer.status ≢ HostFault → ShowsRefusal j.refusal answer.refusal
  pub program : j.program ≡ None

-- the host failed within a line that is reported last
pub stops_reported : (j : Job) (before : List Event) (line : List ℕ) (shown : Option Console) (start : World) (mid new : Seen) → j.events ≡ before ++ text_events units.Report line → DidAll before start mid.world → AsksForInputs j.rest j.way before shown start mid.world
    → Stops mid new units.Report line → StopsAt j shown start new.world
stops_reported j before line shown start mid new is did inputs stops = record {
  did = record {
    done = before ++ text_events units.Report stops.written;
    part = subst (IsFirstPart (before ++ text_events units.Report stops.written)) (sym is) (first_on before (text_events units.Report stops.written) (text_events units.Report line) (first_text units.Report stops.written stops.rest line stops.parts));
    did = did_on before (text_events units.Report stops.written) start mid.world new.world did (did_text units.Report stops.written mid.world new.world stops.goes.world);
  };
  inputs = asks_on j.rest j.way before (before ++ text_events units.Report stops.written) shown start mid.world new.world (takes_before before units.Report stops.written) (ap (λ (w : World). w.left) stops.goes.world) (ap (λ (w : World). w.asked) stops.goes.world) inputs;
}

-- a status of a job's own is no fault of the host
pub no_fault : (answer : Answer) (status : Status) → is_own status ≡ true → answer.status ≡ status → answer.status ≢ HostFault
no_fault answer status own is fault = true≢false (sym own ∙ ap is_own (sym is ∙ fault))

-- another unit is as it was
pub other_left : {A : Type 0} (same : Bool) (old new : A) → same ≡ false → (if same then new else old) ≡ old
other_left true old new other = cc
other_left false old new other = refl

-- what is known of a job stays so while a line is reported
pub outline_reported : (c : Option Outline) (start : World) (mid new : Seen) (status : Status) (line : List ℕ) → Goes mid new (world_after_put units.Report line mid.world) → IfSome c (λ o. KeepsOutline o start mid.world status) → IfSome c (λ o. KeepsOutline o start new.world status)
outline_reported c start mid new status line goes keeps = if_some c (λ o k. record {
  ends = k.ends;
  written = λ u silent.
      ap (λ (w : World). w.written u) goes.world
      ∙ other_left (same_unit units.Report u) (mid.world.written u) (option_map (λ text. text ++ line) (mid.world.written u)) (neither (is_written u) (same_unit units.Report u) silent).1
      ∙ k.written u silent;
}) keeps

-- the last line is reported
pub promise_report : (c : Promise) (start mid new : Seen) (status : Status) (line : List ℕ) (answer : Answer) → start.faults ≤ mid.faults → is_own status ≡ true → is_usage status ≡ c.usage
    → (answer.status ≡ HostFault → answer.refusal ≡ None) → answer.statement ≡ None → IfSome c.job (λ j. ReadyJob j status line answer start.world mid.world) → IfSome c.outline (λ o. KeepsOutline o start.world mid.world status) → ReportsAs mid new status line answer.status → KeepsPromise c start new answer
promise_report c start mid new status line answer later own usage_is unshown unstated ready known (inl done) = inl (record {
  own = ap is_own done.0 ∙ own;
  usage_is = ap is_usage done.0 ∙ usage_is;
  all = if_some c.job (λ j r. record {
    status = done.0 ∙ sym r.status_is;
    did = subst (λ (ds : List Event). DidAll ds start.world new.world) (sym r.events_are)
        (did_on r.before (text_events units.Report line) start.world mid.world new.world r.did (did_text units.Report line mid.world new.world done.1.world));
    rest = rest_reported j.rest answer.console mid new line done.1 r.leaves;
    refusal = r.refusal (no_fault answer status own done.0);
    statement = unstated_shows j.program answer.console answer.statement r.program unstated;
  }) ready;
  outline = subst (λ (s : Status). IfSome c.outline (λ o. KeepsOutline o start.world new.world s)) (sym done.0) (outline_reported c.outline start.world mid new status line done.1 known);
})
promise_report c start mid new status line answer later own usage_is unshown unstated ready known (inr stops) = inr (inl (record {
  status = stops.0;
  refusal = unshown stops.0;
  statement = unstated;
  rose = omega (arith, later, stops.1.rose);
  part = if_some c.job (λ j r. stops_reported j r.before line answer.console start.world mid new r.events_are r.did r.inputs stops.1) ready;
}))

-- a fault behind a first part, of which nothing is reported
pub promise_fault : (c : Promise) (start mid new : Seen) (answer : Answer) → Rose start.faults mid.faults → IfSome c.job (λ j. StopsAt j answer.console start.world mid.world) → Reports mid new HostFault answer.status → answer.refusal ≡ None → answer.statement ≡ None → KeepsPromise c start new answer
promise_fault c start mid new answer rose part reports unshown unstated =
    let u = unsaid mid new HostFault answer.status refl reports in
    inr (inl (record {
      status = fault_is mid new answer.status u.answers;
      refusal = unshown;
      statement = unstated;
      rose = omega (arith, rose, u.later);
      part = subst (λ (w : World). IfSome c.job (λ j. StopsAt j answer.console start.world w)) (sym u.world) part;
    }))

pub none_part : (j : Job) (w v : World) → DidAll [] w v → Unasked w v → StopsAt j None w v
none_part j w v did still = stops_unasked j [] j.events w v refl (refl, refl) still (record { done = []; part = first_none []; did = did })

-- a fault within what stands before the last line
pub promise_cut : (c : Promise) (start new : Seen) (status : Status) (before : List Event) → c.job ≡ Some (job_ending status (report_line status) before) → TakesNone before → Unasked start.world new.world → FailsWithin before start new → KeepsPromise c start new (answer_of HostFault)
promise_cut c start new status before is none still fails = inr (inl (record {
  status = refl;
  refusal = refl;
  statement = refl;
  rose = fails.rose;
  part = subst (λ (o : Option Job). IfSome o (λ j. StopsAt j None start.world new.world)) (sym is)
      (stops_unasked (job_ending status (report_line status) before) before (text_events units.Report (report_line status)) start.world new.world refl none still fails.part);
}))

-- no memory, before anything is done
pub promise_memory : (c : Promise) (start mid : Seen) → DidAll [] start.world mid.world → Unasked start.world mid.world → c.made.bindings ≡ [] → c.usage ≡ false → KeepsPromise c start mid (answer_of OutOfMemory)
promise_memory c start mid did still unbound plain = inr (inr (record {
  words = plain;
  plain = refl;
  done = [];
  did = subst (λ (bs : List Event). DidAll (bs ++ []) start.world mid.world) (sym unbound) did;
  makings = tt;
  part = all_some c.made.texts first_none;
  unasked = still;
}))

pub promise_lacking : (c : Promise) (start mid new : Seen) (answer : Answer) → DidAll [] start.world mid.world → Unasked start.world mid.world → c.made.bindings ≡ [] → start.faults ≤ mid.faults → c.usage ≡ false → Reports mid new OutOfMemory answer.status → IsAlone answer → KeepsPromise c start new answer
promise_lacking c start mid new answer did still unbound later plain reports alone = by_answer (unsaid mid new OutOfMemory answer.status refl reports)
  where
    by_answer : Unsaid mid new OutOfMemory answer.status → KeepsPromise c start new answer
    by_answer u =
        let here : DidAll [] start.world new.world = subst (λ (w : World). DidAll [] start.world w) (sym u.world) did in
        let still_here : Unasked start.world new.world = subst (λ (w : World). Unasked start.world w) (sym u.world) still in
        elim u.answers [
          | inl is ↦ subst (λ (a : Answer). KeepsPromise c start new a) (sym (alone_is answer OutOfMemory is alone)) (promise_memory c start new here still_here unbound plain)
          | inr fault ↦ inr (inl (record {
            status = fault.0;
            refusal = alone.refusal;
            statement = alone.statement;
            rose = omega (arith, later, fault.1);
            part = all_some c.job (λ j. subst (λ (o : Option Console). StopsAt j o start.world new.world) (sym alone.console) (none_part j start.world new.world here still_here));
          }))
        ]

-- BEHIND WHAT WAS DONE BEFORE

module _ (before : List Event) (old mid new : Seen) (did : DidAll before old.world mid.world) where
  pub own_on : (o : Option Job) (answer : Answer) → IfSome o (λ j. EndsWithAnswer j mid new answer) → IfSome (option_map (job_behind before) o) (λ j. EndsWithAnswer j old new answer)
  own_on None answer all = tt
  own_on (Some j) answer all = record { status = all.status; did = did_on before j.events old.world mid.world new.world did all.did; rest = all.rest; refusal = all.refusal; statement = all.statement }

  -- what is known of a job
  pub outline_since : (o : Outline) (status : Status) → KeepsOutline o mid.world new.world status → KeepsOutline (outline_after before o) old.world new.world status
  outline_since o status keeps =
      let there : World = after_events mid.world o.before in
      record {
        ends = keeps.ends;
        written = λ u silent. keeps.written u silent ∙ ap (λ (written : unit.Unit → Option (List ℕ)). written u) (did_on before o.before old.world mid.world there did (same_of there there refl)).written;
      }

  pub outline_on : (c : Option Outline) (status : Status) → IfSome c (λ o. KeepsOutline o mid.world new.world status) → IfSome (option_map (outline_after before) c) (λ o. KeepsOutline o old.world new.world status)
  outline_on None status keeps = tt
  outline_on (Some o) status keeps = outline_since o status keeps

  -- which takes no card and no line, and no input was asked
  pub part_on : TakesNone before → Unasked old.world mid.world → (o : Option Job) (shown : Option Console) → IfSome o (λ j. StopsAt j shown mid.world new.world) → IfSome (option_map (job_behind before) o) (λ j. StopsAt j shown old.world new.world)
  part_on none still None shown part = tt
  part_on none still (Some j) shown part = record {
    did = record {
      done = before ++ part.did.done;
      part = first_on before part.did.done j.events part.did.part;
      did = did_on before part.did.done old.world mid.world new.world did part.did.did;
    };
    inputs = asks_behind j.rest j.way before part.did.done shown old.world mid.world new.world none still part.inputs;
  }

-- behind bindings
pub promise_bound : (binds : List Event) (c : Promise) (old mid new : Seen) → old.faults ≤ mid.faults → DidAll binds old.world mid.world → TakesNone binds → Unasked old.world mid.world → (answer : Answer) → KeepsPromise c mid new answer → KeepsPromise (promise_behind binds c) old new answer
promise_bound binds c old mid new later did none still answer (inl own) = inl (record { own = own.own; usage_is = own.usage_is; all = own_on binds old mid new did c.job answer own.all; outline = outline_on binds old mid new did c.outline answer.status own.outline })
promise_bound binds c old mid new later did none still answer (inr (inl fault)) = inr (inl (record { status = fault.status; refusal = fault.refusal; statement = fault.statement; rose = omega (arith, later, fault.rose); part = part_on binds old mid new did none still c.job answer.console fault.part }))
promise_bound binds c old mid new later did none still answer (inr (inr lacks)) = inr (inr (record {
  words = lacks.words;
  plain = lacks.plain;
  done = lacks.done;
  did = subst (λ (ds : List Event). DidAll ds old.world new.world) (sym (append_assoc binds c.made.bindings lacks.done)) (did_on binds (c.made.bindings ++ lacks.done) old.world mid.world new.world did lacks.did);
  makings = lacks.makings;
  part = lacks.part;
  unasked = unasked_on old.world mid.world new.world still lacks.unasked;
}))

-- behind texts that were made
pub promise_made : (texts : List Event) → AreMakings texts → (j : Option Job) (known : Option Outline) (more : List Event) (old mid new : Seen) → old.faults ≤ mid.faults → DidAll texts old.world mid.world → Unasked old.world mid.world → (answer : Answer)
    → KeepsPromise (record { job = j; outline = known; made = texts_alone (Some more); usage = false }) mid new answer → KeepsPromise (record { job = option_map (job_behind texts) j; outline = option_map (outline_after texts) known; made = texts_alone (Some (texts ++ more)); usage = false }) old new answer
promise_made texts makings j known more old mid new later did still answer (inl own) = inl (record { own = own.own; usage_is = own.usage_is; all = own_on texts old mid new did j answer own.all; outline = outline_on texts old mid new did known answer.status own.outline })
promise_made texts makings j known more old mid new later did still answer (inr (inl fault)) = inr (inl (record { status = fault.status; refusal = fault.refusal; statement = fault.statement; rose = omega (arith, later, fault.rose); part = part_on texts old mid new did (makings_take texts makings) still j answer.console fault.part }))
promise_made texts makings j known more old mid new later did still answer (inr (inr lacks)) = inr (inr (record {
  words = lacks.words;
  plain = lacks.plain;
  done = texts ++ lacks.done;
  did = did_on texts lacks.done old.world mid.world new.world did lacks.did;
  makings = both_makings texts lacks.done makings lacks.makings;
  part = first_on texts lacks.done more lacks.part;
  unasked = unasked_on old.world mid.world new.world still lacks.unasked;
}))
