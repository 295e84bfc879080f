-- The promises of jobs once their source is read.
use Rattle.std.proofs.Common.{◌≡◌, ◌≤◌, ℕ, Bool, true, false, List, [], ◌++◌, length, refl, sym, ◌∙◌, ap, subst, arith, inl, inr}
use Rattle.std.proofs.lemmas.Bool.Decides.{nat_tests}
use Rattle.std.specs.Prelude.{Option, Some, None, IfSome, option_map, Result, Ok, Err, nat_lt, if◌then◌else◌}
use Rattle.outside_io.specs.declared.host.Unit as unit
use Rattle.outside_io.specs.declared.host.Unit.TheVariants as units
use Rattle.outside_io.specs.World.{World, Readings, Seen, world_after_take}
use Rattle.outside_io.specs.Events.{Event, text_events}
use Rattle.outside_io.proofs.EventLemmas.{did_none}
use Rattle.digit_core.specs.Size.{size}
use Rattle.sps_ops.specs.declared.rule.Rule.{Rule}
use Rattle.sps_pass_one.specs.declared.fault.Fault.{Fault}
use Rattle.sps_pass_one.specs.Layout.{Refusal}
use Rattle.sps_pass_two.specs.declared.assembled.AsmFault.TheVariants.{Broken}
use Rattle.sps_pass_two.specs.Assembling.{Assembles}
use Rattle.sps_pass_two.specs.Broken.{refusal_of, statement_and_fault}
use Rattle.sps_listing.specs.Texts.{refusal_line}
use Rattle.sps_listing.specs.Refused.{refused_text}
use Rattle.ibm1620_cli.specs.declared.status.Status.{Status}
use Rattle.ibm1620_cli.specs.declared.answer.Answer.{Answer}
use Rattle.ibm1620_cli.specs.declared.status.Status.TheVariants.{Refused, TooLong, OutOfMemory}
use Rattle.ibm1620_cli.specs.Promise.{unasked, ShowsRefusal, answer_of, Making, texts_alone, Promise, KeepsPromise, InputTexts, world_with_texts, KeepsJob, nothing_done}
use Rattle.ibm1620_cli.specs.declared.source.SoundSource.{SoundSource}
use Rattle.ibm1620_cli.specs.Inputs.{reads_nothing, reads_source, reads_both}
use Rattle.ibm1620_cli.specs.Report.{report_line}
use Rattle.ibm1620_cli.specs.Reading.{text_read}
use Rattle.ibm1620_cli.specs.Source.{longest_source, source_read, promise_by, assembly_promise, source_promise}
use Rattle.ibm1620_cli.specs.Parts.{Reports, RefusesAndShows, RefusesOrLacks, TakesFrom, Unread, AssemblesOrRefuses, ReadsSource, RefusesSource, breaks, no_memory, EndsAtSource, without, with_broken, LeavesUnread}
use Rattle.ibm1620_cli.proofs.KeptPromises.{report_stays, stays_on, stays_less, stays_same, promise_report, promise_memory}
use Rattle.ibm1620_cli.proofs.Readings.{takes_stays, unread_stays, source_alone, promise_unread, keeps_read, read_apart}

-- how a short source is read
pub short_source : (source : List ℕ) → length source ≤ longest_source → source_read source ≡ Ok source
unfolding source_read
short_source source short =
    let test : nat_lt longest_source (length source) ≡ false = grind (arith, nat_tests) in
    rw test refl

same_by : (b : Bool) (text source : List ℕ) (e : Status) → (if b then Err e else Ok text) ≡ Ok source → text ≡ source
same_by true text source e is = cc
same_by false text source e is = cc

-- what is read of a source is the source
pub read_same : (text source : List ℕ) → source_read text ≡ Ok source → text ≡ source
unfolding source_read
read_same text source is = same_by (nat_lt longest_source (length text)) text source (TooLong units.Source) is

-- what is read of its unit
pub source_takes : (start later : Seen) (bytes : List ℕ) → TakesFrom units.Source start later (λ text. text_read longest_source units.Source text ≡ Ok bytes) → TakesFrom units.Source start later (λ text. source_read text ≡ Ok bytes)
unfolding source_read
source_takes start later bytes takes = takes

source_unread : (start later : Seen) (s : Status) → Unread units.Source (text_read longest_source units.Source) start later s → Unread units.Source source_read start later s
unfolding source_read
source_unread start later s none = none

-- a source is read and assembled, or the job ends there
pub reads_sound : (m : ℕ) (start mid new : Seen) (bytes : List ℕ) (r : Result SoundSource Answer) → TakesFrom units.Source start mid (λ text. text_read longest_source units.Source text ≡ Ok bytes) → AssemblesOrRefuses m bytes mid new r → ReadsSource m start new r
reads_sound m start mid new bytes (Ok sound) takes assembles =
    let read : TakesFrom units.Source start mid (λ text. source_read text ≡ Ok sound.source.items) = subst (λ (b : List ℕ). TakesFrom units.Source start mid (λ text. source_read text ≡ Ok b)) (sym assembles.0) (source_takes start mid bytes takes) in
    (subst (λ (now : Seen). TakesFrom units.Source start now (λ text. source_read text ≡ Ok sound.source.items)) (sym assembles.2) read, assembles.1)
reads_sound m start mid new bytes (Err answer) takes refuses = with_broken mid bytes (source_takes start mid bytes takes) refuses

pub reads_none : (m : ℕ) (start mid new : Seen) (s status : Status) → Unread units.Source (text_read longest_source units.Source) start mid s → Reports mid new s status → EndsAtSource m start new (answer_of status)
reads_none m start mid new s status none reports = without mid s (source_unread start mid s none) reports (record { console = refl; refusal = refl; statement = refl })

-- two worlds in which the same is done behind the source
pub by_apart : (next : List ℕ → World → Promise) (source : List ℕ) (o : Option Refusal) (w v : World) → next source w ≡ next source v → promise_by next source o w ≡ promise_by next source o v
by_apart next source None w v same = same
by_apart next source (Some r) w v same = refl

pub source_apart : (m : ℕ) (made : World → Option (List Event)) (next : List ℕ → World → Promise) (w v : World) → w.left units.Source ≡ v.left units.Source → made w ≡ made v → ((source : List ℕ) → next source w ≡ next source v) → source_promise m made next w ≡ source_promise m made next v
source_apart m made next w v left same_made same =
    read_apart units.Source source_read made (assembly_promise m next) w v left same_made (λ source. by_apart next source (refusal_of (size m) source) w v (same source))

-- A JOB BEHIND ITS SOURCE, which was read
pub record FollowsSource (m : ℕ) (made : World → Option (List Event)) (next : List ℕ → World → Promise) (source : List ℕ) : Type 1 where
  pub plain : (w : World) → (next source w).usage ≡ false
  pub unbound : (w : World) → (next source w).made.bindings ≡ []
  pub apart : (gone : Readings) (t : InputTexts) (w : World) → next source (world_after_take units.Source gone w) ≡ next source (world_with_texts t w)
  pub texts : (o : Option Refusal) (w : World) (P : List Event → Type 0) → refusal_of (size m) source ≡ o → IfSome (w.left units.Source) (λ text. text ≡ source) → IfSome (promise_by next source o w).made.texts P → IfSome (made w) P

-- its first broken statement is reported
pub refused_promise : (next : List ℕ → World → Promise) (source : List ℕ) (o : Option Refusal) (start new : Seen) (statement : ℕ) (rule : Rule) (part : Option ℕ) (answer : Answer) → option_map statement_and_fault o ≡ Some (statement, record { rule = rule; part = part })
    → RefusesAndShows source statement rule part start new answer → KeepsPromise (promise_by next source o start.world) start new answer
refused_promise next source None start new statement rule part answer is refuses = cc
refused_promise next source (Some r) start new statement rule part answer is refuses =
    let fault : Fault = record { rule = rule; part = part } in
    let pair : statement_and_fault r ≡ (statement, fault) = cc in
    promise_report (promise_by next source (Some r) start.world) start start new (Refused statement rule) (refusal_line source statement rule part) answer (omega arith) refl refl refuses.unshown refuses.unstated
    (record {
      before = [];
      status_is = λ i. Refused (pair i).0 (pair i).1.rule;
      events_are = λ i. [] ++ text_events units.Report (refusal_line source (pair i).0 (pair i).1.rule (pair i).1.part);
      did = did_none start.world;
      leaves = refuses.console;
      inputs = unasked (refl, refl) (λ u read. refl) refuses.console;
      refusal = λ other. subst (λ (p : ℕ × Fault). ShowsRefusal (Some (refused_text source p.0 p.1.rule p.1.part)) answer.refusal) (sym pair) (refuses.shows other);
      program = refl;
    }) tt refuses.reports

module _ (m : ℕ) (made : World → Option (List Event)) (next : List ℕ → World → Promise) (source : List ℕ) (follows : FollowsSource m made next source) where
  abbrev behind : World → Promise
  behind w = promise_by next source (refusal_of (size m) source) w

  plain_behind : (o : Option Refusal) (w : World) → (promise_by next source o w).usage ≡ false
  plain_behind None w = follows.plain w
  plain_behind (Some r) w = refl

  unbound_behind : (o : Option Refusal) (w : World) → (promise_by next source o w).made.bindings ≡ []
  unbound_behind None w = follows.unbound w
  unbound_behind (Some r) w = refl

  module _ (start later new : Seen) (takes : TakesFrom units.Source start later (λ text. source_read text ≡ Ok source)) where
    abbrev given : World
    given = world_with_texts ((source_alone start.world).with takes.text) start.world

    abbrev broken_by : Option Refusal
    broken_by = refusal_of (size m) source

    rest : (answer : Answer) → KeepsPromise (behind later.world) later new answer → KeepsJob (source_promise m made next) start new answer
    rest answer kept =
        keeps_read units.Source refl source_read made (assembly_promise m next) start later new (source_alone start.world) source takes later.world
        (ap behind takes.goes.world ∙ by_apart next source broken_by (world_after_take units.Source takes.gone start.world) given (follows.apart takes.gone ((source_alone start.world).with takes.text) start.world))
        (plain_behind broken_by given) (unbound_behind broken_by given) (λ P here. follows.texts broken_by given P refl (read_same takes.text source takes.says) here) answer kept

    -- it breaks no rule, and the rest was done
    pub promise_sound : (answer : Answer) → refusal_of (size m) source ≡ None → KeepsPromise (next source later.world) later new answer → KeepsJob (source_promise m made next) start new answer
    promise_sound answer good kept = rest answer (subst (λ (o : Option Refusal). KeepsPromise (promise_by next source o later.world) later new answer) (sym good) kept)

    -- it's refused
    pub promise_refused : (answer : Answer) → RefusesSource m source later new answer → KeepsJob (source_promise m made next) start new answer
    promise_refused answer (breaks statement rule part broken reports) = rest answer (refused_promise next source (refusal_of (size m) source) later new statement rule part answer broken reports)
    promise_refused answer (no_memory is same) =
        rw is
        (rest (answer_of OutOfMemory)
        (subst (λ (now : Seen). KeepsPromise (behind later.world) later now (answer_of OutOfMemory)) (sym same)
        (promise_memory (behind later.world) later later (did_none later.world) (λ u read. refl) (unbound_behind (refusal_of (size m) source) later.world) (plain_behind (refusal_of (size m) source) later.world))))

-- a job ends at its source, whatever would follow
pub ends_at_source : (m : ℕ) (made : World → Option (List Event)) (next : List ℕ → World → Promise) → ((source : List ℕ) → FollowsSource m made next source) → (start new : Seen) (answer : Answer) → EndsAtSource m start new answer → KeepsJob (source_promise m made next) start new answer
ends_at_source m made next follows start new answer (without mid s none reports alone) = promise_unread units.Source refl source_read made (assembly_promise m next) start mid new (source_alone start.world) s answer none reports alone
ends_at_source m made next follows start new answer (with_broken mid source takes refused) = promise_refused m made next source (follows source) start mid new takes answer refused

-- a job that takes its memory before anything is done
made_nothing : (next : List ℕ → World → Promise) (source : List ℕ) (o : Option Refusal) (w : World) (P : List Event → Type 0) → (next source w).made ≡ texts_alone (Some []) → IfSome (promise_by next source o w).made.texts P → P []
made_nothing next source None w P is here = subst (λ (made : Making). IfSome made.texts P) is here
made_nothing next source (Some r) w P is here = here

pub follows_nothing : (m : ℕ) (next : List ℕ → World → Promise) (source : List ℕ) → ((w : World) → (next source w).usage ≡ false) → ((gone : Readings) (t : InputTexts) (w : World) → next source (world_after_take units.Source gone w) ≡ next source (world_with_texts t w)) → ((w : World) → (next source w).made ≡ texts_alone (Some [])) → FollowsSource m nothing_done next source
follows_nothing m next source plain apart nothing = record { plain = plain; unbound = λ w. ap (λ (made : Making). made.bindings) (nothing w); apart = apart; texts = λ o w P good told here. made_nothing next source o w P (nothing w) here }

-- a source is refused by its first broken statement, or there was no memory for that
pub refuses_source : (m : ℕ) (source : List ℕ) (old new : Seen) (statement : ℕ) (rule : Rule) (part : Option ℕ) (answer : Answer) → Assembles (size m) source (Err (Broken statement rule part)) → RefusesOrLacks source statement rule part old new answer → RefusesSource m source old new answer
refuses_source m source old new statement rule part answer broken (inl refuses) = breaks statement rule part broken refuses
refuses_source m source old new statement rule part answer broken (inr lacks) = no_memory lacks.0 lacks.1

-- WHAT IS READ

-- a refusal reads nothing
pub refuses_stays : (m : ℕ) (source : List ℕ) (old new : Seen) (answer : Answer) → RefusesSource m source old new answer → LeavesUnread reads_nothing old.world new.world
refuses_stays m source old new answer (breaks statement rule part broken refuses) = report_stays old new (Refused statement rule) (refusal_line source statement rule part) answer.status refuses.reports
refuses_stays m source old new answer (no_memory is same) = stays_same reads_nothing old new same

-- where a job ends at its source, nothing else is read
pub ended_stays : (m : ℕ) (old new : Seen) (answer : Answer) → EndsAtSource m old new answer → LeavesUnread reads_source old.world new.world
ended_stays m old new answer (without mid s unread reports alone) =
    stays_on reads_source old.world mid.world new.world (unread_stays units.Source source_read old mid s unread) (report_stays mid new s (report_line s) answer.status reports)
ended_stays m old new answer (with_broken mid source takes refuses) =
    stays_on reads_source old.world mid.world new.world (takes_stays units.Source old mid (λ text. source_read text ≡ Ok source) takes) (refuses_stays m source mid new answer refuses)

pub ended_then : (q : unit.Unit → Bool) (m : ℕ) (old new : Seen) (answer : Answer) → EndsAtSource m old new answer → LeavesUnread (reads_both reads_source q) old.world new.world
ended_then q m old new answer ended = stays_less reads_source q old.world new.world (ended_stays m old new answer ended)
