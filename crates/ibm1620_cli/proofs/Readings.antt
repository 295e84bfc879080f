-- The promises of jobs that begin with the reading of a unit.
use Rattle.std.proofs.Common.{◌≡◌, ◌<◌, ◌≤◌, ◌+◌, ◌-◌, ℕ, Bool, true, false, List, [], ◌++◌, length, refl, sym, ◌∙◌, ap, subst, arith, inl, inr}
use Rattle.std.proofs.lemmas.Bool.{true≢false}
use Rattle.std.proofs.lemmas.Bool.Decides.{nat_tests}
use Rattle.std.specs.Prelude.{nat_lt, Option, Some, None, IfSome, unwrap_or, option_and_then, option_map, min, Result, Ok, Err, if◌then◌else◌}
use Rattle.outside_io.specs.declared.host.Unit as unit
use Rattle.outside_io.specs.declared.host.Unit.TheVariants as units
use Rattle.outside_io.specs.World.{World, Asked, Readings, asked_after, most_faults, Seen, Goes, same_unit, world_after_take}
use Rattle.outside_io.specs.Whole.{whole_readings, ReadsWhole, ReadsPart}
use Rattle.outside_io.specs.Events.{Event, DidAll}
use Rattle.outside_io.proofs.EventLemmas.{did_on, did_taken}
use Rattle.outside_io.proofs.InMemory.{same_unit-eq}
use Rattle.cpu_step.specs.Machine.{is_read}
use Rattle.ibm1620_cli.specs.declared.status.Status.{Status}
use Rattle.ibm1620_cli.specs.declared.answer.Answer.{Answer}
use Rattle.cpu_step.specs.declared.console.Console.{Console}
use Rattle.ibm1620_cli.specs.declared.status.Status.TheVariants.{TooLong}
use Rattle.ibm1620_cli.specs.Reading.{read_within, text_read}
use Rattle.ibm1620_cli.specs.Inputs.{EndsOnce, reads_both}
use Rattle.ibm1620_cli.specs.Report.{report_line}
use Rattle.ibm1620_cli.specs.Promise.{Job, ShowsRefusal, Unasked, unasked, StopsAt, texts_alone, Promise, KeepsPromise, Outline, KeepsOutline, job_read, outline_read, read_promise, InputTexts, with_texts, world_with_texts, AreTold, KeepsFrom, KeepsJob}
use Rattle.ibm1620_cli.specs.Parts.{Reports, IsAlone, TakesFrom, Loses, Unread, refused, host_failed, lacking, LeavesUnread}
use Rattle.ibm1620_cli.proofs.ToldValues.{if_some, all_some}
use Rattle.ibm1620_cli.proofs.TakenInputs.{unasked_on, asks_behind}
use Rattle.ibm1620_cli.proofs.KeptPromises.{ReadyJob, once_same, once_first, report_stays, stays_both, stays_on, stays_less, other_left, outline_since, promise_report, promise_fault, promise_lacking, none_part}

-- what a unit holds, by what is told or else by what was taken
pub told_or : (o : Option (List ℕ)) (a : List ℕ) → IfSome o (λ all. all ≡ unwrap_or o a)
told_or None a = tt
told_or (Some x) a = refl

told_holds : (P : List ℕ → Type 0) (o : Option (List ℕ)) (a : List ℕ) → IfSome o P → P a → P (unwrap_or o a)
told_holds P None a told other = other
told_holds P (Some x) a told other = told

-- all that is told, and no byte where nothing is
abbrev pub texts_told : World → InputTexts
texts_told w = record { script = unwrap_or (w.left units.Script) []; commands = unwrap_or (w.left units.Commands) []; source = unwrap_or (w.left units.Source) [] }

pub are_told : (w : World) → AreTold (texts_told w) w
are_told w = record { script = told_or (w.left units.Script) []; commands = told_or (w.left units.Commands) []; source = told_or (w.left units.Source) [] }

-- a promise that doesn't stand on these texts
pub keeps_told : (promise : World → Promise) (w : World) (old new : Seen) (answer : Answer) → promise w ≡ promise (world_with_texts (texts_told w) w) → KeepsPromise (promise w) old new answer → KeepsFrom promise w old new answer
keeps_told promise w old new answer same kept = record { texts = texts_told w; told = are_told w; keeps = subst (λ (c : Promise). KeepsPromise c old new answer) same kept }

-- A UNIT IS READ: what was read of it, in the texts that are told
pub record Tells (u : unit.Unit) (w : World) : Type 1 where
  pub with : List ℕ → InputTexts
  pub reads : (text : List ℕ) → with_texts (with text) w.left u ≡ Some text
  pub told : (text : List ℕ) → IfSome (w.left u) (λ all. all ≡ text) → AreTold (with text) w

-- among these texts, the others of which are told
abbrev pub tells_script : (w : World) (t : InputTexts) → IfSome (w.left units.Commands) (λ all. all ≡ t.commands) → IfSome (w.left units.Source) (λ all. all ≡ t.source) → Tells units.Script w
tells_script w t commands source = record {
  with = λ text. record t { script = text };
  reads = λ text. refl;
  told = λ text is. record { script = is; commands = commands; source = source };
}

abbrev pub tells_commands : (w : World) (t : InputTexts) → IfSome (w.left units.Script) (λ all. all ≡ t.script) → IfSome (w.left units.Source) (λ all. all ≡ t.source) → Tells units.Commands w
tells_commands w t script source = record {
  with = λ text. record t { commands = text };
  reads = λ text. refl;
  told = λ text is. record { script = script; commands = is; source = source };
}

-- among those that are told
abbrev pub script_alone : (w : World) → Tells units.Script w
script_alone w = tells_script w (texts_told w) (are_told w).commands (are_told w).source

abbrev pub commands_alone : (w : World) → Tells units.Commands w
commands_alone w = tells_commands w (texts_told w) (are_told w).script (are_told w).source

abbrev pub source_alone : (w : World) → Tells units.Source w
source_alone w = record {
  with = λ text. record (texts_told w) { source = text };
  reads = λ text. refl;
  told = λ text is. record { script = (are_told w).script; commands = (are_told w).commands; source = is };
}

-- what holds of a job, or of what is known of it, by what was read holds of it by what is told
told_job : {A B : Type 0} (P : B → Type 0) (read : List ℕ → Result A Status) (r : Result A Status) (by : Result A Status → Option B) (left : Option (List ℕ)) (text : List ℕ) → left ≡ Some text → read text ≡ r → IfSome (by r) P
    → IfSome (option_and_then (λ t. by (read t)) left) P
told_job P read r by left text is says holds = subst (λ (o : Option (List ℕ)). IfSome (option_and_then (λ t. by (read t)) o) P) (sym is) (subst (λ x. IfSome (by x) P) (sym says) holds)

-- a unit that no machine reads is none that one reads
apart_from : (u v : unit.Unit) (same : Bool) → same_unit u v ≡ same → is_read u ≡ false → is_read v ≡ true → same_unit u v ≡ false
apart_from u v true is other reads = absurd (true≢false (sym reads ∙ subst (λ (x : unit.Unit). is_read x ≡ false) (same_unit-eq u v is) other))
apart_from u v false is other reads = is

-- its reading asks none of those
take_unasked : (u : unit.Unit) (gone : Readings) (old new : Seen) → is_read u ≡ false → Goes old new (world_after_take u gone old.world) → Unasked old.world new.world
take_unasked u gone old new other goes v reads = ap (λ (w : World). w.asked v) goes.world ∙ other_left (same_unit u v) (old.world.asked v) _ (apart_from u v (same_unit u v) refl other reads)

module _ {A : Type 0} (u : unit.Unit) (other : is_read u ≡ false) (read : List ℕ → Result A Status) (made : World → Option (List Event)) (next : A → World → Promise) (start later new : Seen) where
  still : (gone : Readings) → Goes start later (world_after_take u gone start.world) → Unasked start.world later.world
  still gone goes = take_unasked u gone start later other goes

  -- nothing was read
  module _ (t : Tells u start.world) where
    abbrev given : List ℕ → World
    given text = world_with_texts (t.with text) start.world

    abbrev promise : List ℕ → Promise
    promise text = read_promise u read made next (given text)

    abbrev unread_by : World → Result A Status → Option Job
    unread_by w r = job_read (λ what. (next what w).job) r

    abbrev outline_by : World → Result A Status → Option Outline
    outline_by w r = outline_read (λ what. (next what w).outline) r

    abbrev known : List ℕ
    known = unwrap_or (start.world.left u) []

    pub promise_unread : (s : Status) (answer : Answer) → Unread u read start later s → Reports later new s answer.status → IsAlone answer → KeepsJob (read_promise u read made next) start new answer
    promise_unread s answer (refused takes own plain) reports alone = record {
      texts = t.with takes.text;
      told = t.told takes.text takes.told;
      keeps = promise_report (promise takes.text) start later new s (report_line s) answer takes.goes.later own plain (λ is. alone.refusal) alone.statement
          (told_job (λ j. ReadyJob j s (report_line s) answer start.world later.world) read (Err s) (unread_by (given takes.text)) ((given takes.text).left u) takes.text (t.reads takes.text) takes.says
          (record {
            before = [];
            status_is = refl;
            events_are = refl;
            did = did_taken u takes.gone start.world later.world takes.goes.world;
            leaves = alone.console;
            inputs = unasked (refl, refl) (still takes.gone takes.goes) alone.console;
            refusal = λ other. subst (ShowsRefusal None) (sym alone.refusal) tt;
            program = refl;
          }))
          (told_job (λ o. KeepsOutline o start.world later.world s) read (Err s) (outline_by (given takes.text)) ((given takes.text).left u) takes.text (t.reads takes.text) takes.says tt) reports;
    }
    promise_unread s answer (host_failed loses is rose) reports alone = record {
      texts = t.with known;
      told = t.told known (told_or (start.world.left u) []);
      keeps = promise_fault (promise known) start later new answer rose (all_some (promise known).job (λ j. subst (λ (shown : Option Console). StopsAt j shown start.world later.world) (sym alone.console) (none_part j start.world later.world (did_taken u loses.gone start.world later.world loses.goes.world) (still loses.gone loses.goes)))) (subst (λ (x : Status). Reports later new x answer.status) is reports) alone.refusal alone.statement;
    }
    promise_unread s answer (lacking loses is) reports alone = record {
      texts = t.with known;
      told = t.told known (told_or (start.world.left u) []);
      keeps = promise_lacking (promise known) start later new answer (did_taken u loses.gone start.world later.world loses.goes.world) (still loses.gone loses.goes) refl loses.goes.later refl (subst (λ (x : Status). Reports later new x answer.status) is reports) alone;
    }

  -- something was read, and the rest was done; what is promised behind the reading is promised as well from before it
  module _ (what : A) (takes : TakesFrom u start later (λ text. read text ≡ Ok what)) (w : World) (reads : w.left u ≡ Some takes.text) (plain : (next what w).usage ≡ false) (unbound : (next what w).made.bindings ≡ [])
      (texts : (P : List Event → Type 0) → IfSome (next what w).made.texts P → IfSome (made w) P) where
    abbrev read_by : Result A Status → Option Job
    read_by r = job_read (λ x. (next x w).job) r

    abbrev outlined_by : Result A Status → Option Outline
    outlined_by r = outline_read (λ x. (next x w).outline) r

    before : (ds : List Event) → DidAll ds later.world new.world → DidAll ds start.world new.world
    before ds did = did_on [] ds start.world later.world new.world (did_taken u takes.gone start.world later.world takes.goes.world) did

    known_before : {s : Status} (o : Outline) → KeepsOutline o later.world new.world s → KeepsOutline o start.world new.world s
    known_before {s = s} o keeps = let since = outline_since [] start later new (did_taken u takes.gone start.world later.world takes.goes.world) o s keeps in record { ends = since.ends; written = since.written }

    pub promise_read : (answer : Answer) → KeepsPromise (next what w) later new answer → KeepsPromise (read_promise u read made next w) start new answer
    promise_read answer (inl own) = inl (record {
      own = own.own;
      usage_is = own.usage_is ∙ plain;
      all = told_job _ read (Ok what) read_by (w.left u) takes.text reads takes.says (if_some (next what w).job (λ j a. record { status = a.status; did = before j.events a.did; rest = a.rest; refusal = a.refusal; statement = a.statement }) own.all);
      outline = told_job (λ o. KeepsOutline o start.world new.world answer.status) read (Ok what) outlined_by (w.left u) takes.text reads takes.says (if_some (next what w).outline known_before own.outline);
    })
    promise_read answer (inr (inl fault)) = inr (inl (record {
      status = fault.status;
      refusal = fault.refusal;
      statement = fault.statement;
      rose = omega (arith, takes.goes.later, fault.rose);
      part = told_job _ read (Ok what) read_by (w.left u) takes.text reads takes.says (if_some (next what w).job (λ j stops. record {
        did = record { done = stops.did.done; part = stops.did.part; did = before stops.did.done stops.did.did };
        inputs = asks_behind j.rest j.way [] stops.did.done answer.console start.world later.world new.world (refl, refl) (still takes.gone takes.goes) stops.inputs;
      }) fault.part);
    }))
    promise_read answer (inr (inr lacks)) = inr (inr (record {
      words = refl;
      plain = lacks.plain;
      done = lacks.done;
      did = before lacks.done (subst (λ (bs : List Event). DidAll (bs ++ lacks.done) later.world new.world) unbound lacks.did);
      makings = lacks.makings;
      part = texts _ lacks.part;
      unasked = unasked_on start.world later.world new.world (still takes.gone takes.goes) lacks.unasked;
    }))

  -- in the texts that are told
  pub keeps_read : (t : Tells u start.world) (what : A) (takes : TakesFrom u start later (λ text. read text ≡ Ok what)) (v : World) → next what v ≡ next what (world_with_texts (t.with takes.text) start.world)
      → (next what (world_with_texts (t.with takes.text) start.world)).usage ≡ false → (next what (world_with_texts (t.with takes.text) start.world)).made.bindings ≡ []
      → ((P : List Event → Type 0) → IfSome (next what (world_with_texts (t.with takes.text) start.world)).made.texts P → IfSome (made (world_with_texts (t.with takes.text) start.world)) P)
      → (answer : Answer) → KeepsPromise (next what v) later new answer → KeepsJob (read_promise u read made next) start new answer
  keeps_read t what takes v apart plain unbound texts answer kept = record {
    texts = t.with takes.text;
    told = t.told takes.text takes.told;
    keeps = promise_read what takes (world_with_texts (t.with takes.text) start.world) (t.reads takes.text) plain unbound texts answer (subst (λ (c : Promise). KeepsPromise c later new answer) apart kept);
  }

-- two worlds that agree on what a reading and the rest of the job stand on
pub read_apart : {A : Type 0} (u : unit.Unit) (read : List ℕ → Result A Status) (made : World → Option (List Event)) (next : A → World → Promise) (w v : World) → w.left u ≡ v.left u → made w ≡ made v → ((what : A) → next what w ≡ next what v) → read_promise u read made next w ≡ read_promise u read made next v
read_apart u read made next w v left same_made same = λ i. record {
  job = option_and_then (λ text. job_read (λ what. (same what i).job) (read text)) (left i);
  outline = option_and_then (λ text. outline_read (λ what. (same what i).outline) (read text)) (left i);
  made = texts_alone (same_made i);
  usage = false;
}

-- WHAT IS READ
abbrev pub Only : unit.Unit → unit.Unit → Bool
Only u v = same_unit u v

-- readings of which one at most found no more
once_asked : (gone : Readings) (o : Option Asked) → gone.ends ≤ 1 → EndsOnce o (option_map (asked_after gone) o)
once_asked gone None once = tt
once_asked gone (Some a) once = let fewer : a.ends + min gone.ends (most_faults - a.ends) ≤ a.ends + 1 = omega (arith, once) in fewer

once_by : (gone : Readings) (same : Bool) (o : Option Asked) → gone.ends ≤ 1 → EndsOnce o (if same then option_map (asked_after gone) o else o)
once_by gone true o once = once_asked gone o once
once_by gone false o once = once_same o o refl

-- where a unit is read, all others keep what they had, and are not asked
gone_stays : (u : unit.Unit) (gone : Readings) (old new : Seen) → gone.ends ≤ 1 → Goes old new (world_after_take u gone old.world) → LeavesUnread (Only u) old.world new.world
gone_stays u gone old new once goes = record {
  in_use = ap (λ (w : World). w.in_use) goes.world;
  names = ap (λ (w : World). w.names) goes.world;
  left = λ v other. ap (λ (w : World). w.left v) goes.world ∙ other_left (same_unit u v) (old.world.left v) _ other;
  sectors = λ other. ap (λ (w : World). w.sectors) goes.world;
  asked = λ v other. ap (λ (w : World). w.asked v) goes.world ∙ other_left (same_unit u v) (old.world.asked v) _ other;
  once = λ v fed. once_first (old.world.asked v) _ (new.world.asked v) (once_by gone (same_unit u v) (old.world.asked v) once) (ap (λ (w : World). w.asked v) goes.world);
}

pub takes_stays : (u : unit.Unit) (old new : Seen) (Says : List ℕ → Type 0) → TakesFrom u old new Says → LeavesUnread (Only u) old.world new.world
takes_stays u old new Says takes = gone_stays u takes.gone old new takes.once takes.goes

pub unread_stays : {A : Type 0} (u : unit.Unit) (read : List ℕ → Result A Status) (old new : Seen) (s : Status) → Unread u read old new s → LeavesUnread (Only u) old.world new.world
unread_stays u read old new s (refused takes own plain) = takes_stays u old new _ takes
unread_stays u read old new s (host_failed loses is rose) = gone_stays u loses.gone old new loses.once loses.goes
unread_stays u read old new s (lacking loses is) = gone_stays u loses.gone old new loses.once loses.goes

-- a unit was read, and then others were
pub read_then : (u : unit.Unit) (q : unit.Unit → Bool) (old mid new : Seen) (Says : List ℕ → Type 0) → q u ≡ false → TakesFrom u old mid Says → LeavesUnread q mid.world new.world → LeavesUnread (reads_both (Only u) q) old.world new.world
read_then u q old mid new Says apart takes rest = stays_both u q old.world mid.world new.world apart (takes_stays u old mid Says takes) rest

-- or it could not be, and that was reported
pub unread_then : {A : Type 0} (u : unit.Unit) (q : unit.Unit → Bool) (read : List ℕ → Result A Status) (old mid new : Seen) (s answer : Status) → Unread u read old mid s → Reports mid new s answer → LeavesUnread (reads_both (Only u) q) old.world new.world
unread_then u q read old mid new s answer unread reports =
    stays_less (Only u) q old.world new.world (stays_on (Only u) old.world mid.world new.world (unread_stays u read old mid s unread) (report_stays mid new s (report_line s) answer reports))

-- WITHIN SO MANY BYTES

-- of a text that is not too long, what is read of its bytes
within : {A : Type 0} (b : Bool) (e : Status) (text bytes : List ℕ) (read : List ℕ → Result A Status) (r : Result A Status) → (if b then Err e else Ok text) ≡ Ok bytes → read bytes ≡ r → (if b then Err e else read text) ≡ r
within true e text bytes read r is of_bytes = cc
within false e text bytes read r is of_bytes = let same : text ≡ bytes = cc in ap read same ∙ of_bytes

too_long : {A : Type 0} (b : Bool) (e s : Status) (text : List ℕ) (read : List ℕ → Result A Status) → (if b then Err e else Ok text) ≡ Err s → (if b then Err e else read text) ≡ Err s
too_long true e s text read is = let same : e ≡ s = cc in ap (λ (x : Status). Err x) same
too_long false e s text read is = cc

pub takes_on : {A : Type 0} (most : ℕ) (u : unit.Unit) (read : List ℕ → Result A Status) (r : Result A Status) (start later : Seen) (bytes : List ℕ) → TakesFrom u start later (λ text. text_read most u text ≡ Ok bytes) → read bytes ≡ r → TakesFrom u start later (λ text. read_within most u read text ≡ r)
takes_on most u read r start later bytes takes is = record { gone = takes.gone; once = takes.once; goes = takes.goes; text = takes.text; told = takes.told; says = within (nat_lt most (length takes.text)) (TooLong u) takes.text bytes read r takes.says is }

pub unread_on : {A : Type 0} (most : ℕ) (u : unit.Unit) (read : List ℕ → Result A Status) (start later : Seen) (s : Status) → Unread u (text_read most u) start later s → Unread u (read_within most u read) start later s
unread_on most u read start later s (refused takes own plain) =
    refused (record { gone = takes.gone; once = takes.once; goes = takes.goes; text = takes.text; told = takes.told; says = too_long (nat_lt most (length takes.text)) (TooLong u) s takes.text read takes.says }) own plain
unread_on most u read start later s (host_failed loses is rose) = host_failed loses is rose
unread_on most u read start later s (lacking loses is) = lacking loses is

short_text : (most : ℕ) (u : unit.Unit) (text : List ℕ) → length text ≤ most → text_read most u text ≡ Ok text
short_text most u text short =
    let test : nat_lt most (length text) ≡ false = grind (arith, nat_tests) in
    rw test refl

long_text : (most : ℕ) (u : unit.Unit) (text : List ℕ) → most < length text → text_read most u text ≡ Err (TooLong u)
long_text most u text long =
    let test : nat_lt most (length text) ≡ true = grind (arith, nat_tests) in
    rw test refl

-- How the reading of a whole unit takes its bytes.
pub whole_takes : (u : unit.Unit) (start later : Seen) (most : ℕ) (text : List ℕ) → ReadsWhole start later u most text → TakesFrom u start later (λ t. text_read most u t ≡ Ok text)
whole_takes u start later most text whole = record { gone = whole_readings text; once = omega arith; goes = whole.goes; text = text; told = whole.whole; says = short_text most u text whole.fits }

pub long_takes : (u : unit.Unit) (start later : Seen) (most : ℕ) → ReadsPart start later u (most + 1) (most + 1) × IfSome (start.world.left u) (λ all. most < length all)
    → TakesFrom u start later (λ t. text_read most u t ≡ Err (TooLong u))
long_takes u start later most part =
    let gone : List ℕ = part.0.gone.bytes in
    let enough : most < length gone = omega (arith, part.0.enough) in
    record {
      gone = part.0.gone;
      once = omega (arith, part.0.some);
      goes = part.0.goes;
      text = unwrap_or (start.world.left u) gone;
      told = told_or (start.world.left u) gone;
      says = long_text most u (unwrap_or (start.world.left u) gone) (told_holds (λ (all : List ℕ). most < length all) (start.world.left u) gone part.1 enough);
    }

-- Where a part of it was read, it is no more than lost.
pub part_loses : (u : unit.Unit) (start later : Seen) (least most : ℕ) → ReadsPart start later u least most → Loses u start later
part_loses u start later least most part = record { gone = part.gone; once = omega (arith, part.some); goes = part.goes }
