-- What a job does as ONE list, from its first thing to its last: without a fault all of it was done, and after one a first part of it.
use Rattle.std.specs.Prelude.{ℕ, ◌≡◌, ◌⊎◌, ⊤, true, false, Bool, List, [], ◌++◌, drop, Option, Some, None, IfSome, IsSomeAnd, option_map, option_and_then, Result, Ok, Err}
use Rattle.outside_io.specs.declared.host.Unit as unit
use Rattle.outside_io.specs.declared.host.Unit.TheVariants as units
use Rattle.outside_io.specs.World.{World, Seen, Rose}
use Rattle.card_code.specs.Entries.{Entry}
use Rattle.card_unit.specs.declared.hopper.Hopper.{Hopper}
use Rattle.card_unit.specs.Hopper.{hopper_left, own_cards, HasReadCards}
use Rattle.card_code.specs.declared.lines.Lines.{Lines}
use Rattle.typewriter.specs.Keys.{keys_left}
use Rattle.typewriter.specs.Keys as typewriter
use Rattle.cpu_step.specs.State.{State}
use Rattle.cpu_step.specs.Machine.{is_read}
use Rattle.cpu_step.specs.declared.console.Console.{Console}
use Rattle.cpu_step.specs.Console.{console_of}
use Rattle.console_debug.specs.Debugs.{is_said}
use Rattle.sps_pass_two.specs.Assembled.{PlacedText}
use Rattle.sps_listing.specs.Listing.{statement_at}
use Rattle.sps_listing.specs.Refused.{RefusedText, ShowsRefused}
use Rattle.sps_listing.specs.Standing.{StandingText, standing_text, ShowsStanding}
use Rattle.sps_listing.specs.declared.refused_statement.RefusedLine.{RefusedLine}
use Rattle.sps_listing.specs.declared.standing.StandingLine.{StandingLine}
use Rattle.ibm1620_cli.specs.declared.status.Status.{Status}
use Rattle.ibm1620_cli.specs.declared.answer.Answer.{Answer}
use Rattle.ibm1620_cli.specs.declared.status.Status.TheVariants.{Usage, HostFault, OutOfMemory}
use Rattle.ibm1620_cli.specs.Report.{report_line}
use Rattle.outside_io.specs.Events.{Event, after_events, cards_in, lines_in, text_events, IsFirstPart, DidAll, DidPart}
use Rattle.ibm1620_cli.specs.Makings.{AreMakings}
use Rattle.ibm1620_cli.specs.Ways.{Way, StandsOn}

-- the end of a machine: its state; the cards that were put into its reader's pile, None if the pile is the lines of Deck; and, as
-- at power on, the entries of that pile, all cards of its reader and the lines of its keyboard
pub record MachineEnd : Type 0 where
  pub state : State
  pub own : Option (List (List ℕ))
  pub pile : List Entry
  pub cards : List Entry
  pub keys : List Entry

-- the program of a source: the bytes of the source, and its statements as they were placed
pub record ProgramTexts : Type 0 where
  pub source : List ℕ
  pub placed : List PlacedText

-- a job: how it ends, and all that it does outside, in its order; the end and the way of its machine, if it has one; the
-- statement that it refuses a source for, if it does; and the program of a source that its machine runs, if it runs one
pub record Job : Type 0 where
  pub status : Status
  pub events : List Event
  pub rest : Option MachineEnd
  pub way : Option Way
  pub refusal : Option RefusedText
  pub program : Option ProgramTexts

-- a job that does some events, reports a line, and ends with this status, machine and way; it names no program of a source
abbrev pub job_leaving : Option MachineEnd → Option Way → Status → List ℕ → List Event → Job
job_leaving rest way status line before = record {
  status = status;
  events = before ++ text_events units.Report line;
  rest = rest;
  way = way;
  refusal = None;
  program = None;
}

-- a job without a machine
abbrev pub job_ending : Status → List ℕ → List Event → Job
job_ending status line before = job_leaving None None status line before

-- a job without a machine that reports the line of its status
abbrev pub job_with_report : Status → List Event → Job
job_with_report status before = job_ending status (report_line status) before

-- What is done if no memory was found: some bindings, all of them, and then a first part of some texts, if they are known.
pub record Making : Type 0 where
  pub bindings : List Event
  pub texts : Option (List Event)

-- texts without a binding
abbrev pub texts_alone : Option (List Event) → Making
texts_alone texts = record { bindings = []; texts = texts }

-- What is known of a job with a machine, even if the host does not reveal the input of the machine: the statuses with which the job may end, and
-- all that it does before power on.
pub record Outline : Type 0 where
  pub ends : Status → Bool
  pub before : List Event

-- an outline after some events
abbrev pub outline_after : List Event → Outline → Outline
outline_after before o = record { ends = o.ends; before = before ++ o.before }

-- The promise of a job: what it does, if the host reveals the input of its machine; what is known of it even if the host does not; what is done if
-- no memory was found; and whether the words are not plain.
pub record Promise : Type 0 where
  pub job : Option Job
  pub outline : Option Outline
  pub made : Making
  pub usage : Bool

-- a job whose machine runs the program of a source, and the promise of this job
abbrev pub job_with_program : ProgramTexts → Job → Job
job_with_program p j = record j { program = Some p }

abbrev pub promise_with_program : ProgramTexts → Promise → Promise
promise_with_program p c = record {
  job = option_map (job_with_program p) c.job;
  outline = c.outline;
  made = c.made;
  usage = c.usage;
}

-- a job after some events, and its promise after some bindings
abbrev pub job_behind : List Event → Job → Job
job_behind before j = record j { events = before ++ j.events }

abbrev pub promise_behind : List Event → Promise → Promise
promise_behind before c = record {
  job = option_map (job_behind before) c.job;
  outline = option_map (outline_after before) c.outline;
  made = record { bindings = before ++ c.made.bindings; texts = c.made.texts };
  usage = c.usage;
}

-- the statuses of a job's own: neither a fault of the host nor a lack of memory
abbrev pub is_own : Status → Bool
is_own HostFault = false
is_own OutOfMemory = false
is_own answer = true

abbrev pub is_usage : Status → Bool
is_usage Usage = true
is_usage answer = false

-- The inputs of a machine, with the contents of a reader and a keyboard, have these cards and these lines left. A reader holds
-- the rest of the cards that were put into its pile, at most one card, or the text of one line, at its front, and at most 4,096
-- bytes of Deck and of Data each; a keyboard holds at most 4,096 bytes of Keys. This is the room of `Lines` in card_code. No card
-- and no line of Keys was asked for before its turn, except to see whether a card is left. The console of a state is shown, with
-- all that reader and keyboard have read since power on.
pub record HasLeft (r : MachineEnd) (cards keys : List Entry) (state : State) (shown : Option Console) (w : World) : Type 0 where
  pub hopper : Hopper
  pub keyboard : Lines
  pub own_is : own_cards hopper ≡ r.own
  pub cards_are : hopper_left hopper w ≡ Some cards
  pub lines_are : keys_left keyboard w ≡ Some keys
  pub read : HasReadCards (record { pile = r.pile; all = r.cards }) hopper w
  pub typed : typewriter.HasReadLines r.keys keyboard w
  pub shows : shown ≡ Some (console_of state hopper keyboard)

-- the rest of the inputs of a machine with this end, and its console there
abbrev pub LeavesInputs : MachineEnd → Option Console → World → Type 0
LeavesInputs r shown w = HasLeft r r.state.hopper r.state.keys r.state shown w

-- a job's machine leaves its inputs and its console so; without a machine no console is shown
abbrev pub LeavesMachine : Option MachineEnd → Option Console → World → Type 0
LeavesMachine None shown w = shown ≡ None
LeavesMachine (Some r) shown w = LeavesInputs r shown w

-- the refused statement of a job is shown, and no other
abbrev pub ShowsRefusal : Option RefusedText → Option RefusedLine → Type 0
ShowsRefusal None None = ⊤
ShowsRefusal None (Some line) = ⊥
ShowsRefusal (Some r) None = ⊥
ShowsRefusal (Some r) (Some line) = ShowsRefused r line

-- the statement of a program at an address, if there is one
abbrev pub statement_standing_at : ProgramTexts → ℕ → Option StandingText
statement_standing_at p address = option_map (standing_text p.source) (statement_at p.placed address)

-- the statement at IR of a console; None without a program, and without a console
abbrev pub text_at_ir : Option ProgramTexts → Option Console → Option StandingText
text_at_ir None shown = None
text_at_ir (Some p) None = None
text_at_ir (Some p) (Some console) = statement_standing_at p console.regs.ir

-- the statement is shown if there is one, and otherwise none is
abbrev pub ShowsText : Option StandingText → Option StandingLine → Type 0
ShowsText None line = line ≡ None
ShowsText (Some text) line = IsSomeAnd line (λ l. ShowsStanding text l)

-- the statement at IR of a console is shown
abbrev pub ShowsStatement : Option ProgramTexts → Option Console → Option StandingLine → Type 0
ShowsStatement program shown line = ShowsText (text_at_ir program shown) line

-- a job came to its end: this is its status, and all of it was done. Its machine, if it has one, leaves its inputs and shows its
-- console. The answer shows the statement that a source was refused for, and the statement at IR if the machine runs a program of
-- a source
pub record EndsWithAnswer (j : Job) (old new : Seen) (answer : Answer) : Type 0 where
  pub status : answer.status ≡ j.status
  pub did : DidAll j.events old.world new.world
  pub rest : LeavesMachine j.rest answer.console new.world
  pub refusal : ShowsRefusal j.refusal answer.refusal
  pub statement : ShowsStatement j.program answer.console answer.statement

-- A job ended with one of these statuses. Its machine wrote on Punched and Typed alone, and the job on Report. Every other unit, Object, Image
-- and Listing among them, has the bytes that it had at power on.
pub record KeepsOutline (o : Outline) (old new : World) (status : Status) : Type 0 where
  pub ends : o.ends status ≡ true
  pub written : (u : unit.Unit) → is_said u ≡ false → new.written u ≡ (after_events old o.before).written u

-- an end of the job's own: all of it was done
pub record OwnEnd (c : Promise) (old new : Seen) (answer : Answer) : Type 0 where
  pub own : is_own answer.status ≡ true
  pub usage_is : is_usage answer.status ≡ c.usage
  pub all : IfSome c.job (λ j. EndsWithAnswer j old new answer)
  pub outline : IfSome c.outline (λ o. KeepsOutline o old.world new.world answer.status)

-- the answer of a status alone, with no console and no statement
abbrev pub answer_of : Status → Answer
answer_of status = record { status = status; console = None; refusal = None; statement = None }

-- the answer of a status and of the console that a machine shows
abbrev pub answer_with : Status → Console → Answer
answer_with status console = record { status = status; console = Some console; refusal = None; statement = None }

-- no card and no line is taken
abbrev pub TakesNone : List Event → Type 0
TakesNone done = (cards_in done ≡ 0) × (lines_in done ≡ 0)

-- Deck, Data and Keys were not asked
abbrev pub Unasked : World → World → Type 0
Unasked old new = (u : unit.Unit) → is_read u ≡ true → new.asked u ≡ old.asked u

-- a state of a machine when the host fails: on its way, or at its end
abbrev pub StandsSomewhere : MachineEnd → Option Way → State → Type 0
StandsSomewhere r way s = IsSomeAnd way (λ on. StandsOn on s) ⊎ (s ≡ r.state)

-- Cards, lines and console after a first part of a job. Either this part takes no card and no line, Deck, Data and Keys were not
-- asked, and no console is shown. Or the job has a machine: all cards and lines are left except those that this part takes, none
-- was asked for before its turn, and the console shows the machine's place.
pub data AsksForInputs (rest : Option MachineEnd) (way : Option Way) (done : List Event) (shown : Option Console) (old new : World) : Type 0 where
  unasked : TakesNone done → Unasked old new → shown ≡ None → AsksForInputs rest way done shown old new
  asked : (r : MachineEnd) → rest ≡ Some r → (s : State) → StandsSomewhere r way s
      → HasLeft r (drop (cards_in done) r.cards) (drop (lines_in done) r.keys) s shown new
      → AsksForInputs rest way done shown old new

-- a first part of a job was done, and nothing else; the cards and the lines of Keys that are gone are those in this part, so the
-- job asks for none before it has done all that comes before it
pub record StopsAt (j : Job) (shown : Option Console) (old new : World) : Type 0 where
  pub did : DidPart j.events old new
  pub inputs : AsksForInputs j.rest j.way did.done shown old new

-- a host fault: faults rose, and the job stopped within; no statement is shown
pub record FaultEnd (c : Promise) (old new : Seen) (answer : Answer) : Type 0 where
  pub status : answer.status ≡ HostFault
  pub refusal : answer.refusal ≡ None
  pub statement : answer.statement ≡ None
  pub rose : Rose old.faults new.faults
  pub part : IfSome c.job (λ j. StopsAt j answer.console old.world new.world)

-- plain words, and no memory was found: no more is done than all bindings and a first part of the texts that are made before a machine is
-- powered on; Deck, Data and Keys are not asked; and nothing is shown
pub record MemoryEnd (c : Promise) (old new : Seen) (answer : Answer) : Type 0 where
  pub words : c.usage ≡ false
  pub plain : answer ≡ answer_of OutOfMemory
  pub done : List Event
  pub did : DidAll (c.made.bindings ++ done) old.world new.world
  pub makings : AreMakings done
  pub part : IfSome c.made.texts (λ all. IsFirstPart done all)
  pub unasked : Unasked old.world new.world

-- a promise is kept in one of these three ways
abbrev pub KeepsPromise : Promise → Seen → Seen → Answer → Type 0
KeepsPromise c old new answer = OwnEnd c old new answer ⊎ (FaultEnd c old new answer ⊎ MemoryEnd c old new answer)

-- the job by the value that was read; if the reading gave a status instead, that status is reported
abbrev pub job_read : {A : Type 0} → (A → Option Job) → Result A Status → Option Job
job_read next (Ok what) = next what
job_read next (Err s) = Some (job_with_report s [])

-- the outline of the job by the value that was read; a job that ends there has no machine
abbrev pub outline_read : {A : Type 0} → (A → Option Outline) → Result A Status → Option Outline
outline_read next (Ok what) = next what
outline_read next (Err s) = None

-- THE PROMISE OF A JOB that begins with the reading of a unit, by the promise of the rest of the job
abbrev pub read_promise : {A : Type 0} → unit.Unit → (List ℕ → Result A Status) → (World → Option (List Event))
    → (A → World → Promise) → World → Promise
read_promise u read made next w = record {
  job = option_and_then (λ text. job_read (λ what. (next what w).job) (read text)) (w.left u);
  outline = option_and_then (λ text. outline_read (λ what. (next what w).outline) (read text)) (w.left u);
  made = texts_alone (made w);
  usage = false;
}

-- nothing is done before memory is last taken
abbrev pub nothing_done : World → Option (List Event)
nothing_done w = Some []

-- THE TEXTS THAT ARE READ. A job depends on the texts of Script, Commands and Source; a host may reveal them or not.
pub record InputTexts : Type 0 where
  pub script : List ℕ
  pub commands : List ℕ
  pub source : List ℕ

-- these three units hold these texts; for all other units the host reveals the same bytes as before
abbrev pub with_texts : InputTexts → (unit.Unit → Option (List ℕ)) → unit.Unit → Option (List ℕ)
with_texts t left units.Script = Some t.script
with_texts t left units.Commands = Some t.commands
with_texts t left units.Source = Some t.source
with_texts t left u = left u

-- the same world, which reveals these texts
abbrev pub world_with_texts : InputTexts → World → World
world_with_texts t w = record w { left = with_texts t w.left }

-- the texts that the host reveals are these
pub record AreTold (t : InputTexts) (w : World) : Type 0 where
  pub script : IfSome (w.left units.Script) (λ text. text ≡ t.script)
  pub commands : IfSome (w.left units.Commands) (λ text. text ≡ t.commands)
  pub source : IfSome (w.left units.Source) (λ text. text ≡ t.source)

-- A PROMISE IS KEPT that depends on a world: the promise of this world with some texts of Script, Commands and Source revealed.
-- If the host reveals them, these are its texts, and the promise is the promise of the world itself.
pub record KeepsFrom (promise : World → Promise) (w : World) (old new : Seen) (answer : Answer) : Type 0 where
  pub texts : InputTexts
  pub told : AreTold texts w
  pub keeps : KeepsPromise (promise (world_with_texts texts w)) old new answer

-- the promise of the world in which the job begins is kept
abbrev pub KeepsJob : (World → Promise) → Seen → Seen → Answer → Type 0
KeepsJob promise old new answer = KeepsFrom promise old.world old new answer
