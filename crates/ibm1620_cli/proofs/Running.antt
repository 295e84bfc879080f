-- The promises of jobs whose machine runs the program of a source.
use Rattle.std.proofs.Common.{◌≡◌, ℕ, List, sym, ◌∙◌, ap, subst, inl, inr}
use Rattle.std.proofs.lemmas.Bool.{true≢false}
use Rattle.std.specs.Prelude.{◌≢◌, Option, Some, None, IfSome}
use Rattle.outside_io.specs.World.{World, Seen}
use Rattle.outside_io.specs.Events.{Event}
use Rattle.cpu_step.specs.declared.console.Console.{Console}
use Rattle.sps_pass_one.specs.Layout.{Refusal}
use Rattle.ibm1620_cli.specs.declared.status.Status.{Status}
use Rattle.ibm1620_cli.specs.declared.status.Status.TheVariants.{HostFault, OutOfMemory}
use Rattle.ibm1620_cli.specs.declared.answer.Answer.{Answer}
use Rattle.ibm1620_cli.specs.declared.source.SoundSource.{SoundSource}
use Rattle.ibm1620_cli.specs.Promise.{ProgramTexts, Job, job_with_program, LeavesMachine, ShowsRefusal, ShowsStatement, AsksForInputs, EndsWithAnswer, StopsAt, FaultEnd, MemoryEnd, OwnEnd, answer_of, Promise, promise_with_program, KeepsPromise, KeepsOutline, is_own, is_usage}
use Rattle.ibm1620_cli.specs.Source.{texts_of_program, promise_by, running_promise}
use Rattle.ibm1620_cli.specs.Parts.{IsSoundSource, program_of_sound, AddsStatement}
use Rattle.ibm1620_cli.proofs.ToldValues.{if_mapped}
use Rattle.ibm1620_cli.proofs.Sources.{FollowsSource}

-- WITH THE STATEMENT AT IR a promise is kept of a machine that runs a program
module _ (p : ProgramTexts) (c : Promise) (old new : Seen) (answer stated : Answer) (adds : AddsStatement p answer stated) where
  ends_stated : answer.status ≢ HostFault → (j : Job) → EndsWithAnswer j old new answer → EndsWithAnswer (job_with_program p j) old new stated
  ends_stated sound j all = record {
    status = adds.status ∙ all.status;
    did = all.did;
    rest = subst (λ (shown : Option Console). LeavesMachine j.rest shown new.world) (sym adds.console) all.rest;
    refusal = subst (ShowsRefusal j.refusal) (sym adds.refusal) all.refusal;
    statement = subst (λ (shown : Option Console). ShowsStatement (Some p) shown stated.statement) (sym adds.console) (adds.shows sound);
  }

  stops_stated : (j : Job) → StopsAt j answer.console old.world new.world → StopsAt (job_with_program p j) stated.console old.world new.world
  stops_stated j stops = record {
    did = stops.did;
    inputs = subst (λ (shown : Option Console). AsksForInputs j.rest j.way stops.did.done shown old.world new.world) (sym adds.console) stops.inputs;
  }

  own_stated : OwnEnd c old new answer → OwnEnd (promise_with_program p c) old new stated
  own_stated own = record {
    own = ap is_own adds.status ∙ own.own;
    usage_is = ap is_usage adds.status ∙ own.usage_is;
    all = if_mapped (λ j. EndsWithAnswer j old new stated) (λ j. EndsWithAnswer j old new answer) c.job (job_with_program p) (ends_stated (λ fault. true≢false (sym own.own ∙ ap is_own fault))) own.all;
    outline = subst (λ (s : Status). IfSome c.outline (λ o. KeepsOutline o old.world new.world s)) (sym adds.status) own.outline;
  }

  fault_stated : FaultEnd c old new answer → FaultEnd (promise_with_program p c) old new stated
  fault_stated fault = record {
    status = adds.status ∙ fault.status;
    refusal = adds.refusal ∙ fault.refusal;
    statement = adds.unshown fault.status;
    rose = fault.rose;
    part = if_mapped (λ j. StopsAt j stated.console old.world new.world) (λ j. StopsAt j answer.console old.world new.world) c.job (job_with_program p) stops_stated fault.part;
  }

  -- where no memory was found there is no console, and so no statement
  alone_stated : answer ≡ answer_of OutOfMemory → stated ≡ answer_of OutOfMemory
  alone_stated is =
      let sound : answer.status ≢ HostFault = λ fault. (let same : OutOfMemory ≡ HostFault = sym (ap (λ (a : Answer). a.status) is) ∙ fault in cc) in
      let none : stated.statement ≡ None = subst (λ (shown : Option Console). ShowsStatement (Some p) shown stated.statement) (ap (λ (a : Answer). a.console) is) (adds.shows sound) in
      λ i. record {
        status = (adds.status ∙ ap (λ (a : Answer). a.status) is) i;
        console = (adds.console ∙ ap (λ (a : Answer). a.console) is) i;
        refusal = (adds.refusal ∙ ap (λ (a : Answer). a.refusal) is) i;
        statement = none i;
      }

  memory_stated : MemoryEnd c old new answer → MemoryEnd (promise_with_program p c) old new stated
  memory_stated lacks = record { words = lacks.words; plain = alone_stated lacks.plain; done = lacks.done; did = lacks.did; makings = lacks.makings; part = lacks.part; unasked = lacks.unasked }

  pub promise_stated : KeepsPromise c old new answer → KeepsPromise (promise_with_program p c) old new stated
  promise_stated (inl own) = inl (own_stated own)
  promise_stated (inr (inl fault)) = inr (inl (fault_stated fault))
  promise_stated (inr (inr lacks)) = inr (inr (memory_stated lacks))

-- what was assembled of a sound source is its program
program_is : (m : ℕ) (sound : SoundSource) → IsSoundSource m sound → program_of_sound sound ≡ texts_of_program m sound.source.items
program_is m sound is = λ i. record { source = sound.source.items; placed = is.placed_are i }

-- a machine ran the program of a sound source
pub promise_ran : (m : ℕ) (next : List ℕ → World → Promise) (sound : SoundSource) (old new : Seen) (answer stated : Answer) → IsSoundSource m sound → AddsStatement (program_of_sound sound) answer stated
    → KeepsPromise (next sound.source.items old.world) old new answer → KeepsPromise (running_promise m next sound.source.items old.world) old new stated
promise_ran m next sound old new answer stated is adds kept =
    subst (λ (p : ProgramTexts). KeepsPromise (promise_with_program p (next sound.source.items old.world)) old new stated) (program_is m sound is)
    (promise_stated (program_of_sound sound) (next sound.source.items old.world) old new answer stated adds kept)

-- a job behind its source, whose machine runs its program
same_texts : (m : ℕ) (next : List ℕ → World → Promise) (source : List ℕ) (o : Option Refusal) (w : World) (P : List Event → Type 0) → IfSome (promise_by (running_promise m next) source o w).made.texts P → IfSome (promise_by next source o w).made.texts P
same_texts m next source None w P here = here
same_texts m next source (Some r) w P here = here

pub running_follows : (m : ℕ) (made : World → Option (List Event)) (next : List ℕ → World → Promise) (source : List ℕ) → FollowsSource m made next source → FollowsSource m made (running_promise m next) source
running_follows m made next source follows = record {
  plain = follows.plain;
  unbound = follows.unbound;
  apart = λ gone t w. ap (promise_with_program (texts_of_program m source)) (follows.apart gone t w);
  texts = λ o w P good told here. follows.texts o w P good told (same_texts m next source o w P here);
}
