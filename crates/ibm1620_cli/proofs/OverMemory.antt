-- The headline over a host in memory: a fault would have a cause, and there is none.
use Rattle.std.proofs.Common.{◌≡◌, ℕ, ◌-◌, ◌≤◌, ◌<◌, List, ◌∙◌, subst, arith}
use Rattle.std.specs.Prelude.{Option, Some, IfSome}
use Rattle.outside_io.specs.World.{Seen, Limits, Rose}
use Rattle.outside_io.specs.CallCounts.{FailsNowhere}
use Rattle.outside_io.specs.Events.{Event, bytes_written, DidPart}
use Rattle.outside_io.proofs.Limits.{TellsTexts, limits_left, part_writes}
use Rattle.ibm1620_cli.specs.declared.answer.Answer.{Answer}
use Rattle.ibm1620_cli.specs.Job.{TellsAnswer}
use Rattle.ibm1620_cli.specs.Headline.{job_in, Headline}
use Rattle.ibm1620_cli.specs.OverMemory.{HasRoomFor, HeadlineOverMemory}
use Rattle.ibm1620_cli.proofs.Headlines.{fault_told}

-- no fault was counted, if all faults have causes
abbrev pub HasNoCause : Seen → Type 0
HasNoCause new = IfSome new.world.limits (λ l. FailsNowhere l → new.faults ≡ 0)

-- where there is room for all events no fault was counted within them
none_within : (events : List Event) (old new : Seen) → HasRoomFor events old → TellsTexts old.world → DidPart events old.world new.world → HasNoCause new → new.faults ≡ 0
none_within events old new has tells part causes =
    let left = limits_left part.done old.world new.world has.limits part.did has.limits_are tells in
    let of_causes : IfSome (Some left.limits) (λ l. FailsNowhere l → new.faults ≡ 0) = subst (λ (o : Option Limits). IfSome o (λ l. FailsNowhere l → new.faults ≡ 0)) left.told causes in
    of_causes (record {
      failing = left.failing ∙ has.unlisted;
      room = λ u output.
          let less : bytes_written u part.done ≤ bytes_written u events = part_writes u part.done events part.part in
          let more : bytes_written u events < has.limits.room u = has.room u output in
          let is : left.limits.room u ≡ has.limits.room u - bytes_written u part.done = left.room u in
          omega (arith, less, more, is);
    })

pub over_memory : (words : List (List ℕ)) (old new : Seen) (answer : Answer) → TellsTexts old.world → HasNoCause new → TellsAnswer words old new answer → Headline words old new answer → HeadlineOverMemory words old new answer
over_memory words old new answer tells causes told headline r has found =
    headline r (λ failed.
    let fault = fault_told words old new answer r told failed in
    let none : new.faults ≡ 0 = none_within (job_in r).events old new has tells fault.1 causes in
    let rose : Rose old.faults new.faults = fault.0 in
    let before : old.faults ≡ 0 = has.unfailed in
    omega (arith, none, rose, before)) found
