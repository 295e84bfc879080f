-- The result of a statement, and of one statement after another.
use Rattle.std.specs.Prelude.{ℕ, ◌≡◌, Bool, List, Option}
use Rattle.digit_core.specs.declared.Digit.{Digit}
use Rattle.sps_scan.specs.Statement.{StatementText}
use Rattle.sps_expr.specs.Symbol.{SymbolEntry}
use Rattle.sps_pass_one.specs.declared.fault.Fault.{Fault}
use Rattle.sps_pass_one.specs.declared.operands.Answered.{Answered}
use Rattle.sps_pass_one.specs.declared.place.Place.{Place}
use Rattle.sps_pass_one.specs.Faults.{least}
use Rattle.sps_pass_one.specs.Measure.{OperandAnswer}
use Rattle.sps_pass_two.specs.declared.made.MadeSoFar.{MadeSoFar}
use Rattle.sps_pass_two.specs.declared.outcome.StatementOutcome.{StatementOutcome as MadeOutcome}
use Rattle.sps_pass_two.specs.Operands.{StatementOutcome}
use Rattle.sps_pass_two.specs.Broken.{begins_at}
use Rattle.sps_pass_two.specs.Writing.{with_digits}
use Rattle.sps_pass_two.specs.Making.{IsPlacedOn, start_after, placed_with}

-- the answer for an operand: the least of an earlier fault and its own faults, and its value
pub record IsAnswer (before : Option Fault) (a : OperandAnswer) (r : Answered) : Type 0 where
  pub worst : r.worst ≡ least before a.faults
  pub value : r.value ≡ a.value

-- the result of a statement is an outcome: the least of an earlier fault and its own faults, and its digits
pub record GivesOutcome (before : Option Fault) (o : StatementOutcome) (r : MadeOutcome) : Type 0 where
  pub worst : r.worst ≡ least before o.faults
  pub digits : r.digits.items ≡ o.digits

-- the result with one more statement, at a place and with digits
pub record AddsMadeStatement (ended : Bool) (head : Option ℕ) (symbols : List SymbolEntry) (place : Place) (s : StatementText) (digits : List Digit)
    (old new : MadeSoFar) : Type 0 where
  pub cells : new.cells.items ≡ with_digits old.cells.items (begins_at place s) digits
  pub start : new.start ≡ start_after ended old.start head symbols place s
  pub placed : IsPlacedOn old.placed.items (placed_with ended place s digits) new.placed.items
