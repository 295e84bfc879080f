-- The outcome of the statement of a task.
use Rattle.std.specs.Prelude.{ℕ, Bool}
use Rattle.sps_ops.specs.declared.operation.Declarative.{Declarative}
use Rattle.sps_scan.specs.Statement.{StatementText, statement_text}
use Rattle.sps_pass_one.specs.Layout.{operation_of}
use Rattle.sps_pass_two.specs.declared.task.Task.{Task}
use Rattle.sps_pass_two.specs.Operands.{StatementOutcome}
use Rattle.sps_pass_two.specs.Broken.{anywhere, own_outcome, declared_outcome, outcome_by_operation, counting_outcome, outcome_if, statement_outcome}
use Rattle.sps_pass_two.specs.Making.{start_value}

-- the text of its statement
abbrev pub text_in : Task → StatementText
text_in t = statement_text t.statement.now.scanned.now

-- the outcome of a declarative, except the rules of its n, k and A; n is its length
abbrev pub own_outcome_in : Declarative → Task → ℕ → StatementOutcome
own_outcome_in d t n = own_outcome d (anywhere t.head t.symbols.now t.place.location) (text_in t) n t.positions

-- the outcome of a declarative
abbrev pub declared_outcome_in : Declarative → Task → StatementOutcome
declared_outcome_in d t = declared_outcome t.head t.symbols.now t.place t.number (text_in t) t.positions d

-- the outcome of any operation
abbrev pub outcome_in : Task → StatementOutcome
outcome_in t = outcome_by_operation t.head t.symbols.now t.place t.number (text_in t) t.positions (operation_of (text_in t))

-- the outcome of a statement that counts
abbrev pub counting_outcome_in : Task → StatementOutcome
counting_outcome_in t = counting_outcome t.head t.symbols.now t.place t.number (text_in t) t.positions (operation_of (text_in t))

-- the outcome of a statement, if it is active; else no faults and no digits
abbrev pub outcome_if_in : Bool → Task → StatementOutcome
outcome_if_in active t = outcome_if active t.head t.symbols.now t.place t.number (text_in t) t.positions

-- the outcome of any statement
abbrev pub statement_outcome_in : Task → StatementOutcome
statement_outcome_in t = statement_outcome t.head t.symbols.now t.place t.ended t.number (text_in t) t.positions

-- the start that a DEND gives
abbrev pub start_value_in : Task → ℕ
start_value_in t = start_value t.head t.symbols.now t.place (text_in t)
