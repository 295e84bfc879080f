-- Which rules each statement breaks, and the refusal of a source.
-- Source: SPS manual, declarative operations, for their digits; the rules are this project's own.
use Rattle.std.specs.Prelude.{ℕ, ◌+◌, ◌-◌, ◌%◌, ℤ, pos, nat_abs, int_le, Bool, true, false, not, ◌&&◌, ◌||◌, ◌==◌, List, [], ◌∷◌, ◌++◌, length, map, replicate, Option, Some, None, if◌then◌else◌, nat_lt}
use Rattle.digit_core.specs.declared.Digit.{Digit}
use Rattle.digit_core.specs.Cell.{unflagged_digit}
use Rattle.digit_core.specs.declared.TheConstants.{NUMERICAL_BLANK, GROUP_MARK}
use Rattle.sps_ops.specs.declared.rule.Rule.TheVariants.{BadColumn, LongCard, BadLabel, UnknownOperation, DuplicateLabel, MissingOperand, BadConstant, OutsideImage, BadStart, AfterEnd, NoEnd, NoStart, TooManyStatements}
use Rattle.sps_ops.specs.declared.operation.Operation.{Operation}
use Rattle.sps_ops.specs.declared.operation.Operation.TheVariants.{Instruction, Declare}
use Rattle.sps_ops.specs.declared.operation.Declarative.{Declarative}
use Rattle.sps_ops.specs.declared.operation.Declarative.TheVariants.{Ds, Dss, Das, Dc, Dsc, Dac, Dsa, Dsb, Dnb, Dgm, Dda, Dorg, Dend, Head}
use Rattle.sps_scan.specs.declared.statement.Shape.{Shape}
use Rattle.sps_scan.specs.declared.statement.Shape.TheVariants as shape
use Rattle.line_words.specs.Blanks.{trimmed}
use Rattle.sps_scan.specs.Statement.{StatementText, all_allowed}
use Rattle.sps_expr.specs.Grammar.{is_nothing}
use Rattle.sps_expr.specs.Symbol.{SymbolEntry, find, symbol_of}
use Rattle.sps_expr.specs.Value.{Scope, scope_of}
use Rattle.sps_pass_one.specs.declared.fault.Fault.{Fault}
use Rattle.sps_pass_one.specs.declared.place.Place.{Place}
use Rattle.sps_pass_one.specs.Faults.{fault, broken_if, broken_at_if}
use Rattle.sps_pass_one.specs.Measure.{Measure, measure, form_of, answer, part_at, lacks}
use Rattle.sps_pass_one.specs.Heads.{head_faults}
use Rattle.sps_pass_one.specs.Placing.{label_place}
use Rattle.sps_pass_one.specs.Layout.{first, counts_if, is_label, operation_of, PassStep, statement_place, lines_of_source, statements_of, symbols_of, state_behind, most_statements, Refusal, first_refusal}
use Rattle.sps_pass_two.specs.Digits.{constant_of, with_leading_zeros, with_first_flag, text_digits}
use Rattle.sps_pass_two.specs.Operands.{operand_ask, StatementOutcome, instruction_outcome, dsa_outcome, dda_outcome}
use Rattle.sps_pass_two.specs.Kept.{lowest_declared, lowest_start}

-- the line is neither a comment nor blank
abbrev pub is_card : Shape → Bool
is_card shape.Comment = false
is_card shape.Blank = false
is_card s = true

abbrev pub is_bad_column : Shape → Bool
is_bad_column shape.BadColumn = true
is_bad_column s = false

abbrev pub is_long : Shape → Bool
is_long shape.Long = true
is_long s = false

-- the rules that the assembler checks for every statement
abbrev pub line_faults : Shape → Bool → ℕ → List Fault
line_faults s ended number =
    broken_if (is_bad_column s) BadColumn
    ++ (broken_if (is_long s) LongCard
    ++ (broken_if (ended && is_card s) AfterEnd
    ++ broken_if (number == most_statements + 1) TooManyStatements))

-- a symbol was found, and its statement is an earlier one
abbrev pub is_earlier : ℕ → Option (ℤ × ℕ) → Bool
is_earlier number None = false
is_earlier number (Some found) = nat_lt found.1 number

-- the rules that a label breaks: it is invalid, or an earlier statement's label has its symbol
abbrev pub label_faults : Option ℕ → List SymbolEntry → List ℕ → ℕ → List Fault
label_faults head symbols name number =
    broken_if (not (is_nothing name) && not (is_label name)) BadLabel
    ++ broken_if (is_label name && is_earlier number (find (symbol_of head name) symbols)) DuplicateLabel

-- a scope in which a name may be the name of any symbol of the source, and `*` is an address
abbrev pub anywhere : Option ℕ → List SymbolEntry → ℤ → Scope
anywhere head symbols here = scope_of head symbols here None

-- The constant of a DC or DSC. A length that breaks a rule is 0; then the digits are not counted.

abbrev pub too_long : ℕ → List Digit → Bool
too_long n ds = not (n == 0) && nat_lt n (length ds)

abbrev pub is_bad_constant : ℕ → Option (List Digit) → Bool
is_bad_constant n None = true
is_bad_constant n (Some ds) = too_long n ds

abbrev pub constant_faults : ℕ → StatementText → List Fault
constant_faults n s =
    if lacks s 1 then fault MissingOperand ∷ []
    else broken_at_if (is_bad_constant n (constant_of (part_at s 1))) BadConstant 1

abbrev pub digits_or_none : Option (List Digit) → List Digit
digits_or_none None = []
digits_or_none (Some ds) = ds

abbrev pub constant_digits : ℕ → StatementText → List Digit
constant_digits n s = with_leading_zeros n (digits_or_none (constant_of (part_at s 1)))

-- the rules and the digits of the constant of a DSC
abbrev pub constant_outcome : ℕ → StatementText → StatementOutcome
constant_outcome n s = record { faults = constant_faults n s; digits = constant_digits n s }

-- the digits of a DC; the first has a flag if the length is 2 or more
abbrev pub flagged_constant : ℕ → StatementText → List Digit
flagged_constant n s = with_first_flag (nat_lt 1 n) (constant_digits n s)

-- the text of a DAC has a character that the assembler does not allow
abbrev pub text_faults : List ℕ → List Fault
text_faults text = broken_at_if (not (all_allowed text)) BadConstant 1

-- The start.

-- the start is odd, below 00400, or so high that no instruction fits there
abbrev pub is_bad_start : ℕ → Option ℤ → Bool
is_bad_start positions None = false
is_bad_start positions (Some v) =
    not (int_le (pos lowest_start) v && int_le v (pos (positions - 12))) || (nat_abs v % 2 == 1)

abbrev pub start_faults : Scope → StatementText → ℕ → List Fault
start_faults scope s positions =
    broken_if (lacks s 0) NoStart
    ++ ((answer scope s (operand_ask 0)).faults
    ++ broken_if (is_bad_start positions (answer scope s (operand_ask 0)).value) BadStart)

abbrev pub faults_alone : List Fault → StatementOutcome
faults_alone faults = record { faults = faults; digits = [] }

-- an outcome with more faults, before its own
abbrev pub with_faults : List Fault → StatementOutcome → StatementOutcome
with_faults faults o = record { faults = faults ++ o.faults; digits = o.digits }

-- THE RULES AND THE DIGITS of a declarative, except the rules of its n, k and A; n is its length
abbrev pub own_outcome : Declarative → Scope → StatementText → ℕ → ℕ → StatementOutcome
own_outcome Ds scope s n positions = faults_alone []
own_outcome Dss scope s n positions = faults_alone []
own_outcome Das scope s n positions = faults_alone []
own_outcome Dc scope s n positions = record { faults = constant_faults n s; digits = flagged_constant n s }
own_outcome Dsc scope s n positions = constant_outcome n s
own_outcome Dac scope s n positions =
    record { faults = text_faults (part_at s 1); digits = text_digits n (part_at s 1) }
own_outcome Dsa scope s n positions = dsa_outcome scope s
own_outcome Dsb scope s n positions = faults_alone []
own_outcome Dnb scope s n positions = record { faults = []; digits = replicate n (unflagged_digit NUMERICAL_BLANK) }
own_outcome Dgm scope s n positions = record { faults = []; digits = unflagged_digit GROUP_MARK ∷ [] }
own_outcome Dda scope s n positions = dda_outcome scope s
own_outcome Dorg scope s n positions = faults_alone []
own_outcome Dend scope s n positions = faults_alone (start_faults scope s positions)
own_outcome Head scope s n positions = faults_alone (head_faults s)

-- the operands of a declarative on which the layout depends, and the others; `*` is the address of an instruction, or the
-- location before a declarative
abbrev pub measure_of : Option ℕ → List SymbolEntry → Place → ℕ → StatementText → Declarative → Measure
measure_of head symbols place number s d = measure (scope_of head symbols place.location (Some number)) s (form_of d)

abbrev pub others_of : Option ℕ → List SymbolEntry → Place → ℕ → StatementText → ℕ → Declarative → StatementOutcome
others_of head symbols place number s positions d =
    own_outcome d (anywhere head symbols place.location) s (measure_of head symbols place number s d).n positions

abbrev pub declared_outcome : Option ℕ → List SymbolEntry → Place → ℕ → StatementText → ℕ → Declarative → StatementOutcome
declared_outcome head symbols place number s positions d =
    with_faults (measure_of head symbols place number s d).faults (others_of head symbols place number s positions d)

abbrev pub outcome_by_operation : Option ℕ → List SymbolEntry → Place → ℕ → StatementText → ℕ → Option Operation → StatementOutcome
outcome_by_operation head symbols place number s positions None = faults_alone (fault UnknownOperation ∷ [])
outcome_by_operation head symbols place number s positions (Some (Instruction opcode q immediate)) =
    instruction_outcome (anywhere head symbols place.label) s opcode q immediate
outcome_by_operation head symbols place number s positions (Some (Declare d)) =
    declared_outcome head symbols place number s positions d

-- The image.

-- the address of a statement's first digit: the declarative determines how many positions it lies before the label's address
abbrev pub first_address : Option Operation → Place → ℕ
first_address (Some (Declare d)) place = nat_abs place.label - label_place d place.digits
first_address op place = nat_abs place.label

-- the address of a statement's first digit, by its place and its text
abbrev pub begins_at : Place → StatementText → ℕ
begins_at place s = first_address (operation_of s) place

-- a declared digit lies below 00100 or past the end of core
abbrev pub is_outside : ℕ → ℕ → ℕ → Bool
is_outside positions from digits = nat_lt 0 digits && (nat_lt from lowest_declared || nat_lt positions (from + digits))

-- the rules that a statement that counts breaks, and its digits
abbrev pub counting_outcome : Option ℕ → List SymbolEntry → Place → ℕ → StatementText → ℕ → Option Operation → StatementOutcome
counting_outcome head symbols place number s positions op = record {
  faults = label_faults head symbols (trimmed s.label) number
      ++ ((outcome_by_operation head symbols place number s positions op).faults
      ++ broken_if (is_outside positions (first_address op place) place.digits) OutsideImage);
  digits = (outcome_by_operation head symbols place number s positions op).digits;
}

abbrev pub outcome_if : Bool → Option ℕ → List SymbolEntry → Place → ℕ → StatementText → ℕ → StatementOutcome
outcome_if active head symbols place number s positions =
    if active then counting_outcome head symbols place number s positions (operation_of s) else faults_alone []

-- ALL RULES THAT A STATEMENT BREAKS, and the digits that it declares if it breaks none
unfoldable pub statement_outcome : Option ℕ → List SymbolEntry → Place → Bool → ℕ → StatementText → ℕ → StatementOutcome
statement_outcome head symbols place ended number s positions =
    with_faults (line_faults s.shape ended number)
    (outcome_if (counts_if ended s.shape) head symbols place number s positions)

abbrev pub outcome_at : List SymbolEntry → ℕ → PassStep → StatementOutcome
outcome_at symbols positions x =
    statement_outcome x.before.head symbols (statement_place x) x.before.ended x.before.number x.text positions

-- the rule that the end of a source breaks, if no statement is a DEND
abbrev pub end_faults : Bool → List Fault
end_faults ended = broken_if (not ended) NoEnd

-- the rules that each statement breaks, and then the rule that the end breaks, as if at the statement after the last
abbrev pub all_faults : ℕ → List ℕ → List (List Fault)
all_faults positions source =
    map (λ x. (outcome_at (symbols_of source) positions x).faults) (statements_of source)
    ++ end_faults (state_behind first (lines_of_source source)).ended ∷ []

-- THE REFUSAL: the least statement that breaks a rule, with the least rule that it breaks and the first part that breaks it
abbrev pub refusal_of : ℕ → List ℕ → Option Refusal
refusal_of positions source = first_refusal 1 (all_faults positions source)

-- a refusal as a pair
abbrev pub statement_and_fault : Refusal → ℕ × Fault
statement_and_fault r = (r.statement, r.fault)
