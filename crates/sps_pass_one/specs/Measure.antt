-- The operands of declaratives on which the layout depends: length, count and explicit address.
-- Source: SPS manual, declarative operations; the operand lists and their ranges are this project's own.
use Rattle.std.specs.Option.{ForSome}
use Rattle.std.specs.Prelude.{ℕ, ◌%◌, ℤ, pos, ◌≤ℤ◌, int_le, nat_abs, Bool, true, false, not, ◌&&◌, ◌==◌, List, [], ◌∷◌, ◌++◌, Option, Some, None, Result, Ok, Err, if◌then◌else◌, slice_index_or}
use Rattle.sps_ops.specs.declared.rule.Rule.{Rule}
use Rattle.sps_ops.specs.declared.rule.Rule.TheVariants.{MissingOperand, ValueTooLarge, BadLength, EvenAddress}
use Rattle.sps_ops.specs.declared.operation.Declarative.{Declarative}
use Rattle.sps_ops.specs.declared.operation.Declarative.TheVariants.{Ds, Dss, Das, Dc, Dsc, Dac, Dsa, Dsb, Dnb, Dgm, Dda, Dorg, Dend, Head}
use Rattle.sps_scan.specs.Columns.{is_blank}
use Rattle.sps_scan.specs.Numbers.{short_number}
use Rattle.sps_scan.specs.declared.statement.Statement.{Statement}
use Rattle.sps_scan.specs.Statement.{StatementText, statement_text}
use Rattle.sps_expr.specs.declared.scope.Scope.{Scope as GivenScope}
use Rattle.sps_expr.specs.Value.{Scope, scope_now, value_of}
use Rattle.sps_pass_one.specs.declared.fault.Fault.{Fault}
use Rattle.sps_pass_one.specs.declared.ask.OperandReading.{OperandReading}
use Rattle.sps_pass_one.specs.declared.ask.OperandReading.TheVariants.{Expression, TwoDigits}
use Rattle.sps_pass_one.specs.declared.ask.Ask.{Ask}
use Rattle.sps_pass_one.specs.declared.ask.Form.{Form}
use Rattle.sps_pass_one.specs.Faults.{fault_at, broken_if}

-- the part of a statement at a place; after the ten parts the text is empty
abbrev pub part_at : StatementText → ℕ → List ℕ
part_at s place = slice_index_or s.parts place []

-- a part is empty if it has only blanks
abbrev pub lacks : StatementText → ℕ → Bool
lacks s place = is_blank (part_at s place)

-- a length or a count of 1 to `most`
abbrev pub length_ask : ℕ → ℤ → Bool → Ask
length_ask place most needed = record {
  place = place;
  reading = Expression;
  low = pos 1;
  high = most;
  over = BadLength;
  needed = needed;
  odd = false;
}

-- the n of a DAC: one or two digits, 1 to 50
abbrev pub text_length_ask : Ask
text_length_ask = record {
  place = 0;
  reading = TwoDigits;
  low = pos 1;
  high = pos 50;
  over = BadLength;
  needed = true;
  odd = false;
}

-- an address of five digits
abbrev pub address_ask : ℕ → Bool → Bool → Ask
address_ask place needed odd = record {
  place = place;
  reading = Expression;
  low = pos 0;
  high = pos 99999;
  over = ValueTooLarge;
  needed = needed;
  odd = odd;
}

-- the valid values lie within 0 to 99,999
pub record IsSmall (q : Ask) : Type 0 where
  pub low : pos 0 ≤ℤ q.low
  pub high : q.high ≤ℤ pos 99999

abbrev pub IsSmallForm : Form → Type 0
IsSmallForm f = ForSome f.n IsSmall × ForSome f.k IsSmall × ForSome f.a IsSmall

-- a form with at most a length and an address
abbrev pub form_with : Option Ask → Option Ask → Form
form_with n a = record { n = n; k = None; a = a; either = false; text = false }

-- a form with a length and an address; their parts may not both be empty
abbrev pub form_of_either : Ask → Ask → Form
form_of_either n a = record { n = Some n; k = None; a = Some a; either = true; text = false }

-- a form with the length of a text, the text and an address
abbrev pub form_of_text : Ask → Ask → Form
form_of_text n a = record { n = Some n; k = None; a = Some a; either = false; text = true }

-- a form with a length, a count and an address
abbrev pub form_of_block : Ask → Ask → Ask → Form
form_of_block n k a = record { n = Some n; k = Some k; a = Some a; either = false; text = false }

-- THE TABLE: the conditions of each declarative on n, k and A
--   either: one of the first two parts is needed; text: the second part is a text, and a comma before it is needed
abbrev pub form_of : Declarative → Form
form_of Ds = form_of_either (length_ask 0 (pos 99999) false) (address_ask 1 false false)
form_of Dss = form_of_either (length_ask 0 (pos 99999) false) (address_ask 1 false false)
form_of Das = form_with (Some (length_ask 0 (pos 99999) true)) (Some (address_ask 1 false true))
form_of Dc = form_with (Some (length_ask 0 (pos 50) true)) (Some (address_ask 2 false false))
form_of Dsc = form_with (Some (length_ask 0 (pos 50) true)) (Some (address_ask 2 false false))
form_of Dac = form_of_text text_length_ask (address_ask 2 false true)
form_of Dsa = form_with None None
form_of Dsb = form_of_block (length_ask 0 (pos 99999) true) (length_ask 1 (pos 99999) true) (address_ask 2 false false)
form_of Dnb = form_with (Some (length_ask 0 (pos 50) true)) (Some (address_ask 1 false false))
form_of Dgm = form_with None (Some (address_ask 0 false false))
form_of Dda = form_with None None
form_of Dorg = form_with None (Some (address_ask 0 true false))
form_of Dend = form_with None None
form_of Head = form_with None None

-- the value of an operand, and the rules that it breaks
pub record OperandAnswer : Type 0 where
  pub faults : List Fault
  pub value : Option ℤ

abbrev pub good : ℤ → OperandAnswer
good v = record { faults = []; value = Some v }

abbrev pub bad : Fault → OperandAnswer
bad f = record { faults = f ∷ []; value = None }

abbrev pub nothing : OperandAnswer
nothing = record { faults = []; value = None }

-- the number that one or two digits stand for; any other text breaks rule 11
abbrev pub or_bad_length : Option ℕ → Result ℤ Rule
or_bad_length None = Err BadLength
or_bad_length (Some n) = Ok (pos n)

abbrev pub short_value : List ℕ → Result ℤ Rule
short_value part = or_bad_length (short_number part)

abbrev pub read_as : OperandReading → Scope → List ℕ → Result ℤ Rule
read_as Expression scope part = value_of scope part
read_as TwoDigits scope part = short_value part

abbrev pub is_even : ℤ → Bool
is_even v = nat_abs v % 2 == 0

-- the answer for a value or a broken rule: a value must be in range, and only a value within the range is checked for being odd
abbrev pub in_bounds : Ask → Result ℤ Rule → OperandAnswer
in_bounds q (Err rule) = bad (fault_at rule q.place)
in_bounds q (Ok v) =
    if not (int_le q.low v && int_le v q.high) then bad (fault_at q.over q.place)
    else if q.odd && is_even v then bad (fault_at EvenAddress q.place)
    else good v

abbrev pub missing_answer : Bool → OperandAnswer
missing_answer needed = record { faults = broken_if needed MissingOperand; value = None }

-- the answer for an operand: its value, or the rules that it breaks
unfoldable pub answer : Scope → StatementText → Ask → OperandAnswer
answer scope s q =
    if lacks s q.place then missing_answer q.needed
    else in_bounds q (read_as q.reading scope (part_at s q.place))

abbrev pub answer_if : Scope → StatementText → Option Ask → OperandAnswer
answer_if scope s None = nothing
answer_if scope s (Some q) = answer scope s q

-- the answer for an operand, with a statement and a scope of the program
abbrev pub answer_in : GivenScope → Statement → Ask → OperandAnswer
answer_in scope s q = answer (scope_now scope) (statement_text s) q

abbrev pub if_asked : GivenScope → Statement → Option Ask → OperandAnswer
if_asked scope s q = answer_if (scope_now scope) (statement_text s) q

-- the values of n, k and A, with 0 for a length or a count that is missing, and their faults
pub record Measure : Type 0 where
  pub faults : List Fault
  pub n : ℕ
  pub k : ℕ
  pub a : Option ℕ

-- a value as a length or an address
abbrev pub size_of : Option ℤ → ℕ
size_of None = 0
size_of (Some v) = nat_abs v

abbrev pub natural_address : Option ℤ → Option ℕ
natural_address None = None
natural_address (Some v) = Some (nat_abs v)

-- an address, or 0 if there is no address
abbrev pub size_or_0 : Option ℕ → ℕ
size_or_0 None = 0
size_or_0 (Some a) = a

-- n and A are both empty but one of them is needed, or a text has no comma before it
abbrev pub lacking_faults : StatementText → Form → List Fault
lacking_faults s f =
    broken_if (f.either && (lacks s 0 && lacks s 1)) MissingOperand
    ++ broken_if (f.text && (s.count == 1)) MissingOperand

-- the faults of an operand; none if the declarative does not have the operand
abbrev pub faults_of : Scope → StatementText → Option Ask → List Fault
faults_of scope s q = (answer_if scope s q).faults

-- the values and the faults of a declarative's operands, by its row of the table
unfoldable pub measure : Scope → StatementText → Form → Measure
measure scope s f = record {
  faults = lacking_faults s f ++ (faults_of scope s f.n ++ (faults_of scope s f.k ++ faults_of scope s f.a));
  n = size_of (answer_if scope s f.n).value;
  k = size_of (answer_if scope s f.k).value;
  a = natural_address (answer_if scope s f.a).value;
}

-- the measure of a declarative, with a statement and a scope of the program
abbrev pub measure_in : GivenScope → Statement → Form → Measure
measure_in scope s f = measure (scope_now scope) (statement_text s) f
