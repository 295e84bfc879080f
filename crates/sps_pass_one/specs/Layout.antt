-- Locations, labels and heads.
-- Source: SPS manual, location counter and labels; what a broken statement takes, which characters a label may have,
-- and how many statements there may be, are this project's own.
use Rattle.std.specs.Prelude.{ℕ, ◌+◌, ℤ, pos, Bool, true, false, not, ◌&&◌, ◌||◌, List, [], ◌∷◌, ◌++◌, take, map, Option, Some, None, if◌then◌else◌, is_some, option_map}
use Rattle.outside_io.specs.Lines.{texts_of}
use Rattle.sps_ops.specs.declared.operation.Declarative.{Declarative}
use Rattle.sps_ops.specs.declared.operation.Operation.{Operation}
use Rattle.sps_ops.specs.declared.operation.Operation.TheVariants.{Instruction, Declare}
use Rattle.sps_ops.specs.declared.operation.Declarative.TheVariants.{Dend, Head}
use Rattle.sps_ops.specs.declared.rule.Rule.{Rule}
use Rattle.sps_ops.specs.declared.rule.Rule.TheVariants.{UnknownOperation}
use Rattle.sps_ops.specs.Operations.{lookup}
use Rattle.sps_scan.specs.declared.statement.Shape.{Shape}
use Rattle.sps_scan.specs.declared.statement.Shape.TheVariants.{Plain}
use Rattle.line_words.specs.Blanks.{trimmed}
use Rattle.sps_scan.specs.Statement.{StatementText, statement_of}
use Rattle.sps_expr.specs.Grammar.{is_name, is_nothing}
use Rattle.sps_expr.specs.Symbol.{SymbolEntry, entry_with, find, symbol_of}
use Rattle.sps_expr.specs.Value.{Scope, scope_of}
use Rattle.sps_pass_one.specs.declared.fault.Fault.{Fault}
use Rattle.sps_pass_one.specs.declared.place.Place.{Place}
use Rattle.sps_pass_one.specs.declared.place.Placing.{Placing}
use Rattle.sps_pass_one.specs.Faults.{fault, least}
use Rattle.sps_pass_one.specs.Heads.{head_faults, head_in}
use Rattle.sps_pass_one.specs.Measure.{measure, form_of}
use Rattle.sps_pass_one.specs.Placing.{nothing_at, declared_placing, placing_of}

-- the state before a statement: its number, its location, the head in force, the symbols of the statements before it, and whether
-- a DEND that counts is among them
pub record PassState : Type 0 where
  pub number : ℕ
  pub at : ℕ
  pub head : Option ℕ
  pub symbols : List SymbolEntry
  pub ended : Bool

-- the state before the first statement
abbrev pub first : PassState
first = record { number = 1; at = 402; head = None; symbols = []; ended = false }

abbrev pub is_plain : Shape → Bool
is_plain Plain = true
is_plain shape = false

-- the statement counts: it is plain, and it does not follow a DEND
abbrev pub counts_if : Bool → Shape → Bool
counts_if ended shape = is_plain shape && not ended

abbrev pub counts : PassState → StatementText → Bool
counts st s = counts_if st.ended s.shape

abbrev pub operation_of : StatementText → Option Operation
operation_of s = lookup s.operation

-- the scope with the head in force, the symbols of earlier statements, and the location for `*`
abbrev pub earlier_symbols : Option ℕ → List SymbolEntry → ℕ → Scope
earlier_symbols head symbols at = scope_of head symbols (pos at) None

-- where a declarative puts its field, by its n, k and A
abbrev pub declarative_placing : Option ℕ → List SymbolEntry → ℕ → StatementText → Declarative → Placing
declarative_placing head symbols at s d = declared_placing d at s (measure (earlier_symbols head symbols at) s (form_of d))

-- where a statement with an operation puts its label and its digits, with the symbols of earlier statements
abbrev pub placing_by : Option ℕ → List SymbolEntry → ℕ → StatementText → Option Operation → Placing
placing_by head symbols at s op = placing_of (earlier_symbols head symbols at) at s op

-- the placing by the operation if the statement counts; else it takes no digits
abbrev pub placing_if : Bool → Option ℕ → List SymbolEntry → ℕ → StatementText → Placing
placing_if active head symbols at s = if active then placing_by head symbols at s (operation_of s) else nothing_at at

-- where a statement puts its label and its digits
unfoldable pub placing : PassState → StatementText → Placing
placing st s = placing_if (counts st s) st.head st.symbols st.at s

-- a label is letters and digits with a letter among them; its columns have room for six characters
abbrev pub is_label : List ℕ → Bool
is_label name = is_name name

-- the symbols, with one more if its name is not among them
abbrev pub with_symbol : List SymbolEntry → SymbolEntry → List SymbolEntry
with_symbol symbols e = if is_some (find e.name symbols) then symbols else symbols ++ e ∷ []

-- the symbols, with the symbol of a label and its value if no earlier label defines that symbol
abbrev pub with_label : Option ℕ → List SymbolEntry → List ℕ → ℕ → ℕ → List SymbolEntry
with_label head symbols name value number = with_symbol symbols (entry_with (symbol_of head name) (pos value) number)

-- the symbols after a statement: with its label's symbol if the statement counts and the name is a label
abbrev pub symbols_if : Bool → Option ℕ → List SymbolEntry → List ℕ → ℕ → ℕ → List SymbolEntry
symbols_if active head symbols name value number =
    if active && is_label name then with_label head symbols name value number else symbols

abbrev pub is_end : Option Operation → Bool
is_end (Some (Declare Dend)) = true
is_end op = false

abbrev pub ends_if : Bool → Bool → StatementText → Bool
ends_if ended active s = ended || (active && is_end (operation_of s))

abbrev pub is_head : Option Operation → Bool
is_head (Some (Declare Head)) = true
is_head op = false

-- the head in force after a statement: a HEAD that counts, and whose parts break no rule, sets it
abbrev pub head_after : Option ℕ → Bool → StatementText → Option ℕ
head_after head active s =
    if active && (is_head (operation_of s) && is_nothing (head_faults s)) then head_in s else head

-- the state before the next statement
unfoldable pub state_before_next : PassState → StatementText → PassState
state_before_next st s = record {
  number = st.number + 1;
  at = (placing st s).next;
  head = head_after st.head (counts st s) s;
  symbols = symbols_if (counts st s) st.head st.symbols (trimmed s.label) (placing st s).label st.number;
  ended = ends_if st.ended (counts st s) s;
}

-- a statement: the state before it, its line, and the texts of the line
pub record PassStep : Type 0 where
  pub before : PassState
  pub line : List ℕ
  pub text : StatementText

abbrev pub pass_step : PassState → List ℕ → PassStep
pass_step st line = record { before = st; line = line; text = statement_of line }

-- the statements of some lines, each with the state before it
unfoldable pub statements : PassState → List (List ℕ) → List PassStep
statements st [] = []
statements st (line ∷ lines) = pass_step st line ∷ statements (state_before_next st (statement_of line)) lines

-- the state after the last of some lines
unfoldable pub state_behind : PassState → List (List ℕ) → PassState
state_behind st [] = st
state_behind st (line ∷ lines) = state_behind (state_before_next st (statement_of line)) lines

-- the greatest number of statements in a source
abbrev pub most_statements : ℕ
most_statements = 20000

-- the lines of a source that the assembler reads: at most one more than a source may have
abbrev pub lines_of_source : List ℕ → List (List ℕ)
lines_of_source source = take (most_statements + 1) (texts_of source)

-- all statements of a source, and all its symbols
abbrev pub statements_of : List ℕ → List PassStep
statements_of source = statements first (lines_of_source source)

abbrev pub symbols_of : List ℕ → List SymbolEntry
symbols_of source = (state_behind first (lines_of_source source)).symbols

-- the place of a statement
abbrev pub place_by_placing : ℕ → Placing → Place
place_by_placing at p = record { location = pos at; label = pos p.label; digits = p.digits }

abbrev pub statement_place : PassStep → Place
statement_place x = place_by_placing x.before.at (placing x.before x.text)

abbrev pub statement_places : List ℕ → List Place
statement_places source = map statement_place (statements_of source)

-- the scope for checks: names must be labels of earlier statements
abbrev pub for_layout : Option ℕ → List SymbolEntry → ℤ → ℕ → Scope
for_layout head symbols location number = scope_of head symbols location (Some number)

-- the faults of n, k, A and a DAC's text
abbrev pub declared_faults : Option ℕ → List SymbolEntry → ℤ → ℕ → StatementText → Declarative → List Fault
declared_faults head symbols location number s d =
    (measure (for_layout head symbols location number) s (form_of d)).faults

-- the faults in the layout: an unknown operation, or the faults of a declarative's operands
abbrev pub operation_faults : Option ℕ → List SymbolEntry → ℤ → ℕ → StatementText → Option Operation → List Fault
operation_faults head symbols location number s None = fault UnknownOperation ∷ []
operation_faults head symbols location number s (Some (Instruction opcode q immediate)) = []
operation_faults head symbols location number s (Some (Declare d)) = declared_faults head symbols location number s d

unfoldable pub layout_faults : Option ℕ → List SymbolEntry → Place → Bool → ℕ → StatementText → List Fault
layout_faults head symbols place is_ended number s =
    if counts_if is_ended s.shape then operation_faults head symbols place.location number s (operation_of s) else []

abbrev pub layout_faults_at : List SymbolEntry → PassStep → List Fault
layout_faults_at symbols x =
    layout_faults x.before.head symbols (statement_place x) x.before.ended x.before.number x.text

-- a statement and a fault of it
pub record Refusal : Type 0 where
  pub statement : ℕ
  pub fault : Fault

abbrev pub or_later : ℕ → Option Fault → Option Refusal → Option Refusal
or_later number None later = later
or_later number (Some f) later = Some (record { statement = number; fault = f })

-- the first statement that has a fault, with its least fault; the statements are numbered from `number` on
unfoldable pub first_refusal : ℕ → List (List Fault) → Option Refusal
first_refusal number [] = None
first_refusal number (fs ∷ fss) = or_later number (least None fs) (first_refusal (number + 1) fss)

-- the first statement whose operation is unknown or whose layout is broken
abbrev pub layout_refusal : List ℕ → Option Refusal
layout_refusal source = first_refusal 1 (map (layout_faults_at (symbols_of source)) (statements_of source))

-- a refusal without the part
abbrev pub statement_and_rule : Refusal → ℕ × Rule
statement_and_rule r = (r.statement, r.fault.rule)

abbrev pub first_broken_rule : List ℕ → Option (ℕ × Rule)
first_broken_rule source = option_map statement_and_rule (layout_refusal source)
