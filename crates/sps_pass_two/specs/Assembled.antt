-- The result of assembling a source that breaks no rule.
-- Source: SPS manual, assembling; which sources break no rule is this project's own.
use Rattle.std.specs.Prelude.{ℕ, ℤ, Bool, true, false, ◌&&◌, List, [], ◌∷◌, map, Option, Some, nat_abs, if◌then◌else◌}
use Rattle.digit_core.specs.declared.Digit.{Digit}
use Rattle.sps_ops.specs.declared.operation.Operation.{Operation}
use Rattle.sps_ops.specs.declared.operation.Operation.TheVariants.{Instruction}
use Rattle.sps_expr.specs.Symbol.{SymbolEntry}
use Rattle.sps_pass_one.specs.Measure.{answer}
use Rattle.sps_scan.specs.Statement.{StatementText}
use Rattle.sps_pass_one.specs.Layout.{counts, counts_if, is_end, operation_of, PassStep, statement_place, statements_of, symbols_of}
use Rattle.sps_pass_two.specs.Operands.{operand_ask, value_or_0}
use Rattle.sps_pass_two.specs.Broken.{anywhere, begins_at, outcome_at}
use Rattle.sps_pass_two.specs.Image.{DigitRun, run_with, pieces_of}

-- a placed statement: the address that the listing shows, whether it is an instruction, and its digits
pub record PlacedText : Type 0 where
  pub address : ℤ
  pub instruction : Bool
  pub digits : List Digit

abbrev pub is_instruction : Option Operation → Bool
is_instruction (Some (Instruction opcode q immediate)) = true
is_instruction op = false

-- a statement counts, and is an instruction
abbrev pub counts_as_instruction : Bool → StatementText → Bool
counts_as_instruction ended s = counts_if ended s.shape && is_instruction (operation_of s)

abbrev pub placed_text : List SymbolEntry → ℕ → PassStep → PlacedText
placed_text symbols positions x = record {
  address = (statement_place x).label;
  instruction = counts_as_instruction x.before.ended x.text;
  digits = (outcome_at symbols positions x).digits;
}

-- the digits of a statement, from its first address on
abbrev pub statement_run : List SymbolEntry → ℕ → PassStep → DigitRun
statement_run symbols positions x = run_with (begins_at (statement_place x) x.text) (outcome_at symbols positions x).digits

-- the start that a DEND gives: the value of its operand without the sign, or 0 if it has none
abbrev pub start_of : List SymbolEntry → PassStep → ℕ
start_of symbols x =
    nat_abs (value_or_0 (answer (anywhere x.before.head symbols (statement_place x).location) x.text (operand_ask 0)).value)

-- a statement counts, and is a DEND
abbrev pub counts_as_end : PassStep → Bool
counts_as_end x = counts x.before x.text && is_end (operation_of x.text)

-- the start that the first DEND gives
unfoldable pub start_in : List SymbolEntry → List PassStep → ℕ
start_in symbols [] = 0
start_in symbols (x ∷ xs) = if counts_as_end x then start_of symbols x else start_in symbols xs

pub record AssembledText : Type 0 where
  pub pieces : List DigitRun
  pub start : ℕ
  pub placed : List PlacedText

-- the digits of all statements
abbrev pub fields_of : ℕ → List ℕ → List DigitRun
fields_of positions source = map (statement_run (symbols_of source) positions) (statements_of source)

-- the image, the start and the statements of a source that breaks no rule
abbrev pub assembled_text : ℕ → List ℕ → AssembledText
assembled_text positions source = record {
  pieces = pieces_of positions (fields_of positions source);
  start = start_in (symbols_of source) (statements_of source);
  placed = map (placed_text (symbols_of source) positions) (statements_of source);
}
