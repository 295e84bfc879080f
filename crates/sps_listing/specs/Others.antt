-- The other statement that a refusal is about: the first statement with the label, or one whose label a part lacks.
-- Source: this project's own.
use Rattle.std.specs.Prelude.{ℕ, ℤ, pos, Bool, true, false, not, ◌&&◌, ◌==◌, nat_lt, if◌then◌else◌, List, [], ◌∷◌, length, take, filter, fold, Option, Some, None, is_some, option_map, option_and_then, Result, Err}
use Rattle.std.specs.List.{find as first_of}
use Rattle.sps_ops.specs.declared.rule.Rule.{Rule}
use Rattle.sps_ops.specs.declared.rule.Rule.TheVariants.{BadColumn, LongCard, DuplicateLabel, UndefinedSymbol}
use Rattle.line_words.specs.Blanks.{trimmed}
use Rattle.sps_scan.specs.declared.statement.Shape.{Shape}
use Rattle.sps_scan.specs.declared.statement.Shape.TheVariants as shape
use Rattle.sps_scan.specs.Columns.{columns}
use Rattle.sps_scan.specs.Statement.{statement_of}
use Rattle.sps_expr.specs.Symbol.{SymbolEntry, find, symbol_of}
use Rattle.sps_expr.specs.Value.{scope_of, value_of}
use Rattle.sps_pass_one.specs.Measure.{part_at}
use Rattle.sps_pass_one.specs.Layout.{PassStep, is_label, with_label, statements_of, symbols_of}
use Rattle.sps_listing.specs.Texts.{source_line_at}

-- ANOTHER STATEMENT AS SHOWN: its number, its own broken rule, the first 80 bytes of its line, and how many bytes the line has
pub record OtherText : Type 0 where
  pub statement : ℕ
  pub rule : Option Rule
  pub text : List ℕ
  pub bytes : ℕ

-- the head in force at the statement with a number; None if the list has no statement with that number
abbrev pub head_in_steps : ℕ → List PassStep → Option (Option ℕ)
head_in_steps number steps = option_map (λ x. x.before.head) (first_of (λ x. x.before.number == number) steps)

-- the head in force at the statement with a number; None if the source has no statement with that number
abbrev pub head_at : List ℕ → ℕ → Option (Option ℕ)
head_at source number = head_in_steps number (statements_of source)

-- The first statement with a label. It breaks no rule.

-- the statement of a symbol, if it is before another statement
abbrev pub earlier_statement : ℕ → Option (ℤ × ℕ) → Option (ℕ × Option Rule)
earlier_statement number None = None
earlier_statement number (Some found) = if nat_lt found.1 number then Some (found.1, None) else None

-- the first statement with the symbol that a statement's label has under a head, if it is an earlier statement: the symbols of a
-- source have the first statement of each symbol
abbrev pub first_with_label : List ℕ → ℕ → Option ℕ → Option (ℕ × Option Rule)
first_with_label source number head =
    earlier_statement number (find (symbol_of head (trimmed (statement_of (source_line_at source number)).label)) (symbols_of source))

-- The statement whose label a part lacks.

-- rule 1 or 2, if a line of this shape breaks it
abbrev pub line_rule : Shape → Option Rule
line_rule shape.BadColumn = Some BadColumn
line_rule shape.Long = Some LongCard
line_rule s = None

-- the text in the label columns of a line, without the blanks at its ends
abbrev pub label_columns : List ℕ → List ℕ
label_columns line = trimmed (columns 6 11 line)

-- a statement has a lost label: a valid label, but the line breaks rule 1 or 2, and no DEND is before it
abbrev pub has_lost_label : PassStep → Bool
has_lost_label x = is_some (line_rule x.text.shape) && (not x.before.ended && is_label (label_columns x.line))

-- the symbols with a lost label added, as a symbol under its head
abbrev pub with_lost_label : List SymbolEntry → PassStep → List SymbolEntry
with_lost_label symbols x = with_label x.before.head symbols (label_columns x.line) 0 x.before.number

-- the least rule that an expression breaks is rule 8
abbrev pub is_undefined_symbol : Result ℤ Rule → Bool
is_undefined_symbol (Err UndefinedSymbol) = true
is_undefined_symbol found = false

-- a name in the part has no symbol under a head
abbrev pub lacks_symbol : Option ℕ → List ℕ → List SymbolEntry → Bool
lacks_symbol head part symbols = is_undefined_symbol (value_of (scope_of head symbols (pos 0) None) part)

-- with the lost labels of some statements added to the symbols, no name in the part lacks a symbol
abbrev pub suffices : Option ℕ → List ℕ → List SymbolEntry → List PassStep → Bool
suffices head part symbols lost = not (lacks_symbol head part (fold with_lost_label symbols lost))

-- the first of some statements that passes a test together with all before it
unfoldable pub first_together : (List PassStep → Bool) → List PassStep → Option PassStep
first_together test [] = None
first_together test (x ∷ xs) = if test (x ∷ []) then Some x else first_together (λ ys. test (x ∷ ys)) xs

-- the first statement with a lost label whose label, together with all earlier lost labels, suffices for the part
abbrev pub lost_step : List ℕ → Option ℕ → List ℕ → Option PassStep
lost_step source head part =
    first_together (suffices head part (symbols_of source)) (filter has_lost_label (statements_of source))

-- the number of a statement, and rule 1 or 2 if it breaks it
abbrev pub number_and_rule : PassStep → ℕ × Option Rule
number_and_rule x = (x.before.number, line_rule x.text.shape)

-- the statement whose label a part of a statement lacks, by the place of the part and the head in force
abbrev pub lost_statement : List ℕ → ℕ → ℕ → Option ℕ → Option (ℕ × Option Rule)
lost_statement source number place head =
    option_map number_and_rule (lost_step source head (part_at (statement_of (source_line_at source number)) place))

-- THE OTHER STATEMENT of a refusal.

-- for `DuplicateLabel` the first statement with the label, for `UndefinedSymbol` in a part the statement whose label the part
-- lacks; None for any other rule, and for a statement that the source does not have
unfoldable pub other_of : List ℕ → ℕ → Rule → Option ℕ → Option (ℕ × Option Rule)
other_of source number DuplicateLabel part = option_and_then (first_with_label source number) (head_at source number)
other_of source number UndefinedSymbol (Some place) = option_and_then (lost_statement source number place) (head_at source number)
other_of source number rule part = None

-- a statement of the source as shown, by its number and the rule that it breaks
abbrev pub other_text : List ℕ → ℕ × Option Rule → OtherText
other_text source other = record {
  statement = other.0;
  rule = other.1;
  text = take 80 (source_line_at source other.0);
  bytes = length (source_line_at source other.0);
}

-- the other statement as shown, if there is one
abbrev pub other_statement : List ℕ → ℕ → Rule → Option ℕ → Option OtherText
other_statement source number rule part = option_map (other_text source) (other_of source number rule part)
