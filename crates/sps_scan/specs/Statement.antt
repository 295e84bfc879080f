-- A line as a statement.
-- Source: SPS manual, coding sheet; that a line has at most 80 bytes, and what it is first, are this project's own.
use Rattle.std.specs.Prelude.{ℕ, Bool, true, false, ◌&&◌, List, [], length, replicate, map, codes, nat_lt, ◌==◌, if◌then◌else◌, slice_index_or}
use Rattle.std.specs.List.{list_all, list_any}
use Rattle.std.specs.Borrow.{Bor}
use Rattle.sps_scan.specs.declared.statement.Shape.{Shape}
use Rattle.sps_scan.specs.declared.statement.Shape.TheVariants.{Comment, Blank, Long, BadColumn, Plain}
use Rattle.sps_scan.specs.declared.statement.Statement.{Statement}
use Rattle.line_words.specs.Blanks.{trimmed}
use Rattle.sps_scan.specs.Columns.{columns, is_blank}
use Rattle.sps_scan.specs.Operands.{OperandParts, operands_of, ten_parts}

-- a statement with texts instead of slices
pub record StatementText : Type 0 where
  pub shape : Shape
  pub label : List ℕ
  pub operation : List ℕ
  pub parts : List (List ℕ)
  pub count : ℕ
  pub remark : List ℕ

-- the text of a slice
abbrev pub now_of : Bor (List ℕ) → List ℕ
now_of slice = slice.now

-- the texts of a statement's slices
abbrev pub statement_text : Statement → StatementText
statement_text s = record {
  shape = s.shape;
  label = s.label.now;
  operation = s.operation.now;
  parts = map now_of s.parts;
  count = s.count;
  remark = s.remark.now;
}

-- the characters of the assembler, in the order of their pairs of digits on cards
abbrev pub source_characters : List ℕ
source_characters = codes " .)+$*-/,(=@ABCDEFGHIJKLMNOPQRSTUVWXYZ0123456789"

-- the byte is a character of the assembler
unfoldable pub is_allowed : ℕ → Bool
is_allowed b = list_any (λ c. c == b) source_characters

-- each byte of a text is a character of the assembler
abbrev pub all_allowed : List ℕ → Bool
all_allowed text = list_all is_allowed text

-- each byte of each part is a character of the assembler
abbrev pub parts_allowed : List (List ℕ) → Bool
parts_allowed parts = list_all all_allowed parts

-- the line has a `*` in column 6
abbrev pub is_comment : List ℕ → Bool
is_comment line = slice_index_or line 5 0 == 42

-- the shape of a line with an operation, from columns 6 to 15 and the parts
abbrev pub shape_of : List ℕ → List (List ℕ) → Shape
shape_of front parts = if all_allowed front && parts_allowed parts then Plain else BadColumn

-- a line holds no statement: it is a comment or blank
abbrev pub holds_nothing : Shape → Bool
holds_nothing Comment = true
holds_nothing Blank = true
holds_nothing shape = false

-- a statement of empty texts
abbrev pub without_parts : Shape → StatementText
without_parts shape = record {
  shape = shape;
  label = [];
  operation = [];
  parts = replicate 10 [];
  count = 0;
  remark = [];
}

-- the statement of a line with an operation and these operands
abbrev pub with_operands : List ℕ → OperandParts → StatementText
with_operands line o = record {
  shape = shape_of (columns 6 15 line) o.parts;
  label = columns 6 11 line;
  operation = columns 12 15 line;
  parts = ten_parts o.parts;
  count = length o.parts;
  remark = o.remark;
}

-- the statement of a line that is not long, a comment or blank: the operation sets the greatest number of parts
abbrev pub with_operation : List ℕ → StatementText
with_operation line = with_operands line (operands_of (trimmed (columns 12 15 line)) (columns 16 75 line))

-- the statement of a line
unfoldable pub statement_of : List ℕ → StatementText
statement_of line =
    if nat_lt 80 (length line) then without_parts Long
    else if is_comment line then without_parts Comment
    else if is_blank (columns 6 75 line) then without_parts Blank
    else with_operation line
