-- Operands, divided into parts by commas, and the remark after them.
-- Source: SPS manual, coding sheet and declarative operations; the numbers of parts, and the parting of operands and remark, are this
-- project's own.
use Rattle.std.specs.Prelude.{ℕ, zero, suc, ◌-◌, Bool, List, [], ◌∷◌, ◌++◌, length, replicate, take, drop, codes, bytes_eq, ◌==◌, if◌then◌else◌, Option, Some, None, unwrap_or}
use Rattle.line_words.specs.Rows.{NameRow, row, value_by_name}
use Rattle.sps_scan.specs.Columns.{before_comma, after_comma, has_comma}
use Rattle.sps_scan.specs.Numbers.{short_number}

-- the parts and the remark
pub record OperandParts : Type 0 where
  pub parts : List (List ℕ)
  pub remark : List ℕ

-- at most n parts, each up to a comma or to the end of the text
unfoldable pub parts_of : ℕ → List ℕ → List (List ℕ)
parts_of zero text = []
parts_of (suc n) text = before_comma text ∷ (if has_comma text then parts_of n (after_comma text) else [])

-- the text after the comma that ends part n, or nothing
unfoldable pub remark_of : ℕ → List ℕ → List ℕ
remark_of zero text = text
remark_of (suc n) text = if has_comma text then remark_of n (after_comma text) else []

-- at most this many parts, and the remark after them
abbrev pub parts_and_remark : ℕ → List ℕ → OperandParts
parts_and_remark most text = record { parts = parts_of most text; remark = remark_of most text }

-- the operands of a DAC with a text: a third part and the remark if a comma follows the text at once, else the remark alone
abbrev pub behind_text : List ℕ → List ℕ → List ℕ → OperandParts
behind_text first second [] = record { parts = first ∷ second ∷ []; remark = [] }
behind_text first second (b ∷ bs) =
    if b == 44 then record { parts = first ∷ second ∷ before_comma bs ∷ []; remark = after_comma bs }
    else record { parts = first ∷ second ∷ []; remark = b ∷ bs }

-- the operands of a DAC with a comma: a text of n columns, or an empty text and the remark if the first part is not a number
abbrev pub behind_number : List ℕ → List ℕ → Option ℕ → OperandParts
behind_number first rest None = record { parts = first ∷ [] ∷ []; remark = rest }
behind_number first rest (Some n) = behind_text first (take n rest) (drop n rest)

-- the operands of a DAC, whose text may have commas
abbrev pub dac_operands : List ℕ → OperandParts
dac_operands text =
    if has_comma text then behind_number (before_comma text) (after_comma text) (short_number (before_comma text))
    else record { parts = before_comma text ∷ []; remark = [] }

-- the operations whose greatest number of parts is not three, each with this number
abbrev pub part_counts : List (NameRow ℕ)
part_counts =
    row "DS" 2 ∷ row "DSS" 2 ∷ row "DAS" 2 ∷ row "DSA" 10 ∷ row "DNB" 2
    ∷ row "DGM" 1 ∷ row "DDA" 4 ∷ row "DORG" 1 ∷ row "DEND" 1 ∷ []

-- the greatest number of parts, by the name of the operation; any other name has three
abbrev pub most_parts : List ℕ → ℕ
most_parts name = unwrap_or (value_by_name part_counts name) 3

-- a DAC has a text
abbrev pub has_text : List ℕ → Bool
has_text name = bytes_eq name (codes "DAC")

-- the operands, by the name of the operation
abbrev pub operands_of : List ℕ → List ℕ → OperandParts
operands_of name text = if has_text name then dac_operands text else parts_and_remark (most_parts name) text

-- ten texts: the parts, followed by empty texts
abbrev pub ten_parts : List (List ℕ) → List (List ℕ)
ten_parts parts = parts ++ replicate (10 - length parts) []
