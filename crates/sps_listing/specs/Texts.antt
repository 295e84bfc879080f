-- The text of the image, and the line of a refusal.
use Rattle.std.specs.Prelude.{ℕ, zero, suc, ◌+◌, ◌/◌, Bool, ◌&&◌, ◌||◌, nat_le, if◌then◌else◌, Option, Some, None, List, [], ◌∷◌, ◌++◌, length, take, drop, map, codes, slice_index_or}
use Rattle.outside_io.specs.Lines.{texts_of, with_line_feed}
use Rattle.card_code.specs.Characters.{object_char}
use Rattle.digit_core.specs.declared.Digit.{Digit}
use Rattle.sps_ops.specs.declared.rule.Rule.{Rule}
use Rattle.sps_ops.specs.declared.rule.Rule.TheVariants.{BadLabel, DuplicateLabel, UnknownOperation}
use Rattle.sps_ops.specs.Rules.{rule_number, rule_name}
use Rattle.line_words.specs.Blanks.{trimmed}
use Rattle.sps_scan.specs.Statement.{StatementText, statement_of}
use Rattle.sps_expr.specs.Grammar.{is_nothing}
use Rattle.sps_pass_one.specs.Measure.{part_at}
use Rattle.sps_pass_two.specs.Image.{DigitRun}
use Rattle.report_lines.specs.Numbers.{digits_to_width, with_blank}

-- digits as object characters
abbrev pub object_text : List Digit → List ℕ
object_text ds = map object_char ds

-- The image.

-- an address of five digits, a blank, and digits
abbrev pub image_line : ℕ → List Digit → List ℕ
image_line from ds = with_blank (digits_to_width 5 from) (with_line_feed (object_text ds))

-- n lines of 50 digits; the last line may be shorter
unfoldable pub image_lines : ℕ → ℕ → List Digit → List ℕ
image_lines zero from ds = []
image_lines (suc n) from ds = image_line from (take 50 ds) ++ image_lines n (from + 50) (drop 50 ds)

-- digits from an address on, fifty on a line
abbrev pub digits_text : ℕ → List Digit → List ℕ
digits_text from ds = image_lines ((length ds + 49) / 50) from ds

-- a piece of the image
abbrev pub piece_text : DigitRun → List ℕ
piece_text p = digits_text p.from p.digits

-- THE TEXT OF THE IMAGE, piece by piece
unfoldable pub image_text : List DigitRun → List ℕ
image_text [] = []
image_text (p ∷ ps) = piece_text p ++ image_text ps

-- The refusal.

-- the line of a statement, by its number; empty if the source has no statement with that number
abbrev pub source_line_at : List ℕ → ℕ → List ℕ
source_line_at source zero = []
source_line_at source (suc n) = slice_index_or (texts_of source) n []

-- a refusal for the rule shows an operand part, if the part is given: 7 to 13, and from 20 on
abbrev pub shows_part : Rule → Bool
shows_part rule = (nat_le 7 (rule_number rule) && nat_le (rule_number rule) 13) || nat_le 20 (rule_number rule)

-- the part at a place without the blanks at its ends; empty if no place is given
abbrev pub part_text : StatementText → Option ℕ → List ℕ
part_text s None = []
part_text s (Some place) = trimmed (part_at s place)

-- the text that a refusal shows of its statement: the label, the operation or a part, without the blanks at its ends
abbrev pub shown_text : Rule → Option ℕ → StatementText → List ℕ
shown_text BadLabel part s = trimmed s.label
shown_text DuplicateLabel part s = trimmed s.label
shown_text UnknownOperation part s = trimmed s.operation
shown_text rule part s = if shows_part rule then part_text s part else []

-- a text with a blank in front; an empty text stays empty
abbrev pub behind_blank : List ℕ → List ℕ
behind_blank text = if is_nothing text then [] else 32 ∷ text

-- `REFUSED`, the statement, and the number and the name of the rule
abbrev pub refusal_head : ℕ → Rule → List ℕ
refusal_head statement rule =
    codes "REFUSED " ++ with_blank (digits_to_width 5 statement) (with_blank (digits_to_width 2 (rule_number rule)) (rule_name rule))

-- THE LINE OF A REFUSAL
unfoldable pub refusal_line : List ℕ → ℕ → Rule → Option ℕ → List ℕ
refusal_line source statement rule part =
    refusal_head statement rule ++ with_line_feed (behind_blank (shown_text rule part (statement_of (source_line_at source statement))))

-- the line of a refusal without any text of the statement
unfoldable pub short_refusal_line : ℕ → Rule → List ℕ
short_refusal_line statement rule = with_line_feed (refusal_head statement rule)
