-- The listing, and the statement at an address.
-- Source: SPS manual, listing; the columns are this project's own.
use Rattle.std.specs.Prelude.{ℕ, ◌+◌, ◌-◌, nat_abs, Bool, true, false, ◌&&◌, ◌==◌, if◌then◌else◌, List, [], ◌∷◌, ◌++◌, length, take, map, replicate, Option, Some, None}
use Rattle.digit_core.specs.declared.Digit.{Digit}
use Rattle.sps_scan.specs.declared.statement.Shape.{Shape}
use Rattle.sps_scan.specs.declared.statement.Shape.TheVariants.{Comment, Blank}
use Rattle.line_words.specs.Blanks.{without_back}
use Rattle.sps_scan.specs.Statement.{statement_of}
use Rattle.sps_pass_one.specs.Layout.{lines_of_source}
use Rattle.sps_pass_two.specs.declared.assembled.Assembled.{Assembled}
use Rattle.sps_pass_two.specs.{PlacedText, text_of_placed}
use Rattle.outside_io.specs.Lines.{with_line_feed}
use Rattle.report_lines.specs.Numbers.{digits_to_width, with_blank}
use Rattle.sps_listing.specs.Texts.{object_text}

-- the placed statements of a program
abbrev pub placed_texts : Assembled → List PlacedText
placed_texts a = map text_of_placed a.placed

-- The listing.

-- a comment or a blank line has no address
abbrev pub has_no_address : Shape → Bool
has_no_address Comment = true
has_no_address Blank = true
has_no_address s = false

-- five blanks, or an address in at least five digits
abbrev pub listed_address : Shape → PlacedText → List ℕ
listed_address shape p = if has_no_address shape then replicate 5 32 else digits_to_width 5 (nat_abs p.address)

-- the first twelve digits, filled up with blanks
abbrev pub twelve_columns : List Digit → List ℕ
twelve_columns ds = object_text (take 12 ds) ++ replicate (12 - length ds) 32

-- the columns before a line: its number, its address and its first digits, each followed by a blank
abbrev pub listed_columns : ℕ → Shape → PlacedText → List ℕ
listed_columns number shape p =
    with_blank (digits_to_width 5 number) (with_blank (listed_address shape p) (with_blank (twelve_columns p.digits) []))

-- the columns, and then the line without the blanks at its end
abbrev pub listing_line : ℕ → List ℕ → PlacedText → List ℕ
listing_line number line p = listed_columns number (statement_of line).shape p ++ with_line_feed (without_back line)

-- the listed lines of placed statements; `number` is the number of the first
unfoldable pub listing_lines : ℕ → List (List ℕ) → List PlacedText → List ℕ
listing_lines number [] ps = []
listing_lines number (line ∷ lines) [] = []
listing_lines number (line ∷ lines) (p ∷ ps) = listing_line number line p ++ listing_lines (number + 1) lines ps

-- THE LISTING of a source: its lines with their placed statements
abbrev pub listing_text : List ℕ → List PlacedText → List ℕ
listing_text source placed = listing_lines 1 (lines_of_source source) placed

-- The statement at an address.

-- the statement is an instruction at the address
abbrev pub stands_at : ℕ → PlacedText → Bool
stands_at address p = p.instruction && (nat_abs p.address == address)

-- a later statement, if there is one; else this statement, if it is at the address
abbrev pub later_of : Option ℕ → Bool → ℕ → Option ℕ
later_of None here number = if here then Some number else None
later_of (Some n) here number = Some n

-- the last instruction at an address; `number` is the number of the first statement
unfoldable pub last_statement_at : ℕ → ℕ → List PlacedText → Option ℕ
last_statement_at number address [] = None
last_statement_at number address (p ∷ ps) =
    later_of (last_statement_at (number + 1) address ps) (stands_at address p) number

-- THE STATEMENT AT AN ADDRESS: the number of the last instruction there
abbrev pub statement_at : List PlacedText → ℕ → Option ℕ
statement_at placed address = last_statement_at 1 address placed
