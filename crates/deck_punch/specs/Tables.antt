-- The tables and the other pieces that a deck loads.
use Rattle.std.specs.Prelude.{ℕ, ◌+◌, ◌-◌, List, [], ◌∷◌, ◌++◌, length, map, drop, unwrap_or, nat_lt, if◌then◌else◌}
use Rattle.std.specs.List.{range_with_len}
use Rattle.digit_core.specs.declared.Digit.{Digit}
use Rattle.digit_core.specs.Standard.{standard_digit}
use Rattle.sps_pass_two.specs.Image.{DigitRun, run_with, declared_digit}
use Rattle.deck_punch.specs.declared.tables.TheConstants.{TABLES_FROM, TABLES_END}

-- the digit of the tables at an address: the image's digit if it declares one, and else the standard tables' digit
abbrev pub table_digit : List DigitRun → ℕ → Digit
table_digit image a = unwrap_or (declared_digit image a) (standard_digit a)

-- the table piece, 00100 to 00399
unfoldable pub table_piece : List DigitRun → DigitRun
table_piece image = run_with TABLES_FROM (map (table_digit image) (range_with_len TABLES_FROM (TABLES_END - TABLES_FROM)))

-- how many addresses there are from a piece's first address to 00399
abbrev pub below_end : DigitRun → ℕ
below_end r = TABLES_END - r.from

-- the digits of a piece from 00400 on, if it has any
abbrev pub behind_end : DigitRun → DigitRun
behind_end r = run_with (r.from + below_end r) (drop (below_end r) r.digits)

abbrev pub left_of : DigitRun → List DigitRun
left_of r = if nat_lt (below_end r) (length r.digits) then behind_end r ∷ [] else []

-- the other pieces: the image's runs from 00400 on
unfoldable pub other_pieces : List DigitRun → List DigitRun
other_pieces [] = []
other_pieces (r ∷ rs) = left_of r ++ other_pieces rs

-- the pieces that a deck loads
abbrev pub with_tables : List DigitRun → List DigitRun
with_tables image = table_piece image ∷ other_pieces image
