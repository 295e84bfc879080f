-- Characters, and the word of their cells.
use Rattle.std.specs.Prelude.{ℕ, ◌+◌, ◌*◌, ◌≡◌, ◌<◌, ◌≤◌, Bool, true, false, List, length, slice_index, Option, Some, None, option_map, Ok, nat_lt, ◌==◌, ◌&&◌, ◌/◌, ◌%◌, if◌then◌else◌}
use Rattle.digit_core.specs.declared.Digit.{Digit}
use Rattle.digit_core.specs.{cell, unflagged_digit, read_cell, six, AreGoodUpTo}
use Rattle.digit_core.specs.Cell.{digit_of_cell, low_bits}
use Rattle.digit_core.specs.Search.{is_bad_cell}
use Rattle.digit_core.specs.Within.{HasBad}
use Rattle.traces.specs.Trace.{map_answer}
use Rattle.card_code.specs.Pairs.{Pair, alpha_of}

-- the digit of a character by a table of cells, which has 0 for a bad character
abbrev pub digit_of_entry : ℕ → Option Digit
digit_of_entry c = if c == 0 then None else Some (digit_of_cell c)

abbrev pub digit_entry : List ℕ → ℕ → Option Digit
digit_entry table c = digit_of_entry (slice_index table c)

-- the character of a digit by a table of the characters of cells; of the two cells that differ in the bit C alone, one has no character
abbrev pub char_entry : List ℕ → Digit → ℕ
char_entry table d =
    if nat_lt (slice_index table (low_bits d)) 128 then slice_index table (low_bits d) else slice_index table (low_bits d + 32) % 128

-- the two digits of a character by a table of the cells of pairs
abbrev pub pair_of_entry : ℕ → Option (ℕ × ℕ)
pair_of_entry x = if nat_lt x 4096 then Some (x % 16, x / 64 % 16) else None

abbrev pub pair_entry : List ℕ → ℕ → Option (ℕ × ℕ)
pair_entry table c = pair_of_entry (slice_index table c)

-- the character of a zone and a number by a table of 16 characters for each zone
abbrev pub char_of_entry : ℕ → Option ℕ
char_of_entry c = if nat_lt c 128 then Some c else None

abbrev pub pair_char_entry : List ℕ → ℕ → ℕ → Option ℕ
pair_char_entry table zone number =
    if nat_lt zone 8 && nat_lt number 16 then char_of_entry (slice_index table (16 * zone + number)) else None

-- each character has a digit, and the word has its good cell
pub record AreCells (digit_of : ℕ → Option Digit) (text : List ℕ) (w : ℕ) : Type 0 where
  pub cells : (j : ℕ) → j < length text → option_map cell (digit_of (slice_index text j)) ≡ Some (six w j)
  pub good : AreGoodUpTo w (length text)

-- one of the characters has no digit
pub record HasNoDigit (digit_of : ℕ → Option Digit) (text : List ℕ) : Type 0 where
  pub at : ℕ
  pub within : at < length text
  pub bad : digit_of (slice_index text at) ≡ None

-- each entry of a table is a cell, good or not
abbrev pub AreSixes : List ℕ → Type 0
AreSixes table = (c : ℕ) → c < 256 → slice_index table c < 64

-- the cells by a table, which has no good cell for a bad character
pub record AreEntries (table text : List ℕ) (w : ℕ) : Type 0 where
  pub cells : (j : ℕ) → j < length text → slice_index table (slice_index text j) ≡ six w j
  pub good : AreGoodUpTo w (length text)

pub record HasNoEntry (table text : List ℕ) : Type 0 where
  pub at : ℕ
  pub within : at < length text
  pub none : is_bad_cell (slice_index table (slice_index text at)) ≡ true

-- each of the word's ten cells is good, and its digit has this character
pub record AreChars (char_of : Digit → ℕ) (w : ℕ) (chars : List ℕ) : Type 0 where
  pub ten : length chars ≡ 10
  pub chars_are : (j : ℕ) → j < 10 → map_answer char_of (read_cell (six w j)) ≡ Ok (slice_index chars j)

-- the characters by a table, which has none for a bad cell
pub record AreCharEntries (table : List ℕ) (w : ℕ) (chars : List ℕ) : Type 0 where
  pub ten : length chars ≡ 10
  pub chars_are : (j : ℕ) → j < 10 → slice_index chars j ≡ slice_index table (six w j)
  pub are : (j : ℕ) → j < 10 → slice_index table (six w j) < 128

pub record HasNoChar (table : List ℕ) (w : ℕ) : Type 0 where
  pub at : ℕ
  pub within : at < 10
  pub none : 128 ≤ slice_index table (six w at)

-- a text has the characters of a word's cells, or one of the cells is bad
abbrev pub PutsChars : (Digit → ℕ) → ℕ → List ℕ → Bool → Type 0
PutsChars char_of w text true = AreChars char_of w text
PutsChars char_of w text false = HasBad w

-- a text has a table's characters of a word's cells, or one of the cells has no character
abbrev pub PutsEntries : List ℕ → ℕ → List ℕ → Bool → Type 0
PutsEntries table w text true = AreCharEntries table w text
PutsEntries table w text false = HasNoChar table w

-- the two good cells of a pair, the zone's first
abbrev pub pair_cells : Pair → ℕ × ℕ
pair_cells p = (cell (unflagged_digit p.zone), cell (unflagged_digit p.number))

-- each character has a pair, and the word has its good cells
pub record ArePairCells (text : List ℕ) (w : ℕ) : Type 0 where
  pub cells : (j : ℕ) → j < length text
      → option_map pair_cells (alpha_of (slice_index text j)) ≡ Some (six w (2 * j), six w (2 * j + 1))
  pub good : AreGoodUpTo w (2 * length text)

-- one of the characters has no pair
pub record HasNoPair (text : List ℕ) : Type 0 where
  pub at : ℕ
  pub within : at < length text
  pub bad : alpha_of (slice_index text at) ≡ None

-- the pairs' cells by a table, which has none for a character without a pair
pub record ArePairEntries (table text : List ℕ) (w : ℕ) : Type 0 where
  pub cells : (j : ℕ) → j < length text
      → slice_index table (slice_index text j) ≡ six w (2 * j) + 64 * six w (2 * j + 1)

pub record HasNoPairEntry (table text : List ℕ) : Type 0 where
  pub at : ℕ
  pub within : at < length text
  pub none : 4096 ≤ slice_index table (slice_index text at)
