-- The tables of cells and of characters, entry by entry.
use Rattle.std.proofs.Common.{◌≡◌, ℕ, ◌<◌, List, get_or, refl, sym, ◌∙◌, ap, arith, MatchOption}
use Rattle.std.proofs.lemmas.Bool.Decides.{nat_tests}
use Rattle.std.specs.Prelude.{Bool, true, false, nat_le, nat_lt, if◌then◌else◌, Option, Some, None, option_map, Result, Ok, Err}
use lib.Count.{ones}
use Rattle.digit_core.specs.declared.Digit.{Digit}
use Rattle.digit_core.specs.declared.CellFault.{CellFault}
use Rattle.digit_core.specs.Cell.{cell, read_cell}
use Rattle.digit_core.specs.Packed.{six}
use Rattle.digit_core.specs.Search.{is_bad_cell}
use Rattle.digit_core.proofs.Below.{same_below}
use Rattle.traces.specs.Trace.{map_answer}
use Rattle.card_code.specs.Characters.{num_of, object_digit, object_char, punch_num, digit_in, char_in}
use Rattle.digit_core.specs.Within.{HasBad}
use Rattle.card_code.specs.Words.{AreCells, HasNoDigit, AreSixes, AreEntries, HasNoEntry, AreChars, AreCharEntries, HasNoChar, PutsChars, PutsEntries}
use Rattle.card_code.specs.declared.tables.TheConstants.{OBJECT_CELLS, OBJECT_CHARS, NUM_CELLS, PUNCH_CHARS}

-- what a table of cells has for a character's digit
abbrev pub entry_of : Option Digit → ℕ
entry_of (Some d) = cell d
entry_of None = 0

-- a table has the cells of these digits
pub record HasCells (digit_of : ℕ → Option Digit) (table : List ℕ) : Type 0 where
  pub entries : (c : ℕ) → c < 256 → get_or table c 0 ≡ entry_of (digit_of c)
  pub nones : (c : ℕ) → c < 256 → (if is_bad_cell (get_or table c 0) then digit_of c else None) ≡ None

-- no good cell is 0
zero_bad : is_bad_cell 0 ≡ true
unfolding ones
zero_bad = refl

-- by it a word's cells are those of the digits
some_cell : (o : Option Digit) (x : ℕ) → entry_of o ≡ x → is_bad_cell x ≡ false → option_map cell o ≡ Some x
some_cell (Some d) x e good = ap Some e
some_cell None x e good = let bad : is_bad_cell x ≡ true = ap is_bad_cell (sym e) ∙ zero_bad in cc

module _ (digit_of : ℕ → Option Digit) (table : List ℕ) (has : HasCells digit_of table) (text : List ℕ) (bytes : (k : ℕ) → get_or text k 0 < 256) where
  cells_by : (w : ℕ) → AreEntries table text w → AreCells digit_of text w
  cells_by w are = record { cells = λ j below. some_cell (digit_of (get_or text j 0)) (six w j) (sym (has.entries (get_or text j 0) (bytes j)) ∙ are.cells j below) (are.good j below); good = are.good }

  bad_by : HasNoEntry table text → HasNoDigit digit_of text
  bad_by lacks =
      let none = has.nones (get_or text lacks.at 0) (bytes lacks.at) in
      record { at = lacks.at; within = lacks.within; bad = rw lacks.none at none }

  pub cells_by_table : (r : Option ℕ) → MatchOption r (HasNoEntry table text) (AreEntries table text) → MatchOption r (HasNoDigit digit_of text) (AreCells digit_of text)
  cells_by_table None lacks = bad_by lacks
  cells_by_table (Some w) are = cells_by w are

-- what a table of characters has for a cell
abbrev pub char_of : (Digit → ℕ) → Result Digit CellFault → ℕ
char_of f (Ok d) = f d
char_of f (Err e) = 128

-- a table has these characters of the cells
pub record HasChars (f : Digit → ℕ) (table : List ℕ) : Type 0 where
  pub entries : (c : ℕ) → c < 64 → get_or table c 0 ≡ char_of f (read_cell c)
  pub bads : (c : ℕ) → c < 64 → (if nat_le 128 (get_or table c 0) then is_bad_cell c else true) ≡ true

ok_char : (f : Digit → ℕ) (r : Result Digit CellFault) (x : ℕ) → x ≡ char_of f r → x < 128 → map_answer f r ≡ Ok x
ok_char f (Ok d) x e below = ap Ok (sym e)
ok_char f (Err e) x e2 below = absurd (omega arith)

module _ (f : Digit → ℕ) (table : List ℕ) (has : HasChars f table) (w : ℕ) where
  small : (j : ℕ) → six w j < 64
  small j = omega arith

  chars_by : (chars : List ℕ) → AreCharEntries table w chars → AreChars f w chars
  chars_by chars are = record {
    ten = are.ten;
    chars_are = λ j below.
        let e = are.chars_are j below in
        let s = are.are j below in
        ok_char f (read_cell (six w j)) (get_or chars j 0) (e ∙ has.entries (six w j) (small j)) (omega arith);
  }

  bad_cell_by : HasNoChar table w → HasBad w
  bad_cell_by lacks =
      let test : nat_le 128 (get_or table (six w lacks.at) 0) ≡ true = let h = lacks.none in grind (arith, nat_tests) in
      let bad = has.bads (six w lacks.at) (small lacks.at) in
      record { place = lacks.at; ten = lacks.within; bad = rw test at bad }

  pub puts_by_table : (text : List ℕ) (all : Bool) → PutsEntries table w text all → PutsChars f w text all
  puts_by_table text false lacks = bad_cell_by lacks
  puts_by_table text true are = chars_by text are

-- the tables of object characters
pub object_cells : HasCells object_digit OBJECT_CELLS
unfolding digit_in cell ones
object_cells = record {
  entries = λ c below. same_below (λ c. get_or OBJECT_CELLS c 0) (λ c. entry_of (object_digit c)) 256 c 0 refl below;
  nones = λ c below. same_below (λ c. if is_bad_cell (get_or OBJECT_CELLS c 0) then object_digit c else None) (λ c. None) 256 c None refl below;
}

pub object_chars : HasChars object_char OBJECT_CHARS
unfolding char_in read_cell ones
object_chars = record {
  entries = λ c below. same_below (λ c. get_or OBJECT_CHARS c 0) (λ c. char_of object_char (read_cell c)) 64 c 0 refl below;
  bads = λ c below. same_below (λ c. if nat_le 128 (get_or OBJECT_CHARS c 0) then is_bad_cell c else true) (λ c. true) 64 c true refl below;
}

-- those of characters that are read numerically, and that are punched
pub num_cells : HasCells num_of NUM_CELLS
unfolding digit_in cell ones
num_cells = record {
  entries = λ c below. same_below (λ c. get_or NUM_CELLS c 0) (λ c. entry_of (num_of c)) 256 c 0 refl below;
  nones = λ c below. same_below (λ c. if is_bad_cell (get_or NUM_CELLS c 0) then num_of c else None) (λ c. None) 256 c None refl below;
}

pub punch_chars : HasChars punch_num PUNCH_CHARS
unfolding char_in read_cell ones
punch_chars = record {
  entries = λ c below. same_below (λ c. get_or PUNCH_CHARS c 0) (λ c. char_of punch_num (read_cell c)) 64 c 0 refl below;
  bads = λ c below. same_below (λ c. if nat_le 128 (get_or PUNCH_CHARS c 0) then is_bad_cell c else true) (λ c. true) 64 c true refl below;
}

-- each entry is a cell, good or not
abbrev is_six : List ℕ → ℕ → Bool
is_six table c = nat_lt (get_or table c 0) 64

six_is : (table : List ℕ) (c : ℕ) → is_six table c ≡ true → get_or table c 0 < 64
six_is table c test = grind (arith, nat_tests)

pub object_sixes : AreSixes OBJECT_CELLS
object_sixes c below = six_is OBJECT_CELLS c (same_below (is_six OBJECT_CELLS) (λ c. true) 256 c true refl below)

pub num_sixes : AreSixes NUM_CELLS
num_sixes c below = six_is NUM_CELLS c (same_below (is_six NUM_CELLS) (λ c. true) 256 c true refl below)
