-- Characters of single digits, as tables.
-- Source: CPU manual, card codes and typewriter codes, and 1622 manual, numerical writing; the characters of flags and
-- marks, and which bytes have no digit, are this project's own.
use Rattle.std.specs.Prelude.{ℕ, Bool, true, false, ◌==◌, List, [], ◌∷◌, ◌++◌, codes, if◌then◌else◌, Option, Some, None, unwrap_or}
use Rattle.digit_core.specs.declared.Digit.{Digit}
use Rattle.digit_core.specs.Cell.{same_digit}
use Rattle.digit_core.specs.declared.TheConstants.{RECORD_MARK, NUMERICAL_BLANK, GROUP_MARK}

-- a character and its digit
pub record DigitEntry : Type 0 where
  pub char : ℕ
  pub digit : Digit

-- characters side by side with the values of their digits, all flagged or none
abbrev pub digit_row : Bool → List ℕ → List ℕ → List DigitEntry
digit_row flag (c ∷ cs) (v ∷ vs) = record { char = c; digit = record { flag = flag; value = v } } ∷ digit_row flag cs vs
digit_row flag (c ∷ cs) [] = []
digit_row flag [] vs = []

-- the digit of a character, by the first entry that has it
unfoldable pub digit_in : List DigitEntry → ℕ → Option Digit
digit_in [] c = None
digit_in (e ∷ es) c = if e.char == c then Some e.digit else digit_in es c

-- the character of a digit, by the first entry that has it
unfoldable pub char_in : List DigitEntry → Digit → Option ℕ
char_in [] d = None
char_in (e ∷ es) d = if same_digit e.digit d then Some e.char else char_in es d

-- 0 to 9, the record mark, the numerical blank, the group mark
abbrev pub values : List ℕ
values = 0 ∷ 1 ∷ 2 ∷ 3 ∷ 4 ∷ 5 ∷ 6 ∷ 7 ∷ 8 ∷ 9 ∷ RECORD_MARK ∷ NUMERICAL_BLANK ∷ GROUP_MARK ∷ []

-- the object characters
abbrev pub object_table : List DigitEntry
object_table =
    digit_row false (codes "0123456789|@}") values
    ++ digit_row true (codes "]JKLMNOPQR!*\"") values

-- the characters of cards and keys: the object characters, and others
abbrev pub numerical_table : List DigitEntry
numerical_table =
    object_table
    ++ digit_row false (codes " ABCDEFGHI") (0 ∷ 1 ∷ 2 ∷ 3 ∷ 4 ∷ 5 ∷ 6 ∷ 7 ∷ 8 ∷ 9 ∷ [])
    ++ digit_row false (codes "+/STUVWXYZ") (0 ∷ 1 ∷ 2 ∷ 3 ∷ 4 ∷ 5 ∷ 6 ∷ 7 ∷ 8 ∷ 9 ∷ [])
    ++ digit_row true (codes "-") (0 ∷ [])

-- what is punched: an unflagged numerical blank is a blank column
abbrev pub punch_table : List DigitEntry
punch_table = digit_row false (codes " ") (NUMERICAL_BLANK ∷ []) ++ object_table

-- the digit of an object character, and of a character of cards and keys
abbrev pub object_digit : ℕ → Option Digit
object_digit c = digit_in object_table c

abbrev pub num_of : ℕ → Option Digit
num_of c = digit_in numerical_table c

-- the object character of a good digit, and the character that it is punched as
abbrev pub object_char : Digit → ℕ
object_char d = unwrap_or (char_in object_table d) 32

abbrev pub punch_num : Digit → ℕ
punch_num d = unwrap_or (char_in punch_table d) 32
