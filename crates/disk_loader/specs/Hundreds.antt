-- The hundreds of core that a program needs from the disk, and their digits.
use Rattle.std.specs.Prelude.{ℕ, Bool, ◌*◌, ◌/◌, ◌&&◌, ◌||◌, nat_le, nat_lt, List, map, is_some, if◌then◌else◌, Option, Some, None}
use Rattle.std.specs.List.{list_any, range_with_len}
use Rattle.digit_core.specs.declared.Digit.{Digit}
use Rattle.digit_core.specs.{unflagged_digit, standard_digit}
use Rattle.card_code.specs.Characters.{object_char}
use Rattle.sps_pass_two.specs.Image.{DigitRun, declared_digit, digit_at}

-- the hundred of an address: hundred h is the addresses 100h to 100h + 99
abbrev pub hundred_of : ℕ → ℕ
hundred_of a = a / 100

-- the hundred belongs to the standard tables: it is 1, 2 or 3
abbrev pub holds_tables : ℕ → Bool
holds_tables h = nat_le 1 h && nat_le h 3

-- a digit is declared in the hundred
unfoldable pub holds_declared : List DigitRun → ℕ → Bool
holds_declared image h = list_any (λ a. is_some (declared_digit image a)) (range_with_len (100 * h) 100)

-- the program needs the hundred
abbrev pub is_needed : List DigitRun → ℕ → Bool
is_needed image h = holds_tables h || holds_declared image h

-- one digit, or else another
abbrev pub digit_or : Option Digit → Digit → Digit
digit_or (Some d) other = d
digit_or None other = other

-- the digit beneath a program at an address of a needed hundred: the digit of the standard tables, or else an unflagged zero
abbrev pub digit_beneath : ℕ → Digit
digit_beneath a = if nat_le 100 a && nat_lt a 400 then standard_digit a else unflagged_digit 0

-- the digit that is loaded to an address of a needed hundred
unfoldable pub digit_on_disk : List DigitRun → ℕ → Digit
digit_on_disk image a = digit_or (declared_digit image a) (digit_beneath a)

-- the digits that are loaded to n addresses from a on
abbrev pub loaded_digits : List DigitRun → ℕ → ℕ → List Digit
loaded_digits image a n = map (digit_on_disk image) (range_with_len a n)

-- the text of a needed hundred's sector: 100 object characters
abbrev pub hundred_text : List DigitRun → ℕ → List ℕ
hundred_text image h = map object_char (loaded_digits image (100 * h) 100)

-- a run has an address among the 100 from `from` on
unfoldable pub reaches : DigitRun → ℕ → Bool
reaches r from = list_any (λ a. is_some (digit_at r a)) (range_with_len from 100)

-- the character of a digit, or another character if there is no digit
abbrev pub char_over : Option Digit → ℕ → ℕ
char_over (Some d) other = object_char d
char_over None other = other

-- the text of a hundred's sector, if the program needs the hundred
abbrev pub sector_text : List DigitRun → ℕ → Option (List ℕ)
sector_text image h = if is_needed image h then Some (hundred_text image h) else None
