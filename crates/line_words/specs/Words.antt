-- Words and numbers of a line.
use Rattle.std.specs.Prelude.{ℕ, ◌==◌, ◌&&◌, nat_le, List, [], ◌∷◌, length, if◌then◌else◌, Option, Some, None, option_and_then}
use Rattle.std.specs.List.{list_all}
use Rattle.std.specs.Char.{is_ascii_digit}
use Rattle.line_words.specs.Decimals.{decimal_number}

-- a byte goes onto the front of the first word
abbrev pub onto_word : ℕ → List (List ℕ) → List (List ℕ)
onto_word b [] = (b ∷ []) ∷ []
onto_word b (word ∷ words) = (b ∷ word) ∷ words

-- the words of a text: each blank ends one
unfoldable pub words_of : List ℕ → List (List ℕ)
words_of [] = [] ∷ []
words_of (b ∷ bytes) = if b == 32 then [] ∷ words_of bytes else onto_word b (words_of bytes)

-- the words after the first word: none if no blank ended it
abbrev pub words_behind : Option (List ℕ) → List (List ℕ)
words_behind None = []
words_behind (Some text) = words_of text

-- the number that the digits of a word give, if all its bytes are digits
abbrev pub digits_number : List ℕ → Option ℕ
digits_number word = if list_all is_ascii_digit word then Some (decimal_number word) else None

-- the greatest number that a word can be
abbrev pub largest_number : ℕ
largest_number = 999999999999999

-- a number has 1 to 15 decimal digits
abbrev pub number : List ℕ → Option ℕ
number word = if nat_le 1 (length word) && nat_le (length word) 15 then digits_number word else None

-- the number itself, if it lies from least to most
abbrev pub within : ℕ → ℕ → ℕ → Option ℕ
within least most n = if nat_le least n && nat_le n most then Some n else None

-- a number from a least to a greatest one
abbrev pub number_in : ℕ → ℕ → List ℕ → Option ℕ
number_in least most word = option_and_then (within least most) (number word)
