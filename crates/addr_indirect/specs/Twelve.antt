-- The twelve cells of an instruction, ten in one word and the lowest two of another.
use Rattle.std.specs.Prelude.{ℕ, List, [], ◌∷◌}
use Rattle.digit_core.specs.declared.Digit.{Digit}
use Rattle.digit_core.specs.Cell.{digit_of_cell}
use Rattle.digit_core.specs.Packed.{six}
use Rattle.digit_core.specs.Within.{AreGood, AreGoodUpTo}

-- the digit of a word's cell number j
abbrev pub word_digit : ℕ → ℕ → Digit
word_digit w j = digit_of_cell (six w j)

-- the digits of the twelve cells
abbrev pub digits_in : ℕ → ℕ → List Digit
digits_in low high =
    word_digit low 0 ∷ word_digit low 1 ∷ word_digit low 2 ∷ word_digit low 3 ∷ word_digit low 4 ∷ word_digit low 5
    ∷ word_digit low 6 ∷ word_digit low 7 ∷ word_digit low 8 ∷ word_digit low 9 ∷ word_digit high 0 ∷ word_digit high 1 ∷ []

-- each of the twelve cells holds a digit
pub record TwelveAreGood (low high : ℕ) : Type 0 where
  pub low_good : AreGood low
  pub high_good : AreGoodUpTo high 2
