-- Numbers in decimal characters.
use Rattle.std.specs.Prelude.{ℕ, ◌&&◌, List, [], ◌∷◌, Option, Some, None, if◌then◌else◌}
use Rattle.std.specs.Char.{is_ascii_digit}
pub use Rattle.line_words.specs.Decimals.{with_digit, decimal_number}

-- the number that one or two digits stand for; None for any other text
abbrev pub short_number : List ℕ → Option ℕ
short_number [] = None
short_number (a ∷ []) = if is_ascii_digit a then Some (decimal_number (a ∷ [])) else None
short_number (a ∷ b ∷ []) = if is_ascii_digit a && is_ascii_digit b then Some (decimal_number (a ∷ b ∷ [])) else None
short_number (a ∷ b ∷ c ∷ ds) = None
