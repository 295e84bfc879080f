-- The numbers that words give lie in their ranges.
use Rattle.std.specs.Prelude.{ℕ, ◌≤◌}
use Rattle.command_line.specs.Reading.{fewest_made, last_source, most_made}

-- the possible numbers of statements of a made source, and the numbers that it may be made from
abbrev pub AreStatements : ℕ → Type 0
AreStatements n = (fewest_made ≤ n) × (n ≤ most_made)

abbrev pub IsNumber : ℕ → Type 0
IsNumber n = n ≤ last_source

abbrev pub AreNumbers : ℕ → ℕ → Type 0
AreNumbers statements number = AreStatements statements × IsNumber number

-- a number from the least to the most
abbrev pub IsNumberWithin : ℕ → ℕ → ℕ → Type 0
IsNumberWithin least most n = (least ≤ n) × (n ≤ most)
