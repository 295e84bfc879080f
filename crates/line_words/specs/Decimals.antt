-- Numbers in decimal characters.
use Rattle.std.specs.Prelude.{ℕ, ◌+◌, ◌-◌, ◌*◌, List, fold}

-- a number with one more digit
abbrev pub with_digit : ℕ → ℕ → ℕ
with_digit n b = 10 * n + (b - 48)

-- the number that digits give
abbrev pub decimal_number : List ℕ → ℕ
decimal_number digits = fold with_digit 0 digits
