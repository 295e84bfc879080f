-- The characters of cards that a source may have.
-- Source: SPS manual, character set; that `]`, `}` and `|` are left out is this project's own.
use Rattle.std.specs.Prelude.{◌≡◌, ℕ, Bool, not, ◌&&◌, ◌||◌, ◌==◌, map, filter, is_some}
use Rattle.card_code.specs.Pairs.{pair_table, alpha_of}
use Rattle.sps_scan.specs.Statement.{source_characters, is_allowed}

-- a character of cards that the assembler does not take: `]`, `}` and `|`
abbrev pub is_unfit : ℕ → Bool
is_unfit b = (b == 93) || ((b == 125) || (b == 124))

-- the assembler allows a character exactly if the character has a pair of digits and is not one of these three
abbrev pub AllowedLaw : Type 0
AllowedLaw = (b : ℕ) → is_allowed b ≡ (is_some (alpha_of b) && not (is_unfit b))

-- the characters of the assembler are in the order of the table of pairs
abbrev pub OrderLaw : Type 0
OrderLaw = source_characters ≡ filter (λ b. not (is_unfit b)) (map (λ e. e.char) pair_table)
