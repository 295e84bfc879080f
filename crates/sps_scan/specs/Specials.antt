-- The special characters of the assembler: the characters that are not letters, digits or blanks.
-- Source: SPS manual, coding sheet; how a message tells them is this project's own.
use Rattle.std.specs.Prelude.{ℕ, Bool, not, ◌||◌, ◌==◌, List, [], ◌∷◌, filter, flat_map}
use Rattle.std.specs.Char.{is_ascii_digit, is_ascii_uppercase}
use Rattle.sps_scan.specs.Statement.{source_characters}

abbrev pub is_special : ℕ → Bool
is_special b = not (is_ascii_uppercase b || is_ascii_digit b || (b == 32))

-- the special characters, in the order of their pairs of digits on cards
abbrev pub special_characters : List ℕ
special_characters = filter is_special source_characters

-- the special characters as a message lists them: a blank before each
unfoldable pub special_text : List ℕ
special_text = flat_map (λ b. 32 ∷ b ∷ []) special_characters
