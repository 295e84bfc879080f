-- The core after a program was loaded: its image over the standard tables, over the transfer card, over the earlier core.
use Rattle.std.specs.Prelude.{ℕ, ◌&&◌, nat_le, nat_lt, List, length, map, slice_index_or, if◌then◌else◌, Option, Some, None}
use Rattle.std.specs.List.{range_with_len}
use Rattle.digit_core.specs.declared.Digit.{Digit}
use Rattle.digit_core.specs.{cell, unflagged_digit, standard_digit}
use Rattle.sps_pass_two.specs.Image.{DigitRun, declared_digit}
use Rattle.deck_punch.specs.Cards.{transfer_digits}

-- the cell of a digit, or another cell if there is no digit
abbrev pub cell_or : Option Digit → ℕ → ℕ
cell_or (Some d) other = cell d
cell_or None other = other

-- the cell beneath the image at an address: the standard tables in 00100 to 00399, the transfer card in 00000 to 00079, and
-- elsewhere the earlier cell
abbrev pub cell_beneath : ℕ → ℕ → ℕ → ℕ
cell_beneath start a before =
    if nat_le 100 a && nat_lt a 400 then cell (standard_digit a)
    else if nat_lt a 80 then cell (slice_index_or (transfer_digits start) a (unflagged_digit 0))
    else before

-- the cell at an address: the image's digit if it declares one, and else the cell beneath
abbrev pub overlay_cell : List DigitRun → ℕ → ℕ → ℕ → ℕ
overlay_cell image start a before = cell_or (declared_digit image a) (cell_beneath start a before)

-- a core over which an image was loaded, cell by cell; its size is as before
unfoldable pub overlay : List ℕ → List DigitRun → ℕ → List ℕ
overlay core image start =
    map (λ a. overlay_cell image start a (slice_index_or core a 0)) (range_with_len 0 (length core))
