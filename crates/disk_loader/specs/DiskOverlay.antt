-- The core after a program was loaded from disk: its needed hundreds, over the transfer card, over the earlier core.
use Rattle.std.specs.Prelude.{ℕ, nat_lt, List, length, map, slice_index_or, if◌then◌else◌}
use Rattle.std.specs.List.{range_with_len}
use Rattle.digit_core.specs.{cell, unflagged_digit}
use Rattle.sps_pass_two.specs.Image.{DigitRun}
use Rattle.deck_punch.specs.Cards.{transfer_digits}
use Rattle.disk_loader.specs.Hundreds.{hundred_of, is_needed, digit_on_disk}

-- the cell at an address
abbrev pub disk_cell : List DigitRun → ℕ → ℕ → ℕ → ℕ
disk_cell image start a before =
    if is_needed image (hundred_of a) then cell (digit_on_disk image a)
    else if nat_lt a 80 then cell (slice_index_or (transfer_digits start) a (unflagged_digit 0))
    else before

-- the core, cell by cell; its size is as before
unfoldable pub disk_overlay : List ℕ → List DigitRun → ℕ → List ℕ
disk_overlay core image start =
    map (λ a. disk_cell image start a (slice_index_or core a 0)) (range_with_len 0 (length core))
