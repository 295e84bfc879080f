-- Cells that are written from a word.
use Rattle.std.specs.Prelude.{ℕ, ◌+◌, ◌-◌, ◌&&◌, nat_le, nat_lt, List, length, map, slice_index, if◌then◌else◌}
use Rattle.std.specs.List.{range_with_len}
use Rattle.digit_core.specs.Packed.{six}

-- the cell at i after the lowest n cells of the word w are written from a upwards
unfoldable pub cell_with_word : List ℕ → ℕ → ℕ → ℕ → ℕ → ℕ
cell_with_word cells a n w i =
    if nat_le a i && nat_lt i (a + n) then six w (i - a) else slice_index cells i

-- all cells after this
unfoldable pub core_with_word : List ℕ → ℕ → ℕ → ℕ → List ℕ
core_with_word cells a n w = map (cell_with_word cells a n w) (range_with_len 0 (length cells))
