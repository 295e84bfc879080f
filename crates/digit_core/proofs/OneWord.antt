-- A word among cells, replaced.
use Rattle.std.specs.Prelude.{ℕ, ◌/◌, ◌%◌, ◌==◌, List, length, map, slice_index, if◌then◌else◌}
use Rattle.std.specs.List.{range_with_len}
use Rattle.digit_core.specs.Packed.{six}

-- the cell at a once word i has been replaced
unfoldable pub word_cell : List ℕ → ℕ → ℕ → ℕ → ℕ
word_cell cells i w a = if a / 10 == i then six w (a % 10) else slice_index cells a

-- the cells then
unfoldable pub with_word : List ℕ → ℕ → ℕ → List ℕ
with_word cells i w = map (word_cell cells i w) (range_with_len 0 (length cells))
