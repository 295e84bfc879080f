-- Cells that were taken from another core.
use Rattle.std.specs.Prelude.{ℕ, ◌≡◌, ◌<◌, ◌≤◌, ◌⊎◌, ◌&&◌, nat_le, nat_lt, List, length, map, slice_index, if◌then◌else◌}
use Rattle.std.specs.List.{range_with_len}

-- the cell at a after the cells from `from` on, below `to`, are taken from another core
unfoldable pub cell_of_mixture : List ℕ → List ℕ → ℕ → ℕ → ℕ → ℕ
cell_of_mixture cells other from to a =
    if nat_le from a && nat_lt a to then slice_index other a else slice_index cells a

-- all cells after this
unfoldable pub core_mixture : List ℕ → List ℕ → ℕ → ℕ → List ℕ
core_mixture cells other from to = map (cell_of_mixture cells other from to) (range_with_len 0 (length cells))

-- two cores have the same cells, except from `from` on, below `to`
abbrev pub AgreeOutside : List ℕ → List ℕ → ℕ → ℕ → Type 0
AgreeOutside cells other from to = (a : ℕ) → (a < from) ⊎ (to ≤ a) → slice_index cells a ≡ slice_index other a
