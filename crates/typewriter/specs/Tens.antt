-- Ten cells at a time.
use Rattle.std.specs.Prelude.{ℕ, false, ◌≡◌, ◌<◌, ◌≤◌, ◌+◌, List, length, slice_index}
use Rattle.digit_core.specs.{six, has_mark, is_bad_cell}

-- the word of the ten cells from a upwards: each holds a digit, and none is a record mark
pub record ArePairs (core : List ℕ) (a w : ℕ) : Type 0 where
  pub room : a + 10 ≤ length core
  pub cells : (j : ℕ) → j < 10 → six w j ≡ slice_index core (a + j)
  pub good : (j : ℕ) → j < 10 → is_bad_cell (six w j) ≡ false
  pub unmarked : (j : ℕ) → j < 10 → has_mark (six w j) ≡ false
