-- Digits five and ten at a time: the words that hold them, and the cells that some cycles leave.
use Rattle.std.specs.Prelude.{ℕ, ◌≡◌, ◌+◌, ◌-◌, ◌*◌, ◌/◌, ◌<◌, ◌≤◌, ◌⊎◌, true, false, List, slice_index, bit_xor, ◌^◌}
use Rattle.digit_core.specs.declared.Digit.{Digit}
use Rattle.digit_core.specs.Cell.{cell, unflagged_digit, has_flag, value_in}
use Rattle.digit_core.specs.Packed.{six, HasCells}
use Rattle.digit_core.specs.Search.{is_bad_cell}
use Rattle.feature_ops.specs.Feature.{NUMBER_ZONE}
use Rattle.digit_core.specs.Within.{AreGood}
use Rattle.feature_ops.specs.declared.fives.Turn.{Turn}

-- the lowest five cells of a word are the odd cells of another word
abbrev pub AreOdd : ℕ → ℕ → Type 0
AreOdd five w = (j : ℕ) → j < 5 → six five j ≡ six w (2 * j + 1)

-- the lowest five cells of a word are the odd cells of `ten`, whose even cells are zones of numbers
pub record AreZoned (ten five : ℕ) : Type 0 where
  pub zones : (j : ℕ) → j < 5 → six ten (2 * j) ≡ cell (unflagged_digit NUMBER_ZONE)
  pub digits : (j : ℕ) → j < 5 → six ten (2 * j + 1) ≡ six five j

-- a cell that holds an unflagged digit
abbrev pub IsPlain : ℕ → Type 0
IsPlain c = (is_bad_cell c ≡ false) × (has_flag c ≡ false)

-- a cell that holds a flagged digit, and a cell's value as a flagged digit
abbrev pub IsFlagged : ℕ → Type 0
IsFlagged c = (is_bad_cell c ≡ false) × (has_flag c ≡ true)

abbrev pub flagged_digit : ℕ → Digit
flagged_digit c = record { flag = true; value = value_in c }

-- the lowest five cells of a word hold digits
abbrev pub FiveAreGood : ℕ → Type 0
FiveAreGood five = (j : ℕ) → j < 5 → is_bad_cell (six five j) ≡ false

-- none of a word's lowest nine cells has a flag
abbrev pub AreUnflagged : ℕ → Type 0
AreUnflagged w = (j : ℕ) → j < 9 → has_flag (six w j) ≡ false

-- the highest n of the pairs, and of the positions, that are left share no cell
pub record ArePairsApart (pairs left n : ℕ) : Type 0 where
  pub p : n ≤ pairs
  pub q : n ≤ left
  pub apart : (left + 2 * n ≤ 2 * pairs) ⊎ (2 * pairs + n ≤ left)

-- the highest five positions left share no cell with the highest five pairs left, nor with the five pairs above these
pub record AreStillApart (pairs left : ℕ) : Type 0 where
  pub p : 5 ≤ pairs
  pub q : 5 ≤ left
  pub apart : (left + 10 ≤ 2 * pairs) ⊎ (2 * pairs + 15 ≤ left)

-- the next n cycles of a strip leave these n cells at Q
pub record AreStripped (core : List ℕ) (pairs left n cells : ℕ) : Type 0 where
  pub olds : (j : ℕ) → j < n → IsPlain (slice_index core (left - n + j))
  pub digits : (j : ℕ) → j < n → six cells j ≡ slice_index core (2 * (pairs - n + j) + 1)
  pub unflagged : (j : ℕ) → j < n → IsPlain (six cells j)

-- the next n cycles of a fill leave these 2n cells at P
pub record AreFilled (core : List ℕ) (pairs left n cells : ℕ) : Type 0 where
  pub olds : (j : ℕ) → j < n → IsPlain (slice_index core (left - n + j))
  pub digits : (j : ℕ) → j < n → six cells (2 * j + 1) ≡ slice_index core (left - n + j)
  pub zones : (j : ℕ) → j < n → six cells (2 * j) ≡ cell (unflagged_digit NUMBER_ZONE)

-- a strip's last n cycles leave these n cells at Q: the field ends with the last of n digits, the only flagged one
pub record AreLastStripped (core : List ℕ) (pairs left n cells : ℕ) : Type 0 where
  pub goes_on : (j : ℕ) → 0 < j → j < n → IsPlain (slice_index core (left - n + j))
  pub ends : IsFlagged (slice_index core (left - n))
  pub digits : (j : ℕ) → 0 < j → j < n → six cells j ≡ slice_index core (2 * (pairs - n + j) + 1)
  pub lowest : six cells 0 ≡ cell (flagged_digit (slice_index core (2 * (pairs - n) + 1)))
  pub unflagged : (j : ℕ) → j < n → IsPlain (slice_index core (2 * (pairs - n + j) + 1))

-- a fill's last n cycles leave these 2n cells at P, likewise
pub record AreLastFilled (core : List ℕ) (pairs left n cells : ℕ) : Type 0 where
  pub goes_on : (j : ℕ) → 0 < j → j < n → IsPlain (slice_index core (left - n + j))
  pub ends : IsFlagged (slice_index core (left - n))
  pub digits : (j : ℕ) → 0 < j → j < n → six cells (2 * j + 1) ≡ slice_index core (left - n + j)
  pub lowest : six cells 1 ≡ cell (unflagged_digit (value_in (slice_index core (left - n))))
  pub zones : (j : ℕ) → j < n → six cells (2 * j) ≡ cell (unflagged_digit NUMBER_ZONE)

-- a pass of a strip has the cells that the next cycles leave, or that the last cycles leave
pub record Strips (core : List ℕ) (pairs left : ℕ) (turn : Turn) : Type 0 where
  pub apart : ArePairsApart pairs left turn.count
  pub some : 1 ≤ turn.count
  pub most : turn.count ≤ 10
  pub on : turn.ends ≡ false → AreStripped core pairs left turn.count turn.cells
  pub end : turn.ends ≡ true → AreLastStripped core pairs left turn.count turn.cells

-- a pass of a fill, likewise
pub record Fills (core : List ℕ) (pairs left : ℕ) (turn : Turn) : Type 0 where
  pub apart : ArePairsApart pairs left turn.count
  pub some : 1 ≤ turn.count
  pub most : turn.count ≤ 5
  pub on : turn.ends ≡ false → AreFilled core pairs left turn.count turn.cells
  pub end : turn.ends ≡ true → AreLastFilled core pairs left turn.count turn.cells

-- the ten cells below a position are good, and the highest five share no cell with the next five pairs
pub record IsNextTen (core : List ℕ) (pairs left ten : ℕ) : Type 0 where
  pub apart : ArePairsApart pairs left 5
  pub room : 10 ≤ left
  pub cells : HasCells ten core (left - 10) 10
  pub good : AreGood ten
  pub word : ten < 2 ^ 60

-- among the lowest n cells of a word, the m-th from the top is the first flagged cell
pub record EndsAmong (n olds m : ℕ) : Type 0 where
  pub goes_on : (j : ℕ) → n - m < j → j < n → has_flag (six olds j) ≡ false
  pub flag : has_flag (six olds (n - m)) ≡ true

-- a pass of a strip takes the highest of the lowest n cells of a word of digits, down to the field's end if this is among the lowest n
-- cells of `olds`
pub record StripsOf (n olds digits : ℕ) (turn : Turn) : Type 0 where
  pub some : 1 ≤ turn.count
  pub most : turn.count ≤ n
  pub on : turn.ends ≡ false → ((j : ℕ) → j < n → has_flag (six olds j) ≡ false) × (turn.cells ≡ digits / 2 ^ (6 * (n - turn.count)))
  pub end : turn.ends ≡ true → EndsAmong n olds turn.count
  pub lowest : turn.ends ≡ true → six turn.cells 0 ≡ bit_xor (six digits (n - turn.count)) 48
  pub others : turn.ends ≡ true → (j : ℕ) → 0 < j → six turn.cells j ≡ six digits (n - turn.count + j)

-- a pass of a fill takes the highest of five good cells: down to the field's end if this is among them, else `whole` cells
pub record FillsOf (five whole : ℕ) (turn : Turn) : Type 0 where
  pub some : 1 ≤ turn.count
  pub most : turn.count ≤ 5
  pub good : FiveAreGood five
  pub on : turn.ends ≡ false → (turn.count ≡ whole)
      × (((j : ℕ) → j < 5 → has_flag (six five j) ≡ false) × AreZoned turn.cells (five / 2 ^ (6 * (5 - turn.count))))
  pub end : turn.ends ≡ true → EndsAmong 5 five turn.count
  pub lowest : turn.ends ≡ true → six turn.cells 1 ≡ bit_xor (six five (5 - turn.count)) 48
  pub others : turn.ends ≡ true → (j : ℕ) → 0 < j → j < turn.count → six turn.cells (2 * j + 1) ≡ six five (5 - turn.count + j)
  pub zones : turn.ends ≡ true → (j : ℕ) → j < turn.count → six turn.cells (2 * j) ≡ cell (unflagged_digit NUMBER_ZONE)
