-- The ten cells of a word: fields and records that end within them, and cells that hold no digit.
-- Source: CPU manual, data representation, for where a field and a record end; that it is looked at by words is this
-- project's own.
use Rattle.std.specs.Prelude.{ℕ, ◌≡◌, ◌≢◌, ◌+◌, ◌-◌, ◌<◌, ◌≤◌, ◌%◌, true, false}
use Rattle.digit_core.specs.Packed.{six}
use Rattle.digit_core.specs.Search.{has_mark, is_bad_cell, is_undecimal}
use Rattle.digit_core.specs.Cell.{has_flag}

-- the field whose units are the highest cell of w has n digits: its highest digit has a flag, and no digit between it and the
-- units has one
pub record EndsField (w n : ℕ) : Type 0 where
  pub two : 2 ≤ n
  pub ten : n ≤ 10
  pub flag : has_flag (six w (10 - n)) ≡ true
  pub between : (j : ℕ) → 10 - n < j → j < 9 → has_flag (six w j) ≡ false

-- the record whose first digit is the lowest cell of w has n digits: the last is a record mark, and no digit before it is
pub record EndsRecord (w n : ℕ) : Type 0 where
  pub some : 1 ≤ n
  pub ten : n ≤ 10
  pub mark : has_mark (six w (n - 1)) ≡ true
  pub before : (j : ℕ) → j + 1 < n → has_mark (six w j) ≡ false

-- the lowest cell of a word that is 1
pub record IsLowest (ones j : ℕ) : Type 0 where
  pub ten : j < 10
  pub one : six ones j ≡ 1
  pub before : (i : ℕ) → i < j → six ones i ≢ 1

-- the highest cell of a word that is 1
pub record IsHighest (ones j : ℕ) : Type 0 where
  pub ten : j < 10
  pub one : six ones j ≡ 1
  pub above : (i : ℕ) → j < i → i < 10 → six ones i ≢ 1

-- each of the word's cells holds a digit
abbrev pub AreGood : ℕ → Type 0
AreGood w = (j : ℕ) → j < 10 → is_bad_cell (six w j) ≡ false

-- each of the word's n lowest cells holds a digit
abbrev pub AreGoodUpTo : ℕ → ℕ → Type 0
AreGoodUpTo w n = (j : ℕ) → j < n → is_bad_cell (six w j) ≡ false

-- each of the cells that a mask names holds a digit
abbrev pub AreGoodAt : ℕ → ℕ → Type 0
AreGoodAt w mask = (j : ℕ) → j < 10 → six mask j ≡ 1 → is_bad_cell (six w j) ≡ false

-- each of the cells that a mask names holds a decimal digit
abbrev pub AreDecimalAt : ℕ → ℕ → Type 0
AreDecimalAt w mask = (j : ℕ) → j < 10 → six mask j ≡ 1 → is_undecimal (six w j) ≡ false

-- one of the word's cells is bad
pub record HasBad (w : ℕ) : Type 0 where
  pub place : ℕ
  pub ten : place < 10
  pub bad : is_bad_cell (six w place) ≡ true

-- one of the cells that a mask names is bad
pub record HasBadAt (w mask : ℕ) : Type 0 where
  pub place : ℕ
  pub ten : place < 10
  pub named : six mask place % 2 ≡ 1
  pub bad : is_bad_cell (six w place) ≡ true

-- one of the cells that a mask names holds no decimal digit
pub record HasUndecimalAt (w mask : ℕ) : Type 0 where
  pub place : ℕ
  pub ten : place < 10
  pub named : six mask place % 2 ≡ 1
  pub undecimal : is_undecimal (six w place) ≡ true
