-- Digits in a word of ten cells, whose highest cell is the units.
use Rattle.std.specs.Prelude.{ℕ, Bool, ◌≡◌, ◌<◌, ◌+◌, ◌-◌, ◌*◌, ◌/◌, ◌%◌, ◌^◌, map}
use Rattle.std.specs.List.{range_with_len}
use Rattle.digit_core.specs.{six, value_in, cell, unflagged_digit}
use Rattle.table_arith.specs.Values.{value, decimal_digit, number_cell}

-- the value of the digit k places above the units
abbrev pub digit_within : ℕ → ℕ → ℕ
digit_within w k = value_in (six w (9 - k))

-- the number of n digits
unfoldable pub number_within : ℕ → ℕ → ℕ
number_within w n = value (map (digit_within w) (range_with_len 0 n))

-- the number of a pair of digits, the pairs counted from the lowest cell on
abbrev pub pair_within : ℕ → ℕ → ℕ
pair_within w i = 10 * value_in (six w (2 * i)) + value_in (six w (2 * i + 1))

-- a number of twelve bits below others
abbrev pub under : ℕ → ℕ → ℕ
under number above = number + 4096 * above

-- the numbers of the upper three pairs, and of all five pairs, twelve bits each
abbrev pub upper_pairs : ℕ → ℕ
upper_pairs w = under (pair_within w 2) (under (pair_within w 3) (pair_within w 4))

abbrev pub pairs_within : ℕ → ℕ
pairs_within w = under (pair_within w 0) (under (pair_within w 1) (upper_pairs w))

-- number i of five numbers of twelve bits
abbrev pub twelve_bits : ℕ → ℕ → ℕ
twelve_bits pairs i = pairs / 4096 ^ i % 4096

-- the number that five pairs make
abbrev pub number_of_pairs : ℕ → ℕ
number_of_pairs pairs =
    (((twelve_bits pairs 0 * 100 + twelve_bits pairs 1) * 100 + twelve_bits pairs 2) * 100 + twelve_bits pairs 3) * 100
    + twelve_bits pairs 4

-- a word's cells have a number's ten digits without flags, the units in the highest
abbrev pub HasDigits : ℕ → ℕ → Type 0
HasDigits w magnitude = (k : ℕ) → k < 10 → six w (9 - k) ≡ cell (unflagged_digit (decimal_digit magnitude k))

-- the lowest n cells of a word are the cells of a number in a field of n digits
abbrev pub HasField : ℕ → ℕ → ℕ → Bool → Type 0
HasField w n magnitude minus = (k : ℕ) → k < n → six w (n - 1 - k) ≡ number_cell minus n magnitude k
