-- Twelve good cells are read as their digits.
use Rattle.std.proofs.Common.{ℕ, ◌≡◌, ◌+◌, ◌%◌, ◌==◌, ◌<◌, ◌≤◌, Bool, true, false, not, List, length, Ok, Err, refl, arith}
use Rattle.std.specs.Prelude.{if◌then◌else◌, count_ones}
use Rattle.digit_core.specs.declared.Digit.{Digit}
use Rattle.digit_core.specs.declared.CellFault.TheVariants.{EvenParity, BadValue}
use Rattle.digit_core.specs.Cell.{read_cell, is_cell_value, digit_of_cell}
use Rattle.digit_core.specs.Packed.{six, HasCells}
use Rattle.digit_core.specs.Search.{is_bad_cell}
use Rattle.addr_indirect.specs.Reading.{read_at, read_up}
use Rattle.addr_indirect.specs.Twelve.{word_digit, digits_in, TwelveAreGood}
use Rattle.addr_indirect.proofs.Windows.{reads_in, up_more, up_none}

-- whatever the two tests of a cell say
tested : (even good : Bool) (d e : Digit) → (if even then Err EvenParity else if good then Ok d else Err BadValue) ≡ Ok e → e ≡ d
tested true good d e h = cc
tested false true d e h = cc
tested false false d e h = cc

-- a digit that is read is its cell's
pub read_is : (c : ℕ) (d : Digit) → read_cell c ≡ Ok d → d ≡ digit_of_cell c
unfolding read_cell
read_is c d h = tested (count_ones c % 2 == 0) (is_cell_value (c % 16)) (digit_of_cell c) d h

passed : (even good : Bool) (d : Digit) → (if even then true else not good) ≡ false → (if even then Err EvenParity else if good then Ok d else Err BadValue) ≡ Ok d
passed true good d h = cc
passed false true d h = refl
passed false false d h = cc

-- a good cell is read as its digit
good_reads : (c : ℕ) → is_bad_cell c ≡ false → read_cell c ≡ Ok (digit_of_cell c)
unfolding read_cell
good_reads c h = passed (count_ones c % 2 == 0) (is_cell_value (c % 16)) (digit_of_cell c) h

module _ (core : List ℕ) (ir low high : ℕ) (good : TwelveAreGood low high) (inside : ir + 12 ≤ length core) (lows : HasCells low core ir 10) (highs : HasCells high core (ir + 10) 2) where
  low_reads : (a j : ℕ) → j < 10 → a ≡ ir + j → read_at core a ≡ Ok (word_digit low j)
  low_reads a j below is = reads_in core (ir + j) a (six low j) (word_digit low j) is (omega arith) (lows j below) (good_reads _ (good.low_good j below))

  high_reads : (a j : ℕ) → j < 2 → a ≡ ir + 10 + j → read_at core a ≡ Ok (word_digit high j)
  high_reads a j below is = reads_in core (ir + 10 + j) a (six high j) (word_digit high j) is (omega arith) (highs j below) (good_reads _ (good.high_good j below))

  -- they are the digits that stand there
  pub twelve_read : read_up core ir 12 ≡ Ok (digits_in low high)
  twelve_read =
      let u12 = up_none core (ir + 12) in
      let u11 = up_more core (ir + 11) (ir + 12) 0 _ _ (omega arith) (high_reads (ir + 11) 1 (omega arith) (omega arith)) u12 in
      let u10 = up_more core (ir + 10) (ir + 11) 1 _ _ (omega arith) (high_reads (ir + 10) 0 (omega arith) (omega arith)) u11 in
      let u9 = up_more core (ir + 9) (ir + 10) 2 _ _ (omega arith) (low_reads (ir + 9) 9 (omega arith) refl) u10 in
      let u8 = up_more core (ir + 8) (ir + 9) 3 _ _ (omega arith) (low_reads (ir + 8) 8 (omega arith) refl) u9 in
      let u7 = up_more core (ir + 7) (ir + 8) 4 _ _ (omega arith) (low_reads (ir + 7) 7 (omega arith) refl) u8 in
      let u6 = up_more core (ir + 6) (ir + 7) 5 _ _ (omega arith) (low_reads (ir + 6) 6 (omega arith) refl) u7 in
      let u5 = up_more core (ir + 5) (ir + 6) 6 _ _ (omega arith) (low_reads (ir + 5) 5 (omega arith) refl) u6 in
      let u4 = up_more core (ir + 4) (ir + 5) 7 _ _ (omega arith) (low_reads (ir + 4) 4 (omega arith) refl) u5 in
      let u3 = up_more core (ir + 3) (ir + 4) 8 _ _ (omega arith) (low_reads (ir + 3) 3 (omega arith) refl) u4 in
      let u2 = up_more core (ir + 2) (ir + 3) 9 _ _ (omega arith) (low_reads (ir + 2) 2 (omega arith) refl) u3 in
      let u1 = up_more core (ir + 1) (ir + 2) 10 _ _ (omega arith) (low_reads (ir + 1) 1 (omega arith) refl) u2 in
      up_more core ir (ir + 1) 11 _ _ refl (low_reads ir 0 (omega arith) (omega arith)) u1
