-- Five cells in one word.
use Rattle.std.proofs.Common.{ℕ, zero, suc, ◌≡◌, ◌+◌, ◌*◌, ◌/◌, ◌%◌, ◌<◌, refl, arith, ◌∙◌}
use lib.Count.{ones}
use Rattle.digit_core.specs.Cell.{cell, unflagged_digit}
use Rattle.digit_core.specs.Packed.{six}
use Rattle.feature_ops.specs.Feature.{NUMBER_ZONE}
use Rattle.feature_ops.specs.Five.{AreOdd, AreZoned}

module _ (a b c d e : ℕ) (la : a < 64) (lb : b < 64) (lc : c < 64) (ld : d < 64) (le : e < 64) where
  abbrev pub five : ℕ
  five = a + b * 64 + c * 4096 + d * 262144 + e * 16777216

  pub first : five / 1 % 64 ≡ a
  first = omega arith

  pub second : five / 64 % 64 ≡ b
  second = omega arith

  pub third : five / 4096 % 64 ≡ c
  third = omega arith

  pub fourth : five / 262144 % 64 ≡ d
  fourth = omega arith

  pub fifth : five / 16777216 % 64 ≡ e
  fifth = omega arith

module _ (a b c d e : ℕ) (la : a < 64) (lb : b < 64) (lc : c < 64) (ld : d < 64) (le : e < 64) where
  -- no shifted cell grows out of a word
  abbrev pub shifted : ℕ
  shifted = a + b * 64 % 18446744073709551616 + c * 4096 % 18446744073709551616 + d * 262144 % 18446744073709551616 + e * 16777216 % 18446744073709551616

  shifted_is : shifted ≡ five a b c d e la lb lc ld le
  shifted_is = omega arith

module _ (a b c d e w : ℕ) (la : a < 64) (lb : b < 64) (lc : c < 64) (ld : d < 64) (le : e < 64)
    (ia : a ≡ six w 1) (ib : b ≡ six w 3) (ic : c ≡ six w 5) (id : d ≡ six w 7) (ie : e ≡ six w 9) where
  cells_are : (j : ℕ) → j < 5 → six (five a b c d e la lb lc ld le) j ≡ six w (2 * j + 1)
  cells_are zero l = first a b c d e la lb lc ld le ∙ ia
  cells_are (suc zero) l = second a b c d e la lb lc ld le ∙ ib
  cells_are (suc (suc zero)) l = third a b c d e la lb lc ld le ∙ ic
  cells_are (suc (suc (suc zero))) l = fourth a b c d e la lb lc ld le ∙ id
  cells_are (suc (suc (suc (suc zero)))) l = fifth a b c d e la lb lc ld le ∙ ie
  cells_are (suc (suc (suc (suc (suc j))))) l = absurd (omega arith)

  pub odd_are : AreOdd (shifted a b c d e la lb lc ld le) w
  odd_are j l = rw (shifted_is a b c d e la lb lc ld le) (cells_are j l)

-- five cells as the odd ones of ten, above zones of numbers
module _ (a b c d e : ℕ) (la : a < 64) (lb : b < 64) (lc : c < 64) (ld : d < 64) (le : e < 64) where
  abbrev pub ten : ℕ
  ten = 1970805990780935 + a * 64 + b * 262144 + c * 1073741824 + d * 4398046511104 + e * 18014398509481984

  abbrev pub ten_shifted : ℕ
  ten_shifted =
      1970805990780935 + a * 64 % 18446744073709551616 + b * 262144 % 18446744073709551616 + c * 1073741824 % 18446744073709551616
      + d * 4398046511104 % 18446744073709551616 + e * 18014398509481984 % 18446744073709551616

  ten_is : ten_shifted ≡ ten
  ten_is = omega arith

  zone_cells : (j : ℕ) → j < 5 → six ten (2 * j) ≡ 7
  zone_cells zero l = omega arith
  zone_cells (suc zero) l = omega arith
  zone_cells (suc (suc zero)) l = omega arith
  zone_cells (suc (suc (suc zero))) l = omega arith
  zone_cells (suc (suc (suc (suc zero)))) l = omega arith
  zone_cells (suc (suc (suc (suc (suc j))))) l = absurd (omega arith)

  digit_cells : (w : ℕ) → a ≡ six w 0 → b ≡ six w 1 → c ≡ six w 2 → d ≡ six w 3 → e ≡ six w 4 → (j : ℕ) → j < 5 → six ten (2 * j + 1) ≡ six w j
  digit_cells w ia ib ic id ie zero l = (let s : ten / 64 % 64 ≡ a = omega arith in s) ∙ ia
  digit_cells w ia ib ic id ie (suc zero) l = (let s : ten / 262144 % 64 ≡ b = omega arith in s) ∙ ib
  digit_cells w ia ib ic id ie (suc (suc zero)) l = (let s : ten / 1073741824 % 64 ≡ c = omega arith in s) ∙ ic
  digit_cells w ia ib ic id ie (suc (suc (suc zero))) l = (let s : ten / 4398046511104 % 64 ≡ d = omega arith in s) ∙ id
  digit_cells w ia ib ic id ie (suc (suc (suc (suc zero)))) l = (let s : ten / 18014398509481984 % 64 ≡ e = omega arith in s) ∙ ie
  digit_cells w ia ib ic id ie (suc (suc (suc (suc (suc j))))) l = absurd (omega arith)

  zone_cell : cell (unflagged_digit NUMBER_ZONE) ≡ 7
  unfolding cell ones
  zone_cell = refl

  pub ten_zoned : (w : ℕ) → a ≡ six w 0 → b ≡ six w 1 → c ≡ six w 2 → d ≡ six w 3 → e ≡ six w 4 → AreZoned ten_shifted w
  ten_zoned w ia ib ic id ie = record {
    zones = λ j l. rw (ten_is, zone_cell) (zone_cells j l);
    digits = λ j l. rw ten_is (digit_cells w ia ib ic id ie j l);
  }
