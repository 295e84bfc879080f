-- Flags of cells that are turned round, and what words of plain cells say.
use Rattle.std.proofs.Common.{ℕ, ◌≡◌, ◌+◌, ◌-◌, ◌*◌, ◌/◌, ◌%◌, ◌^◌, ◌<◌, ◌≤◌, true, false, not, inl, inr, refl, ap, ◌∙◌, arith}
use Rattle.std.proofs.lemmas.Bool.{cases_lt, false≢true}
use Rattle.std.specs.Prelude.{if◌then◌else◌, bit_xor}
use lib.Count.{ones}
use Rattle.digit_core.specs.Cell.{cell, has_flag, value_in}
use Rattle.digit_core.specs.Packed.{six}
use Rattle.digit_core.specs.Search.{is_bad_cell}
use Rattle.digit_core.specs.Within.{AreGood, EndsField}
use Rattle.digit_core.proofs.Below.{same_below}
use Rattle.digit_core.proofs.Sixes.{six_cat_low, six_cat_high, six_of_high}
use Rattle.digit_core.proofs.Masks.{six_past}
use Rattle.feature_ops.specs.Five.{FiveAreGood, AreUnflagged, EndsAmong}

-- a good cell with its flag turned round is the cell of the same value
abbrev turned : ℕ → ℕ
turned c = if is_bad_cell c then 0 else bit_xor c 48

abbrev other : ℕ → ℕ
other c = if is_bad_cell c then 0 else cell (record { flag = not (has_flag c); value = value_in c })

each_turned : (c : ℕ) → c < 64 → turned c ≡ other c
unfolding cell ones
each_turned c below = same_below turned other 64 c 0 refl below

pub flag_turns : (c : ℕ) → c < 64 → is_bad_cell c ≡ false → bit_xor c 48 ≡ cell (record { flag = not (has_flag c); value = value_in c })
flag_turns c below good = let e = each_turned c below in rw good at e

small_turned : (c : ℕ) → c < 64 → bit_xor c 48 < 64
small_turned c below = let e : bit_xor c 48 % 64 ≡ bit_xor c 48 = same_below (λ c. bit_xor c 48 % 64) (λ c. bit_xor c 48) 64 c 0 refl below in omega (arith, e)

six_of_small : (x : ℕ) → x < 64 → six x 0 ≡ x
six_of_small x h = omega arith

module _ (w : ℕ) (small : w < 2 ^ 60) where
  abbrev word : ℕ
  word = w / 64 * 64 % 18446744073709551616 + bit_xor (w % 64) 48

  parts : word ≡ w / 64 * 2 ^ (6 * 1) + bit_xor (w % 64) 48
  parts = omega arith

  low : bit_xor (w % 64) 48 < 2 ^ (6 * 1)
  low = small_turned (w % 64) (omega arith)

  first : w % 64 ≡ six w 0
  first = omega arith

  pub turned_lowest : six word 0 ≡ bit_xor (six w 0) 48
  turned_lowest = ap (λ x. six x 0) parts ∙ six_cat_low (w / 64) 1 (bit_xor (w % 64) 48) low 0 (omega arith) ∙ six_of_small (bit_xor (w % 64) 48) low ∙ ap (λ x. bit_xor x 48) first

  pub turned_others : (j : ℕ) → 0 < j → six word j ≡ six w j
  turned_others j some =
      let e : 1 + (j - 1) ≡ j = omega arith in
      let h = six_cat_high (w / 64) 1 (bit_xor (w % 64) 48) low (j - 1) in
      ap (λ x. six x j) parts ∙ (rw e at h) ∙ (rw e at (six_of_high w 1 (j - 1)))

-- cells of two words, tested together
module _ (olds five : ℕ) (olds_small : olds < 2 ^ 60) (five_small : five < 2 ^ 30) where
  abbrev both : ℕ
  both = olds / 1073741824 * 1073741824 % 18446744073709551616 + five

  both_is : both ≡ olds / 2 ^ 30 * 2 ^ (6 * 5) + five
  both_is = omega arith

  pub both_olds : AreGood both → FiveAreGood (olds / 2 ^ 30)
  both_olds good j l =
      let e : six both (5 + j) ≡ six (olds / 2 ^ 30) j = ap (λ x. six x (5 + j)) both_is ∙ six_cat_high (olds / 2 ^ 30) 5 five five_small j in
      rw e at (good (5 + j) (omega arith))

  pub both_five : AreGood both → FiveAreGood five
  both_five good j l =
      let e : six both j ≡ six five j = ap (λ x. six x j) both_is ∙ six_cat_low (olds / 2 ^ 30) 5 five five_small j l in
      rw e at (good j (omega arith))

-- five digits above five others
module _ (low high : ℕ) (low_small : low < 2 ^ 30) (high_small : high < 2 ^ 30) where
  abbrev pub joined : ℕ
  joined = low + high * 1073741824 % 18446744073709551616

  joined_is : joined ≡ high * 2 ^ (6 * 5) + low
  joined_is = omega arith

  pub joined_low : (j : ℕ) → j < 5 → six joined j ≡ six low j
  joined_low j l = ap (λ x. six x j) joined_is ∙ six_cat_low high 5 low low_small j l

  pub joined_high : (j : ℕ) → 5 ≤ j → six joined j ≡ six high (j - 5)
  joined_high j g =
      let e : 5 + (j - 5) ≡ j = omega arith in
      ap (λ x. six x j) joined_is ∙ (rw e at (six_cat_high high 5 low low_small (j - 5)))

  pub joined_unflagged : AreUnflagged low → AreUnflagged high → (j : ℕ) → j < 10 → has_flag (six joined j) ≡ false
  joined_unflagged a b j l =
      elim (cases_lt j 5) as (λ _. has_flag (six joined j) ≡ false) [
        | inl h ↦ rw (joined_low j h) (a j (omega arith))
        | inr g ↦ rw (joined_high j g) (b (j - 5) (omega arith))
      ]

-- a flag among the lowest n cells of a word with none above them ends a field that reaches down to one of them
pub ends_high : (n w m : ℕ) → n ≤ 10 → w < 2 ^ (6 * n) → EndsField w m → 11 ≤ m + n
ends_high n w m ten small e =
    elim (cases_lt (m + n) 11) as (λ _. 11 ≤ m + n) [
      | inl l ↦
          let z : six w (10 - m) ≡ 0 = six_past w n (10 - m) small (omega arith) in
          let f : has_flag 0 ≡ true = rw z at e.flag in
          absurd (false≢true f)
      | inr g ↦ g
    ]

pub ends_among : (n w m : ℕ) → n ≤ 10 → 11 ≤ m + n → has_flag (six w 9) ≡ false → EndsField w m → EndsAmong n w (m + n - 10)
ends_among n w m ten high top e =
    let most : m ≤ 10 = e.ten in
    let place : n - (m + n - 10) ≡ 10 - m = omega arith in
    record {
      goes_on = λ j above l.
          elim (cases_lt j 9) as (λ _. has_flag (six w j) ≡ false) [
            | inl h ↦ e.between j (omega arith) h
            | inr g ↦ let nine : j ≡ 9 = omega arith in rw nine top
          ];
      flag = rw place e.flag;
    }

-- the highest cell of a word that has only so many
pub no_flag_above : (w : ℕ) → w < 2 ^ 30 → has_flag (six w 9) ≡ false
no_flag_above w small = let z : six w 9 ≡ 0 = six_past w 5 9 small (omega arith) in rw z refl
