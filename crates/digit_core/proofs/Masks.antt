-- Masks that name cells of a word.
use Rattle.std.proofs.Common.{ℕ, ◌≡◌, ◌+◌, ◌-◌, ◌*◌, ◌%◌, ◌^◌, ◌<◌, ◌≤◌, ◌∙◌, ap, arith}
use Rattle.std.proofs.Math.Pow.{mod-mod-pow}
use Rattle.std.proofs.lemmas.Nat.{mod_below, pow_pos, shl_whole}
use Rattle.digit_core.specs.Packed.{six}
use Rattle.digit_core.proofs.Sixes.{six_of_low, six_cat_low, six_cat_high}
use Rattle.digit_core.proofs.Planes.{lowest, six_lowest}

six_of_none : (i : ℕ) → six 0 i ≡ 0
six_of_none i = omega arith

-- a cell past all that a number has
pub six_past : (x t i : ℕ) → x < 2 ^ (6 * t) → t ≤ i → six x i ≡ 0
six_past x t i below past =
    let e : t + (i - t) ≡ i = omega arith in
    let z : 0 * 2 ^ (6 * t) + x ≡ x = omega arith in
    let h = six_cat_high 0 t x below (i - t) in
    (rw (z, e) at h) ∙ six_of_none (i - t)

-- the cells from number j on
module _ (j : ℕ) where
  abbrev pub from : ℕ
  from = lowest * 2 ^ (6 * j) % 2 ^ 64 % 2 ^ 60

  whole : (i : ℕ) → i < 10 → six from i ≡ six (lowest * 2 ^ (6 * j) + 0) i
  whole i h =
      let m : from ≡ lowest * 2 ^ (6 * j) % 2 ^ 60 = mod-mod-pow (lowest * 2 ^ (6 * j)) 4 60 in
      let z : lowest * 2 ^ (6 * j) ≡ lowest * 2 ^ (6 * j) + 0 = omega arith in
      ap (λ x. six x i) m ∙ six_of_low (lowest * 2 ^ (6 * j)) 10 i h ∙ ap (λ x. six x i) z

  pub from_named : (i : ℕ) → j ≤ i → i < 10 → six from i ≡ 1
  from_named i low high =
      let e : j + (i - j) ≡ i = omega arith in
      let h = six_cat_high lowest j 0 (pow_pos (6 * j)) (i - j) in
      whole i high ∙ (rw e at h) ∙ six_lowest (i - j) (omega arith)

  pub from_others : (i : ℕ) → j ≤ 10 → i < j → six from i ≡ 0
  from_others i few below = whole i (omega arith) ∙ six_cat_low lowest j 0 (pow_pos (6 * j)) i below ∙ six_of_none i

-- the number of which all bits below those of cell number j are 1, less one
pub whole_power : (j : ℕ) → j ≤ 10 → 1 * 2 ^ (6 * j) % 2 ^ 64 ≡ 2 ^ (6 * j)
whole_power j few =
    let u : 1 * 2 ^ (6 * j) ≡ 2 ^ (6 * j) = omega arith in
    shl_whole 1 1 (6 * j) 64 (omega arith) (omega arith) ∙ u

-- the cells below number j
module _ (j : ℕ) (few : j ≤ 10) where
  abbrev pub below : ℕ
  below = lowest % (1 * 2 ^ (6 * j) % 2 ^ 64)

  below_is : below ≡ lowest % 2 ^ (6 * j)
  below_is = ap (λ x. lowest % x) (whole_power j few)

  pub below_named : (i : ℕ) → i < j → six below i ≡ 1
  below_named i h = ap (λ x. six x i) below_is ∙ six_of_low lowest j i h ∙ six_lowest i (omega arith)

  pub below_others : (i : ℕ) → j ≤ i → six below i ≡ 0
  below_others i past = ap (λ x. six x i) below_is ∙ six_past (lowest % 2 ^ (6 * j)) j i (mod_below lowest (2 ^ (6 * j)) (pow_pos (6 * j))) past
