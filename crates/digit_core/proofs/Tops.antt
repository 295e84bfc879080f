-- The highest one of a word of zeros and ones, by how many zeros lead it.
use Rattle.std.proofs.Common.{ℕ, ◌≡◌, ◌+◌, ◌*◌, ◌/◌, ◌%◌, ◌^◌, ◌<◌, ◌≤◌, suc, inl, inr, arith, Bool, true, false, bit_and, ◌⊎◌}
use Rattle.std.proofs.Math.Pow.{pow_mono}
use Rattle.std.proofs.lemmas.Nat.{shr_below, shr_split, mod_below, pow_pos}
use Rattle.std.proofs.lemmas.Bool.{cases_lt}
use Rattle.digit_core.specs.Packed.{six}
use Rattle.digit_core.specs.Search.{one_if}
use Rattle.digit_core.specs.Within.{IsHighest}
use Rattle.digit_core.proofs.Planes.{masked_one, masked_none}

-- a word is below 2^60, and its highest bit is number k
module _ (x k : ℕ) (word : x < 2 ^ 60) (low : 2 ^ k ≤ x) (high : x < 2 ^ suc k) (bits : (j : ℕ) → j < 10 → six x j ≤ 1) where
  below_sixty : k < 60
  below_sixty =
      elim (cases_lt k 60) [
        | inl l ↦ l
        | inr g ↦ absurd (let m : 2 ^ 60 ≤ 2 ^ k = pow_mono g in omega arith)
      ]

  some_bit : 1 ≤ x / 2 ^ (6 * (k / 6))
  some_bit =
      let e : 6 * (k / 6) ≤ k = omega arith in
      let m : 2 ^ (6 * (k / 6)) ≤ 2 ^ k = pow_mono e in
      let d : x / 2 ^ (6 * (k / 6)) * 2 ^ (6 * (k / 6)) + x % 2 ^ (6 * (k / 6)) ≡ x = shr_split x (6 * (k / 6)) in
      let r : x % 2 ^ (6 * (k / 6)) < 2 ^ (6 * (k / 6)) = mod_below x (2 ^ (6 * (k / 6))) (pow_pos (6 * (k / 6))) in
      elim (cases_lt (x / 2 ^ (6 * (k / 6))) 1) [
        | inl l ↦
            let z : x / 2 ^ (6 * (k / 6)) ≡ 0 = omega arith in
            let f : 0 * 2 ^ (6 * (k / 6)) + x % 2 ^ (6 * (k / 6)) ≡ x = rw z at d in
            absurd (omega arith)
        | inr g ↦ g
      ]

  cell_alone : x / 2 ^ (6 * (k / 6)) < 2 ^ 6
  cell_alone =
      let e : suc k ≤ 6 + 6 * (k / 6) = omega arith in
      let m : 2 ^ suc k ≤ 2 ^ (6 + 6 * (k / 6)) = pow_mono e in
      shr_below x 6 (6 * (k / 6)) (omega arith)

  pub top_is : IsHighest x (k / 6)
  top_is =
      let t = below_sixty in
      let s = some_bit in
      let c = cell_alone in
      let ten : k / 6 < 10 = omega arith in
      let b = bits (k / 6) ten in
      record {
        ten = ten;
        one = omega arith;
        above = λ i over h one.
            let e : suc k ≤ 0 + 6 * i = omega arith in
            let m : 2 ^ suc k ≤ 2 ^ (0 + 6 * i) = pow_mono e in
            let z : x / 2 ^ (6 * i) < 2 ^ 0 = shr_below x 0 (6 * i) (omega arith) in
            absurd (omega arith);
      }

one_if_small : (b : Bool) → one_if b ≤ 1
one_if_small true = omega arith
one_if_small false = omega arith

-- a masked word of zeros and ones
pub masked_small : (x mask j : ℕ) (b : Bool) → six x j ≡ one_if b → (six mask j ≡ 1) ⊎ (six mask j ≡ 0) → six (bit_and x mask) j ≤ 1
masked_small x mask j b is (inl named) = rw (masked_one x mask j b is named) (one_if_small b)
masked_small x mask j b is (inr other) = rw (masked_none x mask j b is other) (omega arith)
