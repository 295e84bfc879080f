-- Where a word of ones is not 0 under a mask, the mask names a cell that has 1.
use Rattle.std.proofs.Common.{ℕ, ◌≡◌, ◌≢◌, ◌+◌, ◌*◌, ◌/◌, ◌%◌, ◌^◌, ◌<◌, zero, suc, inl, inr, refl, ◌∙◌, ap, arith, Bool, true, false, bit_and}
use Rattle.std.proofs.lemmas.Nat.{shr_below, shr_split, mod_below, pow_pos, and_le_l, and_comm, and_mask}
use Rattle.std.proofs.lemmas.Bool.{cases_eq}
use Rattle.digit_core.specs.Packed.{six}
use Rattle.digit_core.specs.Search.{one_if}
use Rattle.digit_core.proofs.Planes.{lowest, six_lowest, six_and}

-- one of the t lowest cells is not 0
record HasSome (x t : ℕ) : Type 0 where
  pub place : ℕ
  pub below : place < t
  pub some : six x place ≢ 0

some_cell : (x t : ℕ) → x < 2 ^ (6 * t) → x ≢ 0 → HasSome x t
some_cell x zero small some = absurd (some (omega arith))
some_cell x (suc t) small some =
    elim (cases_eq (six x t) 0) [
      | inl none ↦
          let e : 6 * suc t ≡ 6 + 6 * t = omega arith in
          let high : x / 2 ^ (6 * t) < 2 ^ 6 = shr_below x 6 (6 * t) (rw e at small) in
          let z : x / 2 ^ (6 * t) ≡ 0 = omega arith in
          let same : 0 * 2 ^ (6 * t) + x % 2 ^ (6 * t) ≡ x = rw z at (shr_split x (6 * t)) in
          let low : x % 2 ^ (6 * t) < 2 ^ (6 * t) = mod_below x (2 ^ (6 * t)) (pow_pos (6 * t)) in
          let found = some_cell x t (omega arith) some in
          record { place = found.place; below = let b = found.below in omega arith; some = found.some }
      | inr one ↦ record { place = t; below = omega arith; some = one }
    ]

-- six bits of a mask, where the cell's one is not 0 under them
passes : (b : Bool) (m : ℕ) → bit_and (one_if b) m ≢ 0 → b ≡ true
passes true m some = refl
passes false m some = absurd (some (let l = and_le_l 0 m in omega arith))

odd : (b : Bool) (m : ℕ) → bit_and (one_if b) m ≢ 0 → m % 2 ≡ 1
odd true m some =
    let e : bit_and 1 m ≡ m % 2 = and_comm 1 m ∙ and_mask m 1 in
    omega arith
odd false m some = absurd (some (let l = and_le_l 0 m in omega arith))

is_true : (b : Bool) → one_if b ≢ 0 → b ≡ true
is_true true some = refl
is_true false some = absurd (some refl)

-- a cell that passes, of those that a mask names
pub record Passes (p : ℕ → Bool) (w mask : ℕ) : Type 0 where
  pub place : ℕ
  pub ten : place < 10
  pub named : six mask place % 2 ≡ 1
  pub pass : p (six w place) ≡ true

module _ (p : ℕ → Bool) (w x : ℕ) (small : x < 2 ^ 60) (each : (j : ℕ) → j < 10 → six x j ≡ one_if (p (six w j))) where
  pub masked_passes : (mask : ℕ) → bit_and x mask ≢ 0 → Passes p w mask
  masked_passes mask some =
      let l = and_le_l x mask in
      let found = some_cell (bit_and x mask) 10 (omega arith) some in
      let b = p (six w found.place) in
      let m = six mask found.place in
      let is : six (bit_and x mask) found.place ≡ bit_and (one_if b) m =
      six_and x mask found.place ∙ ap (λ z. bit_and z m) (each found.place found.below) in
      let one : bit_and (one_if b) m ≢ 0 = λ none. found.some (is ∙ none) in
      record { place = found.place; ten = found.below; named = odd b m one; pass = passes b m one }

  pub some_passes : x ≢ 0 → Passes p w lowest
  some_passes some =
      let found = some_cell x 10 small some in
      let b = p (six w found.place) in
      let one : b ≡ true = is_true b (λ none. found.some (each found.place found.below ∙ none)) in
      let m : six lowest found.place ≡ 1 = six_lowest found.place found.below in
      record { place = found.place; ten = found.below; named = ap (λ z. z % 2) m; pass = one }
