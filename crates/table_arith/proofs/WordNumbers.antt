-- The number of the digits in a word, worked out by pairs.
use Rattle.std.proofs.Common.{ℕ, zero, suc, ◌≡◌, ◌+◌, ◌-◌, ◌*◌, ◌/◌, ◌%◌, ◌^◌, ◌<◌, ◌≤◌, length, map, refl, sym, ◌∙◌, ap, arith, bit_and}
use Rattle.std.specs.List.{range_with_len}
use Rattle.std.proofs.lemmas.List.{ext_get_or}
use Rattle.std.proofs.lemmas.List.FromFn.{map-range_with_len_more, get_or-map-range_with_len, length-map-range_with_len}
use Rattle.std.proofs.lemmas.Nat.{and_mask, and_le_r, shr_split, pow_pos}
use Rattle.std.proofs.Math.Nat.{zero-div}
use Rattle.digit_core.specs.Packed.{six}
use Rattle.digit_core.proofs.Sixes.{six_of_high, six_cat_low, six_cat_high}
use Rattle.digit_core.proofs.Planes.{six_and}
use Rattle.table_arith.specs.Values.{value}
use Rattle.table_arith.specs.Words.{digit_within, number_within, pair_within, pairs_within, twelve_bits, number_of_pairs}
use Rattle.table_arith.proofs.NumberDigits.{value_push}

-- a word is the sum of its cells
ten_sixes : (w : ℕ) → w < 2 ^ 60 →
    six w 0 + six w 1 * 64 ^ 1 + six w 2 * 64 ^ 2 + six w 3 * 64 ^ 3 + six w 4 * 64 ^ 4 + six w 5 * 64 ^ 5 + six w 6 * 64 ^ 6 + six w 7 * 64 ^ 7 + six w 8 * 64 ^ 8 + six w 9 * 64 ^ 9 ≡ w
ten_sixes w below = omega arith

-- the digit of every other cell, and two of four pairs of cells
abbrev pub digits : ℕ
digits = 0x000f00f00f00f00f

abbrev pub pairs : ℕ
pairs = 0x0000000fff000fff

-- a cell of a word under a mask
module _ (x mask j : ℕ) where
  digit_kept : six mask j ≡ 15 → six (bit_and x mask) j ≡ six x j % 16
  digit_kept named = six_and x mask j ∙ ap (λ m. bit_and (six x j) m) named ∙ and_mask (six x j) 4

  cell_kept : six mask j ≡ 63 → six (bit_and x mask) j ≡ six x j
  cell_kept named =
      let e : six x j % 2 ^ 6 ≡ six x j = omega arith in
      six_and x mask j ∙ ap (λ m. bit_and (six x j) m) named ∙ and_mask (six x j) 6 ∙ e

  none_kept : six mask j ≡ 0 → six (bit_and x mask) j ≡ 0
  none_kept named =
      let e : six x j % 2 ^ 0 ≡ 0 = omega arith in
      six_and x mask j ∙ ap (λ m. bit_and (six x j) m) named ∙ and_mask (six x j) 0 ∙ e

-- the digits of every other cell
even_digits : (x : ℕ) →
    bit_and x digits ≡ six x 0 % 16 + 4096 * (six x 2 % 16 + 4096 * (six x 4 % 16 + 4096 * (six x 6 % 16 + 4096 * (six x 8 % 16))))
even_digits x =
    let below : bit_and x digits < 2 ^ 60 = (let m = and_le_r x digits in omega arith) in
    let s = ten_sixes (bit_and x digits) below in
    let k0 = digit_kept x digits 0 refl in
    let k1 = none_kept x digits 1 refl in
    let k2 = digit_kept x digits 2 refl in
    let k3 = none_kept x digits 3 refl in
    let k4 = digit_kept x digits 4 refl in
    let k5 = none_kept x digits 5 refl in
    let k6 = digit_kept x digits 6 refl in
    let k7 = none_kept x digits 7 refl in
    let k8 = digit_kept x digits 8 refl in
    let k9 = none_kept x digits 9 refl in
    let t = rw (k0, k1, k2, k3, k4, k5, k6, k7, k8, k9) at s in
    sym t ∙ omega arith

-- the pairs of digits
pub pairs_are : (x : ℕ) → 10 * bit_and x digits + bit_and (x / 2 ^ 6) digits ≡ pairs_within x
pairs_are x =
    let a = even_digits x in
    let b = even_digits (x / 2 ^ 6) in
    let c = rw (six_of_high x 1 0, six_of_high x 1 2, six_of_high x 1 4, six_of_high x 1 6, six_of_high x 1 8) at b in
    rw (a, c) (omega arith)

-- two of four pairs of cells
even_pairs : (x : ℕ) → bit_and x pairs ≡ twelve_bits x 0 + 16777216 * twelve_bits x 2
even_pairs x =
    let below : bit_and x pairs < 2 ^ 60 = (let m = and_le_r x pairs in omega arith) in
    let s = ten_sixes (bit_and x pairs) below in
    let k0 = cell_kept x pairs 0 refl in
    let k1 = cell_kept x pairs 1 refl in
    let k2 = none_kept x pairs 2 refl in
    let k3 = none_kept x pairs 3 refl in
    let k4 = cell_kept x pairs 4 refl in
    let k5 = cell_kept x pairs 5 refl in
    let k6 = none_kept x pairs 6 refl in
    let k7 = none_kept x pairs 7 refl in
    let k8 = none_kept x pairs 8 refl in
    let k9 = none_kept x pairs 9 refl in
    let t = rw (k0, k1, k2, k3, k4, k5, k6, k7, k8, k9) at s in
    sym t ∙ omega arith

-- what the five pairs come to
module _ (x : ℕ) (below : x < 2 ^ 60) where
  abbrev fours : ℕ
  fours = 100 * bit_and x pairs + bit_and (x / 2 ^ 12) pairs

  fours_are : fours ≡ 100 * twelve_bits x 0 + twelve_bits x 1 + 16777216 * (100 * twelve_bits x 2 + twelve_bits x 3)
  fours_are =
      let a = even_pairs x in
      let b = even_pairs (x / 2 ^ 12) in
      let c : twelve_bits (x / 2 ^ 12) 0 ≡ twelve_bits x 1 = omega arith in
      let d : twelve_bits (x / 2 ^ 12) 2 ≡ twelve_bits x 3 = omega arith in
      let e = rw (c, d) at b in
      rw (a, e) (omega arith)

  pub fours_small : fours < 2 ^ 60
  fours_small =
      let a = and_le_r x pairs in
      let b = and_le_r (x / 2 ^ 12) pairs in
      omega arith

  pub number_is : (fours % 2 ^ 24 * 10000 + fours / 2 ^ 24) * 100 + x / 2 ^ 48 ≡ number_of_pairs x
  number_is =
      let f = fours_are in
      let low : fours % 2 ^ 24 ≡ 100 * twelve_bits x 0 + twelve_bits x 1 = rw f (omega arith) in
      let high : fours / 2 ^ 24 ≡ 100 * twelve_bits x 2 + twelve_bits x 3 = rw f (omega arith) in
      let top : x / 2 ^ 48 ≡ twelve_bits x 4 = omega arith in
      rw (low, high, top) (omega arith)

-- pairs of numbers below 4096 are taken apart again
five : (a b c d e : ℕ) → a < 4096 → b < 4096 → c < 4096 → d < 4096 → e < 4096 →
    number_of_pairs (a + 4096 * (b + 4096 * (c + 4096 * (d + 4096 * e)))) ≡ (((a * 100 + b) * 100 + c) * 100 + d) * 100 + e
five a b c d e ha hb hc hd he =
    let x = a + 4096 * (b + 4096 * (c + 4096 * (d + 4096 * e))) in
    let p0 : twelve_bits (a + 4096 * (b + 4096 * (c + 4096 * (d + 4096 * e)))) 0 ≡ a = omega arith in
    let p1 : twelve_bits (a + 4096 * (b + 4096 * (c + 4096 * (d + 4096 * e)))) 1 ≡ b = omega arith in
    let p2 : twelve_bits (a + 4096 * (b + 4096 * (c + 4096 * (d + 4096 * e)))) 2 ≡ c = omega arith in
    let p3 : twelve_bits (a + 4096 * (b + 4096 * (c + 4096 * (d + 4096 * e)))) 3 ≡ d = omega arith in
    let p4 : twelve_bits (a + 4096 * (b + 4096 * (c + 4096 * (d + 4096 * e)))) 4 ≡ e = omega arith in
    rw (p0, p1, p2, p3, p4)

-- the highest cells of a word, with zeros below them
module _ (w s : ℕ) where
  abbrev kept : ℕ
  kept = w / 2 ^ (6 * s) * 2 ^ (6 * s)

  pub kept_small : w < 2 ^ 60 → kept < 2 ^ 60
  kept_small below = let s = shr_split w (6 * s) in omega arith

  pub kept_high : (j : ℕ) → s ≤ j → six kept j ≡ six w j
  kept_high j high =
      let z : kept ≡ w / 2 ^ (6 * s) * 2 ^ (6 * s) + 0 = omega arith in
      let e : s + (j - s) ≡ j = omega arith in
      let h = six_cat_high (w / 2 ^ (6 * s)) s 0 (pow_pos (6 * s)) (j - s) ∙ six_of_high w s (j - s) in
      ap (λ x. six x j) z ∙ rw e at h

  pub kept_low : (j : ℕ) → j < s → six kept j ≡ 0
  kept_low j low =
      let z : kept ≡ w / 2 ^ (6 * s) * 2 ^ (6 * s) + 0 = omega arith in
      let d = zero-div (2 ^ (6 * j)) in
      ap (λ x. six x j) z ∙ six_cat_low (w / 2 ^ (6 * s)) s 0 (pow_pos (6 * s)) j low ∙ ap (λ x. x % 2 ^ 6) d

-- two shifts by whole cells
pub cleared_is : (w s : ℕ) → w < 2 ^ 60 → w / 2 ^ (6 * s) * 2 ^ (6 * s) % 18446744073709551616 ≡ kept w s
cleared_is w s below = let small = kept_small w s below in omega arith

-- numbers of digits that are the same up to the n-th, where the others have zeros
module _ (f g : ℕ → ℕ) (n : ℕ) (same : (k : ℕ) → k < n → f k ≡ g k) where
  pub same_digits : map f (range_with_len 0 n) ≡ map g (range_with_len 0 n)
  same_digits =
      let l = length-map-range_with_len f 0 n in
      let m = length-map-range_with_len g 0 n in
      ext_get_or 0 _ _ (l ∙ sym m)
      (λ k h.
      let below : k < n = rw l at h in
      get_or-map-range_with_len f 0 n k k 0 below (omega arith) ∙ same k below ∙ sym (get_or-map-range_with_len g 0 n k k 0 below (omega arith)))

  pub same_number : (r : ℕ) → ((k : ℕ) → n ≤ k → k < n + r → g k ≡ 0) → value (map f (range_with_len 0 n)) ≡ value (map g (range_with_len 0 (n + r)))
  same_number zero none =
      let e : n + 0 ≡ n = omega arith in
      rw e (ap value same_digits)
  same_number (suc r) none =
      let e : n + suc r ≡ n + r + 1 = omega arith in
      let rest = same_number r (λ k low high. none k low (omega arith)) in
      let push = value_push (map g (range_with_len 0 (n + r))) (g (n + r)) in
      let z : g (n + r) ≡ 0 = none (n + r) (omega arith) (omega arith) in
      let more : value (map g (range_with_len 0 (n + r + 1))) ≡ value (map g (range_with_len 0 (n + r))) + g (n + r) * 10 ^ length (map g (range_with_len 0 (n + r))) =
      ap value (map-range_with_len_more g 0 (n + r) (n + r) (omega arith)) ∙ push in
      let gone : value (map g (range_with_len 0 (n + r))) + g (n + r) * 10 ^ length (map g (range_with_len 0 (n + r))) ≡ value (map g (range_with_len 0 (n + r))) =
      rw z (omega arith) in
      rest ∙ sym (more ∙ gone) ∙ ap (λ m. value (map g (range_with_len 0 m))) (sym e)

-- ten digits
ten_digits : (g : ℕ → ℕ) →
    value (map g (range_with_len 0 10)) ≡ g 0 + 10 * (g 1 + 10 * (g 2 + 10 * (g 3 + 10 * (g 4 + 10 * (g 5 + 10 * (g 6 + 10 * (g 7 + 10 * (g 8 + 10 * (g 9 + 10 * 0)))))))))
unfolding value
ten_digits g = refl

-- the number of the n digits that end at the highest cell
module _ (w n x : ℕ) (ten : n ≤ 10) (high : (j : ℕ) → 10 - n ≤ j → six x j ≡ six w j) (low : (j : ℕ) → j < 10 - n → six x j ≡ 0) where
  cleared : (k : ℕ) → n ≤ k → k < n + (10 - n) → digit_within x k ≡ 0
  cleared k past within = let z = low (9 - k) (omega arith) in rw z

  pub number_kept : number_of_pairs (pairs_within x) ≡ number_within w n
  unfolding number_within
  number_kept =
      let e : n + (10 - n) ≡ 10 = omega arith in
      let s = same_number (digit_within w) (digit_within x) n (λ k h. ap (λ c. c % 16) (sym (high (9 - k) (omega arith)))) (10 - n) cleared in
      let t = rw e at s in
      five (pair_within x 0) (pair_within x 1) (pair_within x 2) (pair_within x 3) (pair_within x 4) (omega arith) (omega arith) (omega arith) (omega arith) (omega arith)
      ∙ sym (t ∙ ten_digits (digit_within x) ∙ omega arith)
