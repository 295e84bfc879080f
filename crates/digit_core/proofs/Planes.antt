-- One bit of each of a word's ten cells, and what such bits say of the cells.
use Rattle.std.proofs.Common.{ℕ, ◌≡◌, ◌≢◌, ◌+◌, ◌-◌, ◌*◌, ◌/◌, ◌%◌, ◌^◌, ◌<◌, ◌==◌, Bool, true, false, not, refl, sym, ◌∙◌, ap, arith, bit_and, bit_or, bit_xor, below_more, below_none, lit<}
use Rattle.std.proofs.lemmas.Nat.{shr-shr, field_of, and_shr, or_shr, xor_shr, and_mod, or_mod, xor_mod, and_mask, and_le_r}
use Rattle.std.proofs.lemmas.Bool.Decides.{nat_tests}
use Rattle.std.proofs.Math.Pow.{mod-mod-pow}
use lib.Count.{ones}
use Rattle.digit_core.specs.Packed.{six}
use Rattle.digit_core.specs.Search.{has_mark, has_eight_and_two, is_bad_cell, is_undecimal, one_if}
use Rattle.digit_core.specs.Cell.{has_flag}
use Rattle.digit_core.proofs.Below.{same_below}
use Rattle.digit_core.proofs.Sixes.{six_of_low}

-- the lowest bit of each cell
abbrev pub lowest : ℕ
lowest = 0x0041041041041041

abbrev pub Is_one : ℕ → Type 0
Is_one j = six lowest j ≡ 1

pub six_lowest : (j : ℕ) → j < 10 → Is_one j
six_lowest = below_more Is_one 9 (below_more Is_one 8 (below_more Is_one 7 (below_more Is_one 6 (below_more Is_one 5 (below_more Is_one 4 (below_more Is_one 3 (below_more Is_one 2 (below_more Is_one 1 (below_more Is_one 0 (below_none Is_one) refl) refl) refl) refl) refl) refl) refl) refl) refl) refl

-- six bits of a word that is computed bit by bit
pub six_and : (x y j : ℕ) → six (bit_and x y) j ≡ bit_and (six x j) (six y j)
six_and x y j = ap (λ z. z % 2 ^ 6) (and_shr x y (6 * j)) ∙ and_mod (x / 2 ^ (6 * j)) (y / 2 ^ (6 * j)) 6

pub six_or : (x y j : ℕ) → six (bit_or x y) j ≡ bit_or (six x j) (six y j)
six_or x y j = ap (λ z. z % 2 ^ 6) (or_shr x y (6 * j)) ∙ or_mod (x / 2 ^ (6 * j)) (y / 2 ^ (6 * j)) 6

pub six_xor : (x y j : ℕ) → six (bit_xor x y) j ≡ bit_xor (six x j) (six y j)
six_xor x y j = ap (λ z. z % 2 ^ 6) (xor_shr x y (6 * j)) ∙ xor_mod (x / 2 ^ (6 * j)) (y / 2 ^ (6 * j)) 6

-- one bit of each cell
abbrev pub plane : ℕ → ℕ → ℕ
plane w b = bit_and (w / 2 ^ b) lowest

module _ (w b j : ℕ) (hb : b < 6) (hj : j < 10) where
  shifted : w / 2 ^ b / 2 ^ (6 * j) ≡ w / 2 ^ (6 * j) / 2 ^ b
  shifted =
      let e : b + 6 * j ≡ 6 * j + b = omega arith in
      shr-shr w b (6 * j) ∙ ap (λ k. w / 2 ^ k) e ∙ sym (shr-shr w (6 * j) b)

  bit_of : w / 2 ^ (6 * j) / 2 ^ b % 2 ≡ six w j / 2 ^ b % 2
  bit_of =
      let e : 6 - b + b ≡ 6 = omega arith in
      let f : w / 2 ^ (6 * j) % 2 ^ 6 / 2 ^ b ≡ w / 2 ^ (6 * j) / 2 ^ b % 2 ^ (6 - b) =
      ap (λ k. w / 2 ^ (6 * j) % 2 ^ k / 2 ^ b) (sym e) ∙ field_of (w / 2 ^ (6 * j)) (6 - b) b in
      let g : 6 - b ≡ 5 - b + 1 = omega arith in
      let m : w / 2 ^ (6 * j) / 2 ^ b % 2 ^ (6 - b) % 2 ^ 1 ≡ w / 2 ^ (6 * j) / 2 ^ b % 2 ^ 1 = rw g (mod-mod-pow (w / 2 ^ (6 * j) / 2 ^ b) (5 - b) 1) in
      sym m ∙ ap (λ x. x % 2) (sym f)

  -- the bit of the cell
  pub six_plane : six (plane w b) j ≡ six w j / 2 ^ b % 2
  six_plane =
      let one = six_lowest j hj in
      let m : w / 2 ^ b / 2 ^ (6 * j) % 2 ^ 6 % 2 ^ 1 ≡ w / 2 ^ b / 2 ^ (6 * j) % 2 ^ 1 = mod-mod-pow (w / 2 ^ b / 2 ^ (6 * j)) 5 1 in
      six_and (w / 2 ^ b) lowest j ∙ ap (λ x. bit_and (six (w / 2 ^ b) j) x) one ∙ and_mask (six (w / 2 ^ b) j) 1 ∙ m ∙ ap (λ x. x % 2) shifted ∙ bit_of

-- a word of zeros has zeros
six_zero : (x j : ℕ) → x ≡ 0 → six x j ≡ 0
six_zero x j e = rw e (omega arith)

six_small : (w j : ℕ) → six w j < 64
six_small w j = omega arith

-- what a test of a word against 0 says
pub zero_test : (x : ℕ) → not (x == 0) ≡ false → x ≡ 0
zero_test x test = grind (arith, nat_tests)

-- flags
pub no_flag : (w j : ℕ) → j < 10 → plane w 4 ≡ 0 → has_flag (six w j) ≡ false
no_flag w j hj none =
    let z = sym (six_plane w 4 j (lit< tt) hj) ∙ six_zero (plane w 4) j none in
    grind (arith, nat_tests)

-- flags below the highest cell
pub no_lower_flag : (w j : ℕ) → j < 9 → plane w 4 % 2 ^ 54 ≡ 0 → has_flag (six w j) ≡ false
no_lower_flag w j hj none =
    let below : j < 10 = omega arith in
    let z = sym (six_plane w 4 j (lit< tt) below) ∙ sym (six_of_low (plane w 4) 9 j hj) ∙ six_zero (plane w 4 % 2 ^ 54) j none in
    grind (arith, nat_tests)

each_flag : (c : ℕ) → c < 64 → c / 2 ^ 4 % 2 ≡ one_if (has_flag c)
each_flag c below = same_below (λ c. c / 2 ^ 4 % 2) (λ c. one_if (has_flag c)) 64 c 0 refl below

-- flags
pub is_flag : (w j : ℕ) → j < 10 → six (plane w 4) j ≡ one_if (has_flag (six w j))
is_flag w j hj = six_plane w 4 j (lit< tt) hj ∙ each_flag (six w j) (six_small w j)

one_and : (b : Bool) → bit_and (one_if b) 1 ≡ one_if b
one_and true = refl
one_and false = refl

none_and : (b : Bool) → bit_and (one_if b) 0 ≡ 0
none_and true = refl
none_and false = refl

-- a word of ones with a mask: in a cell that is named, and in one that is not
pub masked_one : (x mask j : ℕ) (b : Bool) → six x j ≡ one_if b → six mask j ≡ 1 → six (bit_and x mask) j ≡ one_if b
masked_one x mask j b is named = six_and x mask j ∙ ap (λ z. bit_and z (six mask j)) is ∙ ap (λ z. bit_and (one_if b) z) named ∙ one_and b

pub masked_none : (x mask j : ℕ) (b : Bool) → six x j ≡ one_if b → six mask j ≡ 0 → six (bit_and x mask) j ≡ 0
masked_none x mask j b is other = six_and x mask j ∙ ap (λ z. bit_and z (six mask j)) is ∙ ap (λ z. bit_and (one_if b) z) other ∙ none_and b

-- where a word of ones has none, no cell passes
pub no_one : (x j : ℕ) (b : Bool) → six x j ≡ one_if b → x ≡ 0 → b ≡ false
no_one x j true is none = absurd (omega (arith, is, six_zero x j none))
no_one x j false is none = refl

-- the lowest bit of cell number j of a word that is computed bit by bit
module _ (j : ℕ) where
  abbrev lowest_bit : ℕ → ℕ
  lowest_bit x = x / 2 ^ (6 * j) % 2

  bit_of_xor : (x y a b : ℕ) → lowest_bit x ≡ a → lowest_bit y ≡ b → lowest_bit (bit_xor x y) ≡ bit_xor a b
  bit_of_xor x y a b p q =
      let m : bit_xor (x / 2 ^ (6 * j)) (y / 2 ^ (6 * j)) % 2 ^ 1 ≡ bit_xor (lowest_bit x) (lowest_bit y) = xor_mod (x / 2 ^ (6 * j)) (y / 2 ^ (6 * j)) 1 in
      ap (λ z. z % 2) (xor_shr x y (6 * j)) ∙ m ∙ ap (λ z. bit_xor z (lowest_bit y)) p ∙ ap (λ z. bit_xor a z) q

  bit_of_and : (x y a b : ℕ) → lowest_bit x ≡ a → lowest_bit y ≡ b → lowest_bit (bit_and x y) ≡ bit_and a b
  bit_of_and x y a b p q =
      let m : bit_and (x / 2 ^ (6 * j)) (y / 2 ^ (6 * j)) % 2 ^ 1 ≡ bit_and (lowest_bit x) (lowest_bit y) = and_mod (x / 2 ^ (6 * j)) (y / 2 ^ (6 * j)) 1 in
      ap (λ z. z % 2) (and_shr x y (6 * j)) ∙ m ∙ ap (λ z. bit_and z (lowest_bit y)) p ∙ ap (λ z. bit_and a z) q

  bit_of_or : (x y a b : ℕ) → lowest_bit x ≡ a → lowest_bit y ≡ b → lowest_bit (bit_or x y) ≡ bit_or a b
  bit_of_or x y a b p q =
      let m : bit_or (x / 2 ^ (6 * j)) (y / 2 ^ (6 * j)) % 2 ^ 1 ≡ bit_or (lowest_bit x) (lowest_bit y) = or_mod (x / 2 ^ (6 * j)) (y / 2 ^ (6 * j)) 1 in
      ap (λ z. z % 2) (or_shr x y (6 * j)) ∙ m ∙ ap (λ z. bit_or z (lowest_bit y)) p ∙ ap (λ z. bit_or a z) q

  -- six bits of a word and another, where the other has 1
  named_six : (x mask : ℕ) → six mask j ≡ 1 → six (bit_and x mask) j ≡ lowest_bit x
  named_six x mask one =
      let m : x / 2 ^ (6 * j) % 2 ^ 6 % 2 ^ 1 ≡ x / 2 ^ (6 * j) % 2 ^ 1 = mod-mod-pow (x / 2 ^ (6 * j)) 5 1 in
      six_and x mask j ∙ ap (λ z. bit_and (six x j) z) one ∙ and_mask (six x j) 1 ∙ m

-- parity: the bits 1, 2 and 4 together at a cell's lowest bit, and 8, F and C together three above it
abbrev pub half : ℕ → ℕ
half w = bit_xor (bit_xor w (w / 2 ^ 1)) (w / 2 ^ 2)

abbrev pub odd : ℕ → ℕ
odd w = bit_xor (half w) (half w / 2 ^ 3)

-- the values 11, 13 and 14, of cells that are odd: 8, an odd number of 8, F and C, and 1 or 2
abbrev pub wrong : ℕ → ℕ
wrong w = bit_and (bit_and w (half w) / 2 ^ 3) (bit_or w (w / 2 ^ 1))

-- the values from 10 on
abbrev pub over_nine : ℕ → ℕ
over_nine w = bit_and (w / 2 ^ 3) (bit_or (w / 2 ^ 2) (w / 2 ^ 1))

abbrev bit : ℕ → ℕ → ℕ
bit c b = c / 2 ^ b % 2

abbrev low_half : ℕ → ℕ
low_half c = bit_xor (bit_xor (bit c 0) (bit c 1)) (bit c 2)

abbrev high_half : ℕ → ℕ
high_half c = bit_xor (bit_xor (bit c 3) (bit c 4)) (bit c 5)

abbrev odd_bit : ℕ → ℕ
odd_bit c = bit_xor (low_half c) (high_half c)

abbrev wrong_bit : ℕ → ℕ
wrong_bit c = bit_and (bit_and (bit c 3) (high_half c)) (bit_or (bit c 0) (bit c 1))

abbrev over_nine_bit : ℕ → ℕ
over_nine_bit c = bit_and (bit c 3) (bit_or (bit c 2) (bit c 1))

bad_bit : ℕ → ℕ
bad_bit c = bit_or (bit_xor (odd_bit c) 1) (wrong_bit c)

undecimal_bit : ℕ → ℕ
undecimal_bit c = bit_or (bit_xor (odd_bit c) 1) (over_nine_bit c)

module _ (w j : ℕ) (hj : j < 10) where
  -- a bit of the word moved to the lowest
  b0 : lowest_bit j w ≡ bit (six w j) 0
  b0 = omega arith

  b1 : lowest_bit j (w / 2 ^ 1) ≡ bit (six w j) 1
  b1 = ap (λ x. x % 2) (shifted w 1 j (lit< tt) hj) ∙ bit_of w 1 j (lit< tt) hj

  b2 : lowest_bit j (w / 2 ^ 2) ≡ bit (six w j) 2
  b2 = ap (λ x. x % 2) (shifted w 2 j (lit< tt) hj) ∙ bit_of w 2 j (lit< tt) hj

  b3 : lowest_bit j (w / 2 ^ 3) ≡ bit (six w j) 3
  b3 = ap (λ x. x % 2) (shifted w 3 j (lit< tt) hj) ∙ bit_of w 3 j (lit< tt) hj

  b4 : lowest_bit j (w / 2 ^ 1 / 2 ^ 3) ≡ bit (six w j) 4
  b4 = ap (lowest_bit j) (shr-shr w 1 3) ∙ ap (λ x. x % 2) (shifted w 4 j (lit< tt) hj) ∙ bit_of w 4 j (lit< tt) hj

  b5 : lowest_bit j (w / 2 ^ 2 / 2 ^ 3) ≡ bit (six w j) 5
  b5 = ap (lowest_bit j) (shr-shr w 2 3) ∙ ap (λ x. x % 2) (shifted w 5 j (lit< tt) hj) ∙ bit_of w 5 j (lit< tt) hj

  half_low : lowest_bit j (half w) ≡ low_half (six w j)
  half_low = bit_of_xor j _ _ _ _ (bit_of_xor j _ _ _ _ b0 b1) b2

  half_high : lowest_bit j (half w / 2 ^ 3) ≡ high_half (six w j)
  half_high =
      let s : half w / 2 ^ 3 ≡ bit_xor (bit_xor (w / 2 ^ 3) (w / 2 ^ 1 / 2 ^ 3)) (w / 2 ^ 2 / 2 ^ 3) =
      xor_shr (bit_xor w (w / 2 ^ 1)) (w / 2 ^ 2) 3 ∙ ap (λ x. bit_xor x (w / 2 ^ 2 / 2 ^ 3)) (xor_shr w (w / 2 ^ 1) 3) in
      ap (lowest_bit j) s ∙ bit_of_xor j _ _ _ _ (bit_of_xor j _ _ _ _ b3 b4) b5

  lowest_one : lowest_bit j lowest ≡ 1
  lowest_one =
      let one = six_lowest j hj in
      let m : lowest / 2 ^ (6 * j) % 2 ^ 6 % 2 ^ 1 ≡ lowest / 2 ^ (6 * j) % 2 ^ 1 = mod-mod-pow (lowest / 2 ^ (6 * j)) 5 1 in
      sym m ∙ ap (λ x. x % 2) one

  even_is : lowest_bit j (bit_xor (odd w) lowest) ≡ bit_xor (odd_bit (six w j)) 1
  even_is = bit_of_xor j _ _ _ _ (bit_of_xor j _ _ _ _ half_low half_high) lowest_one

  wrong_is : lowest_bit j (wrong w) ≡ wrong_bit (six w j)
  wrong_is =
      let s : lowest_bit j (bit_and w (half w) / 2 ^ 3) ≡ bit_and (bit (six w j) 3) (high_half (six w j)) =
      ap (lowest_bit j) (and_shr w (half w) 3) ∙ bit_of_and j _ _ _ _ b3 half_high in
      bit_of_and j _ _ _ _ s (bit_of_or j _ _ _ _ b0 b1)

  over_nine_is : lowest_bit j (over_nine w) ≡ over_nine_bit (six w j)
  over_nine_is = bit_of_and j _ _ _ _ b3 (bit_of_or j _ _ _ _ b2 b1)

-- record marks: 8 and 2, and neither 4 nor 1
abbrev pub marks : ℕ → ℕ
marks w = bit_and (bit_and (bit_and w (w / 2 ^ 2) / 2 ^ 1) (bit_xor (bit_or w (w / 2 ^ 2)) lowest)) lowest

mark_bit : ℕ → ℕ
mark_bit c = bit_and (bit_and (bit c 1) (bit c 3)) (bit_xor (bit_or (bit c 0) (bit c 2)) 1)

each_mark : (c : ℕ) → c < 64 → mark_bit c ≡ one_if (has_mark c)
unfolding mark_bit
each_mark c below = same_below mark_bit (λ c. one_if (has_mark c)) 64 c 0 refl below

pub is_mark : (w j : ℕ) → j < 10 → six (marks w) j ≡ one_if (has_mark (six w j))
unfolding mark_bit
is_mark w j h =
    let both : lowest_bit j (bit_and w (w / 2 ^ 2) / 2 ^ 1) ≡ bit_and (bit (six w j) 1) (bit (six w j) 3) =
    ap (lowest_bit j) (and_shr w (w / 2 ^ 2) 1) ∙ bit_of_and j _ _ _ _ (b1 w j h) (ap (lowest_bit j) (shr-shr w 2 1) ∙ b3 w j h) in
    let neither : lowest_bit j (bit_xor (bit_or w (w / 2 ^ 2)) lowest) ≡ bit_xor (bit_or (bit (six w j) 0) (bit (six w j) 2)) 1 =
    bit_of_xor j _ _ _ _ (bit_of_or j _ _ _ _ (b0 w j h) (b2 w j h)) (lowest_one w j h) in
    let each : mark_bit (six w j) ≡ one_if (has_mark (six w j)) = each_mark (six w j) (six_small w j) in
    named_six j _ lowest (six_lowest j h) ∙ bit_of_and j _ _ _ _ both neither ∙ each

-- the bits 8 and 2
abbrev eights_with_two : ℕ → ℕ
eights_with_two w = bit_and (bit_and w (w / 2 ^ 2) / 2 ^ 1) lowest

both_bit : ℕ → ℕ
both_bit c = bit_and (bit c 1) (bit c 3)

each_both : (c : ℕ) → c < 64 → both_bit c ≡ one_if (has_eight_and_two c)
unfolding both_bit
each_both c below = same_below both_bit (λ c. one_if (has_eight_and_two c)) 64 c 0 refl below

is_both : (w j : ℕ) → j < 10 → six (eights_with_two w) j ≡ one_if (has_eight_and_two (six w j))
unfolding both_bit
is_both w j h =
    let both : lowest_bit j (bit_and w (w / 2 ^ 2) / 2 ^ 1) ≡ bit_and (bit (six w j) 1) (bit (six w j) 3) =
    ap (lowest_bit j) (and_shr w (w / 2 ^ 2) 1) ∙ bit_of_and j _ _ _ _ (b1 w j h) (ap (lowest_bit j) (shr-shr w 2 1) ∙ b3 w j h) in
    let each : both_bit (six w j) ≡ one_if (has_eight_and_two (six w j)) = each_both (six w j) (six_small w j) in
    named_six j _ lowest (six_lowest j h) ∙ both ∙ each

-- where bit 2 of no cell is left, none has both
abbrev pub twos : ℕ
twos = 0x0082082082082082

pub none_both : (w j : ℕ) → j < 10 → bit_and (bit_and w (w / 2 ^ 2)) twos ≡ 0 → has_eight_and_two (six w j) ≡ false
none_both w j h none =
    let x = bit_and w (w / 2 ^ 2) in
    let z : eights_with_two w ≡ 0 = sym (and_shr x twos 1) ∙ ap (λ y. y / 2 ^ 1) none in
    no_one (eights_with_two w) j (has_eight_and_two (six w j)) (is_both w j h) z

-- a cell without these bits is no record mark
pub no_mark_without : (c : ℕ) → has_eight_and_two c ≡ false → has_mark c ≡ false
no_mark_without c without = grind (arith, nat_tests)

-- bad cells
abbrev pub bads : ℕ → ℕ
bads w = bit_and (bit_or (bit_xor (odd w) lowest) (wrong w)) lowest

each_bad : (c : ℕ) → c < 64 → bad_bit c ≡ one_if (is_bad_cell c)
unfolding bad_bit ones
each_bad c below = same_below bad_bit (λ c. one_if (is_bad_cell c)) 64 c 0 refl below

pub bad_is : (w mask j : ℕ) → j < 10 → six mask j ≡ 1 → six (bit_and (bit_or (bit_xor (odd w) lowest) (wrong w)) mask) j ≡ one_if (is_bad_cell (six w j))
unfolding bad_bit
bad_is w mask j h named =
    let each : bad_bit (six w j) ≡ one_if (is_bad_cell (six w j)) = each_bad (six w j) (six_small w j) in
    named_six j _ mask named ∙ bit_of_or j _ _ _ _ (even_is w j h) (wrong_is w j h) ∙ each

pub is_bad_one : (w j : ℕ) → j < 10 → six (bads w) j ≡ one_if (is_bad_cell (six w j))
is_bad_one w j h = bad_is w lowest j h (six_lowest j h)

pub named_good : (w mask j : ℕ) → j < 10 → six mask j ≡ 1 → bit_and (bads w) mask ≡ 0 → is_bad_cell (six w j) ≡ false
named_good w mask j h named none = no_one (bit_and (bads w) mask) j (is_bad_cell (six w j)) (masked_one (bads w) mask j (is_bad_cell (six w j)) (is_bad_one w j h) named) none

-- cells that hold no decimal digit
abbrev pub undecimals : ℕ → ℕ
undecimals w = bit_and (bit_or (bit_xor (odd w) lowest) (over_nine w)) lowest

each_undecimal : (c : ℕ) → c < 64 → undecimal_bit c ≡ one_if (is_undecimal c)
unfolding undecimal_bit ones
each_undecimal c below = same_below undecimal_bit (λ c. one_if (is_undecimal c)) 64 c 0 refl below

pub is_undecimal_one : (w j : ℕ) → j < 10 → six (undecimals w) j ≡ one_if (is_undecimal (six w j))
unfolding undecimal_bit
is_undecimal_one w j h =
    let each : undecimal_bit (six w j) ≡ one_if (is_undecimal (six w j)) = each_undecimal (six w j) (six_small w j) in
    named_six j _ lowest (six_lowest j h) ∙ bit_of_or j _ _ _ _ (even_is w j h) (over_nine_is w j h) ∙ each

-- a word that has ones in the lowest bits alone
pub lowest_word : (x : ℕ) → bit_and x lowest < 2 ^ 60
lowest_word x = let l = and_le_r x lowest in omega arith

-- the test itself
pub zero_is : (x : ℕ) → (x == 0) ≡ true → x ≡ 0
zero_is x test = grind (arith, nat_tests)

pub zero_is_not : (x : ℕ) → (x == 0) ≡ false → x ≢ 0
zero_is_not x test = grind (arith, nat_tests)
