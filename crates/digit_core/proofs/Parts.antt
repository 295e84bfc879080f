-- Several cells of a word replaced at once.
use Rattle.std.proofs.Common.{ℕ, ◌≡◌, ◌+◌, ◌-◌, ◌*◌, ◌/◌, ◌%◌, ◌^◌, ◌<◌, ◌≤◌, ◌⊎◌, inl, inr, sym, ◌∙◌, ap, arith, bit_xor}
use Rattle.std.proofs.lemmas.Nat.{shr-shr, shr_split, shl_whole, pow-add, pow_pos, mod_below, shr_below, mul-add-lt, xor_lt, xor_mod, xor_block}
use Rattle.std.specs.Int.Bits.{xor_assoc, xor_self, xor_zero_r}
use Rattle.digit_core.specs.Packed.{six, with_part}
use Rattle.digit_core.proofs.Sixes.{six_of_low, six_of_high, six_cat_low, six_cat_high, word_small}
use Rattle.digit_core.proofs.Masks.{whole_power}

module _ (w j n v : ℕ) where
  low : w % 2 ^ (6 * j) < 2 ^ (6 * j)
  low = mod_below w (2 ^ (6 * j)) (pow_pos (6 * j))

  new_low : v % 2 ^ (6 * n) < 2 ^ (6 * n)
  new_low = mod_below v (2 ^ (6 * n)) (pow_pos (6 * n))

  abbrev high : ℕ
  high = w / 2 ^ (6 * (j + n)) * 2 ^ (6 * n) + v % 2 ^ (6 * n)

  -- the cells that were replaced
  pub part_within : (i : ℕ) → i < n → six (with_part w j n v) (j + i) ≡ six v i
  unfolding with_part
  part_within i h =
      six_cat_high high j (w % 2 ^ (6 * j)) low i ∙ six_cat_low (w / 2 ^ (6 * (j + n))) n (v % 2 ^ (6 * n)) new_low i h ∙ six_of_low v n i h

  -- the cells below
  pub part_below : (i : ℕ) → i < j → six (with_part w j n v) i ≡ six w i
  unfolding with_part
  part_below i h = six_cat_low high j (w % 2 ^ (6 * j)) low i h ∙ six_of_low w j i h

  -- the cells above
  pub part_above : (i : ℕ) → six (with_part w j n v) (j + (n + i)) ≡ six w (j + n + i)
  unfolding with_part
  part_above i =
      six_cat_high high j (w % 2 ^ (6 * j)) low (n + i) ∙ six_cat_high (w / 2 ^ (6 * (j + n))) n (v % 2 ^ (6 * n)) new_low i ∙ six_of_high w (j + n) i

  pub part_others : (i : ℕ) → (i < j) ⊎ (j + n ≤ i) → six (with_part w j n v) i ≡ six w i
  part_others i out =
      elim out [
        | inl l ↦ part_below i l
        | inr g ↦
            let e : j + (n + (i - (j + n))) ≡ i = omega arith in
            let f : j + n + (i - (j + n)) ≡ i = omega arith in
            let h = part_above (i - (j + n)) in
            rw (e, f) at h
      ]

-- nothing overflows
module _ (w j n v : ℕ) (hw : w < 2 ^ 60) (within : j + n ≤ 10) where
  abbrev old : ℕ
  old = w / 2 ^ (6 * j) % 2 ^ (6 * n)

  abbrev top : ℕ
  top = w / 2 ^ (6 * (j + n))

  top_small : top < 2 ^ (60 - 6 * (j + n))
  top_small =
      let e : 60 - 6 * (j + n) + 6 * (j + n) ≡ 60 = omega arith in
      shr_below w (60 - 6 * (j + n)) (6 * (j + n)) (rw e hw)

  pub part_small : with_part w j n v < 2 ^ 60
  unfolding with_part
  part_small =
      let b = mul-add-lt top (2 ^ (6 * n)) (v % 2 ^ (6 * n)) (2 ^ (60 - 6 * (j + n))) top_small (new_low w j n v) in
      let f : 6 * n + (60 - 6 * (j + n)) ≡ 60 - 6 * j = omega arith in
      word_small _ (6 * j) _ (rw (← pow-add 2 (6 * n) (60 - 6 * (j + n)), f) at b) (omega arith) (low w j n v)

  -- a word by its cells, those above and those below
  split : w ≡ (top * 2 ^ (6 * n) + old) * 2 ^ (6 * j) + w % 2 ^ (6 * j)
  split =
      let f : 6 * j + 6 * n ≡ 6 * (j + n) = omega arith in
      let s : w / 2 ^ (6 * j) / 2 ^ (6 * n) ≡ top = shr-shr w (6 * j) (6 * n) ∙ ap (λ k. w / 2 ^ k) f in
      let e : w / 2 ^ (6 * j) ≡ top * 2 ^ (6 * n) + old = sym (shr_split (w / 2 ^ (6 * j)) (6 * n)) ∙ ap (λ x. x * 2 ^ (6 * n) + old) s in
      sym (shr_split w (6 * j)) ∙ ap (λ x. x * 2 ^ (6 * j) + w % 2 ^ (6 * j)) e

  -- the bits in which the cells to be replaced and those of the other word differ
  abbrev new : ℕ
  new = v % 2 ^ (6 * n)

  old_low : old < 2 ^ (6 * n)
  old_low = mod_below (w / 2 ^ (6 * j)) (2 ^ (6 * n)) (pow_pos (6 * n))

  changed_low : bit_xor old new < 2 ^ (6 * n)
  changed_low = xor_lt (6 * n) old new old_low (new_low w j n v)

  changed_whole : bit_xor old new * 2 ^ (6 * j) % 2 ^ 64 ≡ bit_xor old new * 2 ^ (6 * j)
  changed_whole = shl_whole (bit_xor old new) (6 * n) (6 * j) 64 changed_low (omega arith)

  -- turned round, they are those of the other word
  turned : bit_xor old (bit_xor old new) ≡ new
  turned = sym (xor_assoc old old new) ∙ ap (λ x. bit_xor x new) (xor_self old)

  turned_below : bit_xor (top * 2 ^ (6 * n) + old) (bit_xor old new) ≡ top * 2 ^ (6 * n) + new
  turned_below =
      let z : bit_xor old new ≡ 0 * 2 ^ (6 * n) + bit_xor old new = omega arith in
      ap (λ x. bit_xor (top * 2 ^ (6 * n) + old) x) z
      ∙ xor_block (6 * n) top 0 old (bit_xor old new) old_low changed_low
      ∙ ap (λ x. x * 2 ^ (6 * n) + bit_xor old (bit_xor old new)) (xor_zero_r top)
      ∙ ap (λ x. top * 2 ^ (6 * n) + x) turned

  replaced : bit_xor w (bit_xor old new * 2 ^ (6 * j)) ≡ with_part w j n v
  unfolding with_part
  replaced =
      let z : bit_xor old new * 2 ^ (6 * j) ≡ bit_xor old new * 2 ^ (6 * j) + 0 = omega arith in
      ap (λ x. bit_xor x (bit_xor old new * 2 ^ (6 * j))) split
      ∙ ap (λ x. bit_xor ((top * 2 ^ (6 * n) + old) * 2 ^ (6 * j) + w % 2 ^ (6 * j)) x) z
      ∙ xor_block (6 * j) (top * 2 ^ (6 * n) + old) (bit_xor old new) (w % 2 ^ (6 * j)) 0 (low w j n v) (pow_pos (6 * j))
      ∙ ap (λ x. bit_xor (top * 2 ^ (6 * n) + old) (bit_xor old new) * 2 ^ (6 * j) + x) (xor_zero_r (w % 2 ^ (6 * j)))
      ∙ ap (λ x. x * 2 ^ (6 * j) + w % 2 ^ (6 * j)) turned_below

  -- the same, as the code has it
  abbrev end : ℕ
  end = 1 * 2 ^ (6 * n) % 2 ^ 64

  pub end_is : end ≡ 2 ^ (6 * n)
  end_is = whole_power n (omega arith)

  pub end_some : 0 < end
  end_some = rw end_is (pow_pos (6 * n))

  pub code_is : bit_xor w (bit_xor (w / 2 ^ (6 * j)) v % end * 2 ^ (6 * j) % 2 ^ 64) ≡ with_part w j n v
  code_is = rw (end_is, xor_mod (w / 2 ^ (6 * j)) v (6 * n), changed_whole) replaced
