-- The good cells of a number's digits in a word.
use Rattle.std.proofs.Common.{ℕ, ◌≡◌, ◌+◌, ◌-◌, ◌*◌, ◌/◌, ◌%◌, ◌^◌, ◌<◌, ◌≤◌, ◌==◌, Bool, true, false, List, [], ◌∷◌, get_or, refl, sym, ◌∙◌, ap, arith, inl, inr, bit_xor, below_more, below_none}
use Rattle.std.specs.Prelude.{if◌then◌else◌}
use Rattle.std.specs.Int.Bits.{xor_zero_r}
use Rattle.std.proofs.lemmas.Bool.{cases_lt}
use Rattle.std.proofs.lemmas.Bool.Decides.{nat_tests}
use lib.Count.{ones}
use Rattle.digit_core.specs.Cell.{cell, unflagged_digit}
use Rattle.digit_core.specs.Packed.{six}
use Rattle.digit_core.proofs.Below.{same_below}
use Rattle.digit_core.proofs.Planes.{six_xor}
use Rattle.digit_core.proofs.Sixes.{six_of_high}
use Rattle.table_arith.specs.Values.{flag_at}
use Rattle.table_arith.proofs.NumberFields.{flags, last_flag}

-- the good cells of the numbers below 100
abbrev pub pairs : List ℕ
pairs = 0x820 ∷ 0x060 ∷ 0x0a0 ∷ 0x8e0 ∷ 0x120 ∷ 0x960 ∷ 0x9a0 ∷ 0x1e0 ∷ 0x220 ∷ 0xa60
    ∷ 0x801 ∷ 0x041 ∷ 0x081 ∷ 0x8c1 ∷ 0x101 ∷ 0x941 ∷ 0x981 ∷ 0x1c1 ∷ 0x201 ∷ 0xa41
    ∷ 0x802 ∷ 0x042 ∷ 0x082 ∷ 0x8c2 ∷ 0x102 ∷ 0x942 ∷ 0x982 ∷ 0x1c2 ∷ 0x202 ∷ 0xa42
    ∷ 0x823 ∷ 0x063 ∷ 0x0a3 ∷ 0x8e3 ∷ 0x123 ∷ 0x963 ∷ 0x9a3 ∷ 0x1e3 ∷ 0x223 ∷ 0xa63
    ∷ 0x804 ∷ 0x044 ∷ 0x084 ∷ 0x8c4 ∷ 0x104 ∷ 0x944 ∷ 0x984 ∷ 0x1c4 ∷ 0x204 ∷ 0xa44
    ∷ 0x825 ∷ 0x065 ∷ 0x0a5 ∷ 0x8e5 ∷ 0x125 ∷ 0x965 ∷ 0x9a5 ∷ 0x1e5 ∷ 0x225 ∷ 0xa65
    ∷ 0x826 ∷ 0x066 ∷ 0x0a6 ∷ 0x8e6 ∷ 0x126 ∷ 0x966 ∷ 0x9a6 ∷ 0x1e6 ∷ 0x226 ∷ 0xa66
    ∷ 0x807 ∷ 0x047 ∷ 0x087 ∷ 0x8c7 ∷ 0x107 ∷ 0x947 ∷ 0x987 ∷ 0x1c7 ∷ 0x207 ∷ 0xa47
    ∷ 0x808 ∷ 0x048 ∷ 0x088 ∷ 0x8c8 ∷ 0x108 ∷ 0x948 ∷ 0x988 ∷ 0x1c8 ∷ 0x208 ∷ 0xa48
    ∷ 0x829 ∷ 0x069 ∷ 0x0a9 ∷ 0x8e9 ∷ 0x129 ∷ 0x969 ∷ 0x9a9 ∷ 0x1e9 ∷ 0x229 ∷ 0xa69
    ∷ []

pub tens_cell : (v : ℕ) → v < 100 → six (get_or pairs v 0) 0 ≡ cell (unflagged_digit (v / 10))
unfolding cell ones
tens_cell v below = same_below (λ v. six (get_or pairs v 0) 0) (λ v. cell (unflagged_digit (v / 10))) 100 v 0 refl below

pub units_cell : (v : ℕ) → v < 100 → six (get_or pairs v 0) 1 ≡ cell (unflagged_digit (v % 10))
unfolding cell ones
units_cell v below = same_below (λ v. six (get_or pairs v 0) 1) (λ v. cell (unflagged_digit (v % 10))) 100 v 0 refl below

pub pair_small : (v : ℕ) → v < 100 → get_or pairs v 0 < 2 ^ 12
pair_small v below =
    let e : get_or pairs v 0 % 4096 ≡ get_or pairs v 0 = same_below (λ v. get_or pairs v 0 % 4096) (λ v. get_or pairs v 0) 100 v 0 refl below in
    omega arith

-- ten cells from five pairs
module _ (c0 c1 c2 c3 c4 : ℕ) (h0 : c0 < 2 ^ 12) (h1 : c1 < 2 ^ 12) (h2 : c2 < 2 ^ 12) (h3 : c3 < 2 ^ 12) (h4 : c4 < 2 ^ 12) where
  abbrev pub all : ℕ
  all = c0 + c1 * 2 ^ 12 % 2 ^ 64 + c2 * 2 ^ 24 % 2 ^ 64 + c3 * 2 ^ 36 % 2 ^ 64 + c4 * 2 ^ 48 % 2 ^ 64

  abbrev sums : ℕ
  sums = c0 + 4096 * (c1 + 4096 * (c2 + 4096 * (c3 + 4096 * c4)))

  all_are : all ≡ sums
  all_are = omega arith

  pub all_small : all < 2 ^ 60
  all_small = omega arith

  pub cell_0 : six all 0 ≡ six c0 0
  cell_0 = rw all_are (omega arith)

  pub cell_1 : six all 1 ≡ six c0 1
  cell_1 = rw all_are (omega arith)

  pub cell_2 : six all 2 ≡ six c1 0
  cell_2 = rw all_are (omega arith)

  pub cell_3 : six all 3 ≡ six c1 1
  cell_3 = rw all_are (omega arith)

  pub cell_4 : six all 4 ≡ six c2 0
  cell_4 = rw all_are (omega arith)

  pub cell_5 : six all 5 ≡ six c2 1
  cell_5 = rw all_are (omega arith)

  pub cell_6 : six all 6 ≡ six c3 0
  cell_6 = rw all_are (omega arith)

  pub cell_7 : six all 7 ≡ six c3 1
  cell_7 = rw all_are (omega arith)

  pub cell_8 : six all 8 ≡ six c4 0
  cell_8 = rw all_are (omega arith)

  pub cell_9 : six all 9 ≡ six c4 1
  cell_9 = rw all_are (omega arith)

  -- the digits of a number, whose pairs these are
  module _ (m : ℕ) (small : m < 10 ^ 10)
      (t0 : six c0 0 ≡ cell (unflagged_digit (m / 100 / 10000 / 100 / 10))) (u0 : six c0 1 ≡ cell (unflagged_digit (m / 100 / 10000 / 100 % 10)))
      (t1 : six c1 0 ≡ cell (unflagged_digit (m / 100 / 10000 % 100 / 10))) (u1 : six c1 1 ≡ cell (unflagged_digit (m / 100 / 10000 % 100 % 10)))
      (t2 : six c2 0 ≡ cell (unflagged_digit (m / 100 % 10000 / 100 / 10))) (u2 : six c2 1 ≡ cell (unflagged_digit (m / 100 % 10000 / 100 % 10)))
      (t3 : six c3 0 ≡ cell (unflagged_digit (m / 100 % 10000 % 100 / 10))) (u3 : six c3 1 ≡ cell (unflagged_digit (m / 100 % 10000 % 100 % 10)))
      (t4 : six c4 0 ≡ cell (unflagged_digit (m % 100 / 10))) (u4 : six c4 1 ≡ cell (unflagged_digit (m % 100 % 10))) where
    abbrev Has : ℕ → Type 0
    Has k = six all (9 - k) ≡ cell (unflagged_digit (m / 10 ^ k % 10))

    same_digit : (x y : ℕ) → x ≡ y → cell (unflagged_digit x) ≡ cell (unflagged_digit y)
    same_digit x y e = ap (λ v. cell (unflagged_digit v)) e

    has_0 : Has 0
    has_0 = cell_9 ∙ u4 ∙ same_digit _ _ (omega arith)

    has_1 : Has 1
    has_1 = cell_8 ∙ t4 ∙ same_digit _ _ (omega arith)

    has_2 : Has 2
    has_2 = cell_7 ∙ u3 ∙ same_digit _ _ (omega arith)

    has_3 : Has 3
    has_3 = cell_6 ∙ t3 ∙ same_digit _ _ (omega arith)

    has_4 : Has 4
    has_4 = cell_5 ∙ u2 ∙ same_digit _ _ (omega arith)

    has_5 : Has 5
    has_5 = cell_4 ∙ t2 ∙ same_digit _ _ (omega arith)

    has_6 : Has 6
    has_6 = cell_3 ∙ u1 ∙ same_digit _ _ (omega arith)

    has_7 : Has 7
    has_7 = cell_2 ∙ t1 ∙ same_digit _ _ (omega arith)

    has_8 : Has 8
    has_8 = cell_1 ∙ u0 ∙ same_digit _ _ (omega arith)

    has_9 : Has 9
    has_9 = cell_0 ∙ t0 ∙ same_digit _ _ (omega arith)

    pub digits_stand : (k : ℕ) → k < 10 → Has k
    digits_stand = below_more Has 9 (below_more Has 8 (below_more Has 7 (below_more Has 6 (below_more Has 5 (below_more Has 4 (below_more Has 3 (below_more Has 2 (below_more Has 1 (below_more Has 0 (below_none Has) has_0) has_1) has_2) has_3) has_4) has_5) has_6) has_7) has_8) has_9

-- a flag put on a decimal digit
flagged : (v : ℕ) → v < 10 → bit_xor (cell (unflagged_digit v)) 48 ≡ cell (record { flag = true; value = v })
unfolding cell ones
flagged v below = same_below (λ v. bit_xor (cell (unflagged_digit v)) 48) (λ v. cell (record { flag = true; value = v })) 10 v 0 refl below

-- the units with the sign
with_minus : (minus : Bool) (v : ℕ) → v < 10 → (if minus then bit_xor (cell (unflagged_digit v)) 48 else cell (unflagged_digit v)) ≡ cell (record { flag = minus; value = v })
with_minus true v below = flagged v below
with_minus false v below = refl

-- the cells of a word with some bits turned round, where none are
unturned : (w bits j : ℕ) → six bits j ≡ 0 → six (bit_xor w bits) j ≡ six w j
unturned w bits j none = six_xor w bits j ∙ ap (λ b. bit_xor (six w j) b) none ∙ xor_zero_r (six w j)

-- the highest cell's flag leaves the others
abbrev highest_flag : ℕ
highest_flag = 864691128455135232

pub others_stay : (digits j : ℕ) → j < 9 → six (bit_xor digits highest_flag) j ≡ six digits j
others_stay digits j below = unturned digits highest_flag j (same_below (λ j. six highest_flag j) (λ j. 0) 9 j 0 refl below)

-- the lowest cell's flag too
lowest_alone : (j : ℕ) → 0 < j → j < 10 → six 48 j ≡ 0
lowest_alone j some below =
    let e : j - 1 + 1 ≡ j = omega arith in
    let z = same_below (λ j. six 48 (j + 1)) (λ j. 0) 9 (j - 1) 0 refl (omega arith) in
    rw e at z

-- the flags of the units and of the leftmost digit
module _ (digits signed m n : ℕ) (minus : Bool) (two : 2 ≤ n) (ten : n ≤ 10)
    (stand : (k : ℕ) → k < 10 → six digits (9 - k) ≡ cell (unflagged_digit (m / 10 ^ k % 10)))
    (units : six signed 9 ≡ (if minus then bit_xor (six digits 9) 48 else six digits 9))
    (others : (j : ℕ) → j < 9 → six signed j ≡ six digits j) where
  abbrev shifted : ℕ
  shifted = signed / 2 ^ (60 - 6 * n)

  abbrev digit : ℕ → ℕ
  digit k = m / 10 ^ k % 10

  -- a cell once the word is moved down
  moved : (k : ℕ) → k < n → six shifted (n - 1 - k) ≡ six signed (9 - k)
  moved k below =
      let e : 60 - 6 * n ≡ 6 * (10 - n) = omega arith in
      let f : 10 - n + (n - 1 - k) ≡ 9 - k = omega arith in
      let h = six_of_high signed (10 - n) (n - 1 - k) in
      rw e (rw f at h)

  past_units : (k : ℕ) → 0 < k → k < n → six shifted (n - 1 - k) ≡ cell (unflagged_digit (digit k))
  past_units k some below = moved k below ∙ others (9 - k) (omega arith) ∙ stand k (omega arith)

  at_units : six (bit_xor shifted 48) (n - 1 - 0) ≡ cell (record { flag = minus; value = digit 0 })
  at_units =
      unturned shifted 48 (n - 1 - 0) (lowest_alone (n - 1 - 0) (omega arith) (omega arith)) ∙ moved 0 (omega arith) ∙ units
      ∙ ap (λ c. if minus then bit_xor c 48 else c) (stand 0 (omega arith)) ∙ with_minus minus (digit 0) (omega arith)

  at_left : (k : ℕ) → k + 1 ≡ n → six (bit_xor shifted 48) (n - 1 - k) ≡ cell (record { flag = true; value = digit k })
  at_left k left =
      let z : six 48 (n - 1 - k) ≡ 48 = (let e : n - 1 - k ≡ 0 = omega arith in rw e refl) in
      six_xor shifted 48 (n - 1 - k) ∙ ap (λ b. bit_xor (six shifted (n - 1 - k)) b) z ∙ ap (λ c. bit_xor c 48) (past_units k (omega arith) (omega arith)) ∙ flagged (digit k) (omega arith)

  between : (k : ℕ) → 0 < k → k + 1 < n → six (bit_xor shifted 48) (n - 1 - k) ≡ cell (unflagged_digit (digit k))
  between k some below = unturned shifted 48 (n - 1 - k) (lowest_alone (n - 1 - k) (omega arith) (omega arith)) ∙ past_units k some (omega arith)

  flag_is : (k : ℕ) (b : Bool) → flag_at minus n k ≡ b → cell (record { flag = b; value = digit k }) ≡ cell (record { flag = flag_at minus n k; value = digit k })
  flag_is k b e = ap (λ f. cell (record { flag = f; value = digit k })) (sym e)

  pub field_stands : (k : ℕ) → k < n → six (bit_xor shifted 48) (n - 1 - k) ≡ cell (record { flag = flag_at minus n k; value = digit k })
  field_stands k below =
      elim (cases_lt 0 k) [
        | inr none ↦ (let e : k ≡ 0 = omega arith in rw e at_units)
        | inl some ↦
            let n_is : n - 1 + 1 ≡ n = omega arith in
            elim (cases_lt (k + 1) n) [
              | inl less ↦
                  let f : (k == 0) ≡ false = grind (arith, nat_tests) in
                  between k some less ∙ flag_is k false (rw f at (flags minus n k less))
              | inr g ↦
                  let left : k + 1 ≡ n = omega arith in
                  at_left k left ∙ flag_is k true (rw left at (last_flag minus k some))
            ]
      ]
