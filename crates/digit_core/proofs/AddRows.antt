-- The words of the add table, which differ nowhere from those of the standard one or make another table.
use Rattle.std.proofs.Common.{ℕ, zero, suc, ◌≡◌, ◌+◌, ◌-◌, ◌*◌, ◌/◌, ◌%◌, ◌^◌, ◌<◌, ◌≤◌, List, [], ◌∷◌, length, get_or, refl, sym, ◌∙◌, ap, arith, inl, inr, bit_or, bit_xor, lit<}
use Rattle.std.specs.List.{All}
use Rattle.std.specs.Int.Bits.{xor_zero_r, xor_self}
use Rattle.std.proofs.lemmas.Bool.{cases_eq, cases_lt}
use Rattle.std.proofs.lemmas.List.Elements.{All-get_or}
use Rattle.std.proofs.lemmas.Nat.{xor_shr, xor_mod, le_or_l, le_or_r}
use Rattle.std.proofs.Math.Nat.{pow-succ'}
use lib.Count.{ones}
use Rattle.digit_core.specs.Cell.{cell}
use Rattle.digit_core.specs.Standard.{standard_digit, HasAddTable}
use Rattle.digit_core.specs.Packed.{six, cells_of, word_at}
use Rattle.digit_core.proofs.Below.{same_below}
use Rattle.digit_core.proofs.Packing.{cells_at, word_is, ten_sixes}

-- the rows of the add table
abbrev pub rows : List ℕ
rows = 0xa481e69448c2060 ∷ 0x4292079a5123081 ∷ 0xc50a481e69448c2 ∷ 0xcb14292079a5123 ∷ 0x4f2c50a481e6944 ∷ 0xd13cb14292079a5 ∷ 0x5744f2c50a481e6 ∷ 0x595d13cb1429207 ∷ 0xdd65744f2c50a48 ∷ 0xe37595d13cb1429 ∷ []

abbrev row_cell : ℕ → ℕ
row_cell k = six (get_or rows (k / 10) 0) (k % 10)

abbrev table_cell : ℕ → ℕ
table_cell k = cell (standard_digit (300 + k))

each_cell : (k : ℕ) → k < 100 → row_cell k ≡ table_cell k
unfolding cell standard_digit ones
each_cell k below = same_below row_cell table_cell 100 k 0 refl below

-- bits that differ nowhere
same_bit : (x y : ℕ) → x < 2 → y < 2 → bit_xor x y ≡ 0 → x ≡ y
same_bit x y hx hy none =
    elim (cases_eq y 0) [
      | inl e ↦ (let z : bit_xor x 0 ≡ 0 = rw e at none in sym (xor_zero_r x) ∙ z ∙ sym e)
      | inr some ↦
          let one : y ≡ 1 = omega arith in
          elim (cases_eq x 0) [
            | inl e ↦ (let z : bit_xor 0 1 ≡ 0 = rw (e, one) at none in let w : suc zero ≡ zero = z in absurd (omega arith))
            | inr other ↦ omega arith
          ]
    ]

-- numbers that differ in no bit
same_bits : (n a b : ℕ) → a < 2 ^ n → b < 2 ^ n → bit_xor a b ≡ 0 → a ≡ b
same_bits zero a b ha hb none = omega arith
same_bits (suc n) a b ha hb none =
    let power = pow-succ' 2 n in
    let high : bit_xor (a / 2 ^ 1) (b / 2 ^ 1) ≡ 0 = sym (xor_shr a b 1) ∙ ap (λ x. x / 2 ^ 1) none in
    let low : bit_xor (a % 2 ^ 1) (b % 2 ^ 1) ≡ 0 = sym (xor_mod a b 1) ∙ ap (λ x. x % 2 ^ 1) none in
    let half = same_bits n (a / 2 ^ 1) (b / 2 ^ 1) (omega arith) (omega arith) high in
    let bit = same_bit (a % 2 ^ 1) (b % 2 ^ 1) (omega arith) (omega arith) low in
    omega arith

-- a row has ten cells
row_small : (x : ℕ) → x < 10 → get_or rows x 0 < 2 ^ 60
row_small x below =
    let e : get_or rows x 0 % 2 ^ 60 ≡ get_or rows x 0 = same_below (λ x. get_or rows x 0 % 2 ^ 60) (λ x. get_or rows x 0) 10 x 0 refl below in
    omega arith

-- one word more, where none differs
module _ (d w x : ℕ) (small : w < 2 ^ 60) (below : x < 10) (none : bit_or d (bit_xor w (get_or rows x 0)) ≡ 0) where
  pub none_before : d ≡ 0
  none_before = let l = le_or_l d (bit_xor w (get_or rows x 0)) in omega arith

  pub same_row : w ≡ get_or rows x 0
  same_row =
      let l = le_or_r d (bit_xor w (get_or rows x 0)) in
      let z : bit_xor w (get_or rows x 0) ≡ 0 = omega arith in
      same_bits 60 w (get_or rows x 0) small (row_small x below) z

-- the words hold the rows
abbrev pub HasRows : List ℕ → ℕ → Type 0
HasRows ws n = (x : ℕ) → x < n → get_or ws (30 + x) 0 ≡ get_or rows x 0

-- one row more: where none differs, and where all are the standard ones
pub rows_more : (ws : List ℕ) (d x : ℕ) → All (λ w. w < 2 ^ 60) ws → 40 ≤ length ws → x < 10 → (d ≡ 0 → HasRows ws x)
    → bit_or d (bit_xor (get_or ws (30 + x) 0) (get_or rows x 0)) ≡ 0 → HasRows ws (x + 1)
rows_more ws d x sixty_bits room below before none k more =
    let small : get_or ws (30 + x) 0 < 2 ^ 60 = All-get_or (λ w. w < 2 ^ 60) ws (30 + x) 0 (omega (arith, below, room)) sixty_bits in
    elim (cases_lt k x) [
      | inl l ↦ before (none_before d (get_or ws (30 + x) 0) x small below none) k l
      | inr g ↦ let e : k ≡ x = omega (arith, g, more) in rw e (same_row d (get_or ws (30 + x) 0) x small below none)
    ]

pub none_differs : (ws : List ℕ) (d x : ℕ) → HasRows ws 10 → x < 10 → d ≡ 0 → bit_or d (bit_xor (get_or ws (30 + x) 0) (get_or rows x 0)) ≡ 0
none_differs ws d x has below none = rw (none, has x below, xor_self (get_or rows x 0)) refl

module _ (ws : List ℕ) (room : 40 ≤ length ws) (sixty_bits : All (λ w. w < 2 ^ 60) ws) where
  -- then the cells are those of the standard table
  pub table_of_rows : HasRows ws 10 → HasAddTable (cells_of ws)
  table_of_rows has a low high =
      let x = (a - 300) / 10 in
      let j = (a - 300) % 10 in
      let f : 300 + (a - 300) ≡ a = omega (arith, low) in
      cells_at ws a (30 + x) j (omega (arith, low)) (omega (arith, high, room)) (omega arith) ∙ ap (λ w. six w j) (has x (omega (arith, high)))
      ∙ each_cell (a - 300) (omega (arith, high)) ∙ ap (λ k. cell (standard_digit k)) f

  -- and only then
  module _ (table : HasAddTable (cells_of ws)) (x : ℕ) (below : x < 10) where
    cell_is : (j : ℕ) → j < 10 → get_or (cells_of ws) (10 * (30 + x) + j) 0 ≡ six (get_or rows x 0) j
    cell_is j hj =
        let at : 10 * (30 + x) + j ≡ 300 + (10 * x + j) = omega arith in
        let row : (10 * x + j) / 10 ≡ x = omega (arith, hj) in
        let place : (10 * x + j) % 10 ≡ j = omega (arith, hj) in
        let same : row_cell (10 * x + j) ≡ six (get_or rows x 0) j = rw (row, place) refl in
        table (10 * (30 + x) + j) (omega arith) (omega (arith, below, hj)) ∙ ap (λ k. cell (standard_digit k)) at
        ∙ sym (each_cell (10 * x + j) (omega (arith, below, hj))) ∙ same

    row_is : get_or ws (30 + x) 0 ≡ get_or rows x 0
    unfolding word_at
    row_is =
        let small : get_or ws (30 + x) 0 < 2 ^ 60 = All-get_or (λ w. w < 2 ^ 60) ws (30 + x) 0 (omega (arith, below, room)) sixty_bits in
        sym (word_is ws (30 + x) (omega (arith, below, room)) small)
        ∙ rw (cell_is 0 (lit< tt), cell_is 1 (lit< tt), cell_is 2 (lit< tt), cell_is 3 (lit< tt), cell_is 4 (lit< tt), cell_is 5 (lit< tt), cell_is 6 (lit< tt), cell_is 7 (lit< tt), cell_is 8 (lit< tt), cell_is 9 (lit< tt))
        (ten_sixes (get_or rows x 0) (row_small x below))

  pub rows_of_table : HasAddTable (cells_of ws) → HasRows ws 10
  rows_of_table table x below = row_is table x below
