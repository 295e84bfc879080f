-- Cells and words of a core.
use Rattle.std.proofs.Common.{ℕ, ◌≡◌, ◌≢◌, ◌+◌, ◌-◌, ◌*◌, ◌/◌, ◌%◌, ◌^◌, ◌<◌, ◌≤◌, ◌==◌, true, false, inl, inr, List, length, get_or, set, refl, sym, ◌∙◌, ap, arith, length-set}
use Rattle.std.specs.List.{All}
use Rattle.std.proofs.lemmas.List.{get_or-set_other, get_or-set_same, ext_get_or}
use Rattle.std.proofs.lemmas.List.Elements.{All-get_or, All-from_get_or}
use Rattle.std.proofs.lemmas.List.FromFn.{get_or-map-range_with_len, length-map-range_with_len}
use Rattle.std.proofs.lemmas.Bool.{cases_eq, cases_lt}
use Rattle.std.proofs.lemmas.Bool.Decides.{nat_tests}
use Rattle.digit_core.specs.Packed.{six, cell_in, cells_of, word_at, core_words}
use Rattle.digit_core.proofs.OneWord.{word_cell, with_word}
use Rattle.digit_core.proofs.Sixes.{get_cells, length_cells, six_of_high}
use Rattle.digit_core.proofs.Tens.{joined, ten_low, ten_high}

-- a cell of a word
pub cells_word : (ws : List ℕ) (i j : ℕ) → i < length ws → j < 10 → get_or (cells_of ws) (10 * i + j) 0 ≡ six (get_or ws i 0) j
unfolding cell_in
cells_word ws i j hi hj =
    let q : (10 * i + j) / 10 ≡ i = omega arith in
    let r : (10 * i + j) % 10 ≡ j = omega arith in
    get_cells ws (10 * i + j) (omega arith) ∙ rw (q, r)

-- a cell by its place in its word
pub cells_at : (ws : List ℕ) (a i j : ℕ) → a ≡ 10 * i + j → i < length ws → j < 10 → get_or (cells_of ws) a 0 ≡ six (get_or ws i 0) j
cells_at ws a i j e hi hj = rw e (cells_word ws i j hi hj)

-- a few cells that one word has
pub few_one : (ws : List ℕ) (a n : ℕ) → a + n ≤ 10 * length ws → a % 10 + n ≤ 10 → (j : ℕ) → j < n → six (get_or ws (a / 10) 0 / 2 ^ (6 * (a % 10))) j ≡ get_or (cells_of ws) (a + j) 0
few_one ws a n room within j hj = six_of_high (get_or ws (a / 10) 0) (a % 10) j ∙ sym (cells_at ws (a + j) (a / 10) (a % 10 + j) (omega arith) (omega arith) (omega arith))

-- a few cells, at most ten, that two words have
module _ (ws : List ℕ) (a n : ℕ) (few : n ≤ 10) (room : a + n ≤ 10 * length ws) (below : get_or ws (a / 10) 0 < 2 ^ 60) where
  abbrev both : ℕ
  both = joined (get_or ws (a / 10) 0) (get_or ws (a / 10 + 1) 0) (a % 10) below (omega arith)

  pub few_two : (j : ℕ) → j < n → six both j ≡ get_or (cells_of ws) (a + j) 0
  few_two j hj =
      let t : a % 10 < 10 = omega arith in
      elim (cases_lt j (10 - a % 10)) [
        | inl l ↦ ten_low (get_or ws (a / 10) 0) (get_or ws (a / 10 + 1) 0) (a % 10) below t j l ∙ sym (cells_at ws (a + j) (a / 10) (a % 10 + j) (omega arith) (omega arith) (omega arith))
        | inr g ↦
            let e : 10 - a % 10 + (j - (10 - a % 10)) ≡ j = omega arith in
            let h = ten_high (get_or ws (a / 10) 0) (get_or ws (a / 10 + 1) 0) (a % 10) below t (j - (10 - a % 10)) (omega arith) in
            (rw e at h) ∙ sym (cells_at ws (a + j) (a / 10 + 1) (j - (10 - a % 10)) (omega arith) (omega arith) (omega arith))
      ]

-- ten cells from cell number t of word s on
module _ (ws : List ℕ) (s t : ℕ) (place : t < 10) (room : s + 1 < length ws) (below : get_or ws s 0 < 2 ^ 60) where
  abbrev two : ℕ
  two = joined (get_or ws s 0) (get_or ws (s + 1) 0) t below place

  pub cells_across : (j : ℕ) → j < 10 → six two j ≡ get_or (cells_of ws) (10 * s + t + j) 0
  cells_across j hj =
      elim (cases_lt j (10 - t)) [
        | inl l ↦ ten_low (get_or ws s 0) (get_or ws (s + 1) 0) t below place j l ∙ sym (cells_at ws (10 * s + t + j) s (t + j) (omega arith) (omega arith) (omega arith))
        | inr g ↦
            let e : 10 - t + (j - (10 - t)) ≡ j = omega arith in
            let h = ten_high (get_or ws s 0) (get_or ws (s + 1) 0) t below place (j - (10 - t)) (omega arith) in
            (rw e at h) ∙ sym (cells_at ws (10 * s + t + j) (s + 1) (j - (10 - t)) (omega arith) (omega arith) (omega arith))
      ]

-- a word replaced
module _ (ws : List ℕ) (i w : ℕ) (inside : i < length ws) where
  same_test : (a b : ℕ) → a ≡ b → (a == b) ≡ true
  same_test a b e = grind (arith, nat_tests)

  other_test : (a b : ℕ) → a ≢ b → (a == b) ≡ false
  other_test a b e = grind (arith, nat_tests)

  pub set_word : cells_of (set ws i w) ≡ with_word (cells_of ws) i w
  unfolding with_word word_cell
  set_word =
      let n : length (set ws i w) ≡ length ws = length-set ws i w in
      let l : length (cells_of (set ws i w)) ≡ 10 * length ws = length_cells (set ws i w) ∙ ap (λ x. 10 * x) n in
      let m = length_cells ws in
      let k : length (with_word (cells_of ws) i w) ≡ 10 * length ws = length-map-range_with_len (word_cell (cells_of ws) i w) 0 (length (cells_of ws)) ∙ m in
      ext_get_or 0 (cells_of (set ws i w)) (with_word (cells_of ws) i w) (l ∙ sym k)
      (λ b h.
      let hb : b < 10 * length ws = rw l at h in
      let hc : b < length (cells_of ws) = rw m hb in
      let right : get_or (with_word (cells_of ws) i w) b 0 ≡ word_cell (cells_of ws) i w b = get_or-map-range_with_len (word_cell (cells_of ws) i w) 0 (length (cells_of ws)) b b 0 hc (omega arith) in
      let left = cells_at (set ws i w) b (b / 10) (b % 10) (omega arith) (rw n (omega arith)) (omega arith) in
      elim (cases_eq (b / 10) i) [
        | inl e ↦
            let t = same_test (b / 10) i e in
            let here : get_or (set ws i w) (b / 10) 0 ≡ w = rw e (get_or-set_same ws i w 0 inside) in
            let there : word_cell (cells_of ws) i w b ≡ six w (b % 10) = rw t refl in
            left ∙ ap (λ x. six x (b % 10)) here ∙ sym (right ∙ there)
        | inr ne ↦
            let t = other_test (b / 10) i ne in
            let here : get_or (set ws i w) (b / 10) 0 ≡ get_or ws (b / 10) 0 = get_or-set_other ws i (b / 10) w 0 ne in
            let there : word_cell (cells_of ws) i w b ≡ get_or (cells_of ws) b 0 = rw t refl in
            left ∙ ap (λ x. six x (b % 10)) here ∙ sym (cells_at ws b (b / 10) (b % 10) (omega arith) (omega arith) (omega arith)) ∙ sym (right ∙ there)
      ])

-- a word is the sum of its cells
pub ten_sixes : (w : ℕ) → w < 2 ^ 60 →
    0 + six w 0 * 64 ^ 0 + six w 1 * 64 ^ 1 + six w 2 * 64 ^ 2 + six w 3 * 64 ^ 3 + six w 4 * 64 ^ 4 + six w 5 * 64 ^ 5 + six w 6 * 64 ^ 6 + six w 7 * 64 ^ 7 + six w 8 * 64 ^ 8 + six w 9 * 64 ^ 9 ≡ w
ten_sixes w below = omega arith

pub word_is : (ws : List ℕ) (i : ℕ) → i < length ws → get_or ws i 0 < 2 ^ 60 → word_at (cells_of ws) (10 * i) ≡ get_or ws i 0
unfolding word_at
word_is ws i inside below =
    rw (cells_word ws i 0 inside (omega arith), cells_word ws i 1 inside (omega arith), cells_word ws i 2 inside (omega arith), cells_word ws i 3 inside (omega arith), cells_word ws i 4 inside (omega arith), cells_word ws i 5 inside (omega arith), cells_word ws i 6 inside (omega arith), cells_word ws i 7 inside (omega arith), cells_word ws i 8 inside (omega arith), cells_word ws i 9 inside (omega arith))
    (ten_sixes (get_or ws i 0) below)

pub words_are : (ws : List ℕ) → All (λ w. w < 2 ^ 60) ws → ws ≡ core_words (cells_of ws)
unfolding core_words
words_are ws below =
    let m : length (cells_of ws) / 10 ≡ length ws = omega (arith, length_cells ws) in
    let k : length (core_words (cells_of ws)) ≡ length ws = length-map-range_with_len (λ w. word_at (cells_of ws) (10 * w)) 0 (length (cells_of ws) / 10) ∙ m in
    ext_get_or 0 ws (core_words (cells_of ws)) (sym k)
    (λ b h.
    let hb : b < length (cells_of ws) / 10 = rw m h in
    let right : get_or (core_words (cells_of ws)) b 0 ≡ word_at (cells_of ws) (10 * b) = get_or-map-range_with_len (λ w. word_at (cells_of ws) (10 * w)) 0 (length (cells_of ws) / 10) b b 0 hb (omega arith) in
    sym (right ∙ word_is ws b h (All-get_or (λ w. w < 2 ^ 60) ws b 0 h below)))

-- a cell has six bits
pub cells_small : (ws : List ℕ) → All (λ c. c < 64) (cells_of ws)
unfolding cell_in
cells_small ws =
    All-from_get_or (λ c. c < 64) (cells_of ws) 0
    (λ a h.
    let l = length_cells ws in
    let e : get_or (cells_of ws) a 0 ≡ six (get_or ws (a / 10) 0) (a % 10) = cells_at ws a (a / 10) (a % 10) (omega arith) (omega arith) (omega arith) in
    rw e (omega arith))

-- the two words of twelve cells from an even place
module _ (ws : List ℕ) (a : ℕ) (even : a % 2 ≡ 0) (room : a + 12 ≤ 10 * length ws) (below : get_or ws (a / 10) 0 < 2 ^ 60) where
  abbrev lower : ℕ
  lower = joined (get_or ws (a / 10) 0) (get_or ws (a / 10 + 1) 0) (a % 10) below (omega arith)

  -- the lower ten, also where they are one word
  pub lower_cells : (j : ℕ) → j < 10 → six lower j ≡ get_or (cells_of ws) (a + j) 0
  lower_cells j hj =
      let t : a % 10 < 10 = omega arith in
      elim (cases_lt j (10 - a % 10)) [
        | inl l ↦ ten_low (get_or ws (a / 10) 0) (get_or ws (a / 10 + 1) 0) (a % 10) below t j l ∙ sym (cells_at ws (a + j) (a / 10) (a % 10 + j) (omega arith) (omega arith) (omega arith))
        | inr g ↦
            let e : 10 - a % 10 + (j - (10 - a % 10)) ≡ j = omega arith in
            let h = ten_high (get_or ws (a / 10) 0) (get_or ws (a / 10 + 1) 0) (a % 10) below t (j - (10 - a % 10)) (omega arith) in
            (rw e at h) ∙ sym (cells_at ws (a + j) (a / 10 + 1) (j - (10 - a % 10)) (omega arith) (omega arith) (omega arith))
      ]

  -- the two above them
  pub higher_cells : (j : ℕ) → j < 2 → six (get_or ws (a / 10 + 1) 0 / 2 ^ (6 * (a % 10))) j ≡ get_or (cells_of ws) (a + 10 + j) 0
  higher_cells j hj =
      six_of_high (get_or ws (a / 10 + 1) 0) (a % 10) j ∙ sym (cells_at ws (a + 10 + j) (a / 10 + 1) (a % 10 + j) (omega arith) (omega arith) (omega arith))
