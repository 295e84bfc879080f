-- Copies of whole words, over the list of words.
use Rattle.std.proofs.Common.{ℕ, ◌≡◌, ◌+◌, ◌-◌, ◌*◌, ◌/◌, ◌%◌, ◌^◌, ◌<◌, ◌≤◌, List, length, get_or, set, sym, ◌∙◌, ap, arith}
use Rattle.digit_core.specs.Packed.{six, cells_of}
use Rattle.digit_core.specs.Copied.{core_after_copy}
use Rattle.digit_core.proofs.OneWord.{with_word}
use Rattle.digit_core.proofs.Sixes.{length_cells}
use Rattle.digit_core.proofs.Tens.{ten_is}
use Rattle.digit_core.proofs.Packing.{cells_word, cells_across, set_word}
use Rattle.digit_core.proofs.Moving.{word_up, word_down}

-- a whole word, and a word from two, read as cells
pub whole_reads : (ws : List ℕ) (s : ℕ) → s < length ws → (j : ℕ) → j < 10 → six (get_or ws s 0) j ≡ get_or (cells_of ws) (10 * s + j) 0
whole_reads ws s inside j h = sym (cells_word ws s j inside h)

pub joined_reads : (ws : List ℕ) (s t x : ℕ) → t < 10 → s + 1 < length ws → get_or ws s 0 < 2 ^ 60
    → x ≡ get_or ws s 0 / 2 ^ (6 * t) + get_or ws (s + 1) 0 * 2 ^ (60 - 6 * t) % 2 ^ 64 % 2 ^ 60
    → (j : ℕ) → j < 10 → six x j ≡ get_or (cells_of ws) (10 * s + t + j) 0
joined_reads ws s t x place inside below is j h =
    ap (λ y. six y j) (is ∙ ten_is (get_or ws s 0) (get_or ws (s + 1) 0) t below place) ∙ cells_across ws s t place inside below j h

-- one word more is stored
module _ (ws old : List ℕ) (i from t w : ℕ) (long : length ws ≡ length old) where
  pub store_up : 10 * i ≤ from → from + 10 * t + 10 ≤ 10 * length old
      → cells_of ws ≡ core_after_copy (cells_of old) (10 * i) from (10 * t)
      → ((j : ℕ) → j < 10 → six w j ≡ get_or (cells_of ws) (from + 10 * t + j) 0)
      → cells_of (set ws (i + t) w) ≡ core_after_copy (cells_of old) (10 * i) from (10 * (t + 1))
  store_up order room is read =
      let l = length_cells old in
      set_word ws (i + t) w (omega arith) ∙ ap (λ x. with_word x (i + t) w) is ∙ word_up (cells_of old) i from t order w (omega arith) (rw is at read)

  pub store_down : (count : ℕ) → from ≤ 10 * i → t < count → i + count ≤ length old
      → cells_of ws ≡ core_after_copy (cells_of old) (10 * i + 10 * (t + 1)) (from + 10 * (t + 1)) (10 * (count - (t + 1)))
      → ((j : ℕ) → j < 10 → six w j ≡ get_or (cells_of ws) (from + 10 * t + j) 0)
      → cells_of (set ws (i + t) w) ≡ core_after_copy (cells_of old) (10 * i + 10 * t) (from + 10 * t) (10 * (count - t))
  store_down count order some room is read =
      let l = length_cells old in
      set_word ws (i + t) w (omega arith) ∙ ap (λ x. with_word x (i + t) w) is ∙ word_down (cells_of old) i from t count order some w (omega arith) (rw is at read)
