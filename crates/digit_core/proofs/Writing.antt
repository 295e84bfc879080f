-- Cells that were written from a word: where they are, and what a list is that has them.
use Rattle.std.proofs.Common.{ℕ, ◌≡◌, ◌+◌, ◌-◌, ◌*◌, ◌/◌, ◌%◌, ◌^◌, ◌<◌, ◌≤◌, ◌&&◌, ◌⊎◌, true, false, inl, inr, List, length, get_or, set, refl, sym, ◌∙◌, ap, arith, nat_le, nat_lt}
use Rattle.std.proofs.lemmas.List.{ext_get_or}
use Rattle.std.proofs.lemmas.List.FromFn.{get_or-map-range_with_len, length-map-range_with_len}
use Rattle.std.proofs.lemmas.Bool.{cases_eq, cases_lt}
use Rattle.std.proofs.lemmas.Bool.Decides.{nat_tests}
use Rattle.digit_core.specs.Packed.{six, cells_of, with_part}
use Rattle.digit_core.specs.Written.{cell_with_word, core_with_word}
use Rattle.digit_core.specs.Copied.{core_after_copy}
use Rattle.digit_core.proofs.OneWord.{with_word}
use Rattle.digit_core.proofs.Sixes.{six_of_low, six_of_high, length_cells}
use Rattle.digit_core.proofs.Parts.{part_within, part_others}
use Rattle.digit_core.proofs.Moving.{length_word, word_in, word_out, copied_is}
use Rattle.digit_core.proofs.Packing.{cells_at, set_word}

module _ (cells : List ℕ) (a n w : ℕ) where
  pub length_written : length (core_with_word cells a n w) ≡ length cells
  unfolding core_with_word
  length_written = length-map-range_with_len (cell_with_word cells a n w) 0 (length cells)

  written_at : (i : ℕ) → i < length cells → get_or (core_with_word cells a n w) i 0 ≡ cell_with_word cells a n w i
  unfolding core_with_word
  written_at i h = get_or-map-range_with_len (cell_with_word cells a n w) 0 (length cells) i i 0 h (omega arith)

  pub written_in : (i : ℕ) → i < length cells → a ≤ i → i < a + n → get_or (core_with_word cells a n w) i 0 ≡ six w (i - a)
  unfolding cell_with_word
  written_in i h low high =
      let t : (nat_le a i && nat_lt i (a + n)) ≡ true = grind (arith, nat_tests) in
      let v : cell_with_word cells a n w i ≡ six w (i - a) = rw t refl in
      written_at i h ∙ v

  pub written_out : (i : ℕ) → i < length cells → (i < a) ⊎ (a + n ≤ i) → get_or (core_with_word cells a n w) i 0 ≡ get_or cells i 0
  unfolding cell_with_word
  written_out i h out =
      let t : (nat_le a i && nat_lt i (a + n)) ≡ false = elim out [ inl l ↦ grind (arith, nat_tests) | inr g ↦ grind (arith, nat_tests) ] in
      let v : cell_with_word cells a n w i ≡ get_or cells i 0 = rw t refl in
      written_at i h ∙ v

  -- a list is the written one where its cells are
  pub written_is : (new : List ℕ) → length new ≡ length cells
      → ((i : ℕ) → i < length cells → a ≤ i → i < a + n → get_or new i 0 ≡ six w (i - a))
      → ((i : ℕ) → i < length cells → (i < a) ⊎ (a + n ≤ i) → get_or new i 0 ≡ get_or cells i 0)
      → new ≡ core_with_word cells a n w
  written_is new long inside outside =
      ext_get_or 0 new (core_with_word cells a n w) (long ∙ sym length_written)
      (λ i h.
      let hc : i < length cells = rw (← long) h in
      elim (cases_lt i a) [
        | inl l ↦ outside i hc (inl l) ∙ sym (written_out i hc (inl l))
        | inr g ↦
            elim (cases_lt i (a + n)) [
              | inl l ↦ inside i hc g l ∙ sym (written_in i hc g l)
              | inr past ↦ outside i hc (inr past) ∙ sym (written_out i hc (inr past))
            ]
      ])

-- nothing has been written yet
pub written_none : (cells : List ℕ) (a n w : ℕ) → n ≡ 0 → cells ≡ core_with_word cells a n w
written_none cells a n w none =
    written_is cells a n w cells refl (λ i h low high. absurd (omega arith)) (λ i h out. refl)

-- cells that were written in two pieces
module _ (cells : List ℕ) (a low m w : ℕ) where
  abbrev first : List ℕ
  first = core_with_word cells a low w

  pub written_two : core_with_word first (a + low) m (w / 2 ^ (6 * low)) ≡ core_with_word cells a (low + m) w
  written_two =
      let l = length_written cells a low w in
      let rest = w / 2 ^ (6 * low) in
      written_is cells a (low + m) w (core_with_word first (a + low) m rest) (length_written first (a + low) m rest ∙ l)
      (λ i h from_a to_end.
      let hc : i < length first = rw l h in
      elim (cases_lt i (a + low)) [
        | inl less ↦ written_out first (a + low) m rest i hc (inl less) ∙ written_in cells a low w i h from_a less
        | inr g ↦
            let e : low + (i - (a + low)) ≡ i - a = omega arith in
            written_in first (a + low) m rest i hc g (omega arith) ∙ six_of_high w low (i - (a + low)) ∙ ap (λ k. six w k) e
      ])
      (λ i h out.
      let hc : i < length first = rw l h in
      written_out first (a + low) m rest i hc (elim out [ inl x ↦ inl (omega arith) | inr x ↦ inr (omega arith) ])
      ∙ written_out cells a low w i h (elim out [ inl x ↦ inl x | inr x ↦ inr (omega arith) ]))

-- cells of one word
module _ (ws : List ℕ) (i j n w : ℕ) (inside : i < length ws) (within : j + n ≤ 10) where
  abbrev part : ℕ
  part = with_part (get_or ws i 0) j n w

  pub part_written : cells_of (set ws i part) ≡ core_with_word (cells_of ws) (10 * i + j) n w
  part_written =
      let l = length_cells ws in
      set_word ws i part inside
      ∙ written_is (cells_of ws) (10 * i + j) n w (with_word (cells_of ws) i part) (length_word (cells_of ws) i part)
      (λ a h from_a to_end.
      let e : a % 10 ≡ j + (a - (10 * i + j)) = omega arith in
      word_in (cells_of ws) i part a (j + (a - (10 * i + j))) h (omega arith) e ∙ part_within (get_or ws i 0) j n w (a - (10 * i + j)) (omega arith))
      (λ a h out.
      elim (cases_eq (a / 10) i) [
        | inl e ↦
            word_in (cells_of ws) i part a (a % 10) h e refl
            ∙ part_others (get_or ws i 0) j n w (a % 10) (elim out [ inl x ↦ inl (omega arith) | inr x ↦ inr (omega arith) ])
            ∙ sym (cells_at ws a i (a % 10) (omega arith) inside (omega arith))
        | inr ne ↦ word_out (cells_of ws) i part a h ne
      ])

-- all cells of one word
module _ (ws : List ℕ) (i w : ℕ) (inside : i < length ws) where
  abbrev whole : ℕ
  whole = w % 2 ^ 60

  pub word_written : cells_of (set ws i whole) ≡ core_with_word (cells_of ws) (10 * i) 10 w
  word_written =
      set_word ws i whole inside
      ∙ written_is (cells_of ws) (10 * i) 10 w (with_word (cells_of ws) i whole) (length_word (cells_of ws) i whole)
      (λ a h from_a to_end.
      let e : a % 10 ≡ a - 10 * i = omega arith in
      word_in (cells_of ws) i whole a (a - 10 * i) h (omega arith) e ∙ six_of_low w 10 (a - 10 * i) (omega arith))
      (λ a h out.
      word_out (cells_of ws) i whole a h (λ e. elim out [ inl x ↦ omega arith | inr x ↦ omega arith ]))

-- cells that were written as they stood elsewhere are copied
pub written_copied : (cells : List ℕ) (to from n w : ℕ) → ((j : ℕ) → j < n → six w j ≡ get_or cells (from + j) 0) → core_with_word cells to n w ≡ core_after_copy cells to from n
written_copied cells to from n w read =
    copied_is cells to from n (core_with_word cells to n w) (length_written cells to n w)
    (λ a h low high. written_in cells to n w a h low high ∙ read (a - to) (omega arith))
    (λ a h out. written_out cells to n w a h out)
