-- Cells that are written from a word, one more at a time.
use Rattle.std.proofs.Common.{ℕ, ◌≡◌, ◌+◌, ◌-◌, ◌<◌, ◌≤◌, refl, List, length, set, inl, inr, ◌∙◌, arith, length-set}
use Rattle.std.proofs.lemmas.List.{get_or-set_other, get_or-set_same}
use Rattle.std.proofs.lemmas.Bool.{cases_lt}
use Rattle.digit_core.specs.Packed.{six}
use Rattle.digit_core.specs.Written.{core_with_word}
use Rattle.digit_core.proofs.Writing.{length_written, written_in, written_out, written_is}

-- nothing has been written yet
pub written_none : (cells : List ℕ) (a w : ℕ) → cells ≡ core_with_word cells a 0 w
written_none cells a w = written_is cells a 0 w cells refl (λ i h low high. absurd (omega arith)) (λ i h out. refl)

-- one cell more
pub written_more : (cells : List ℕ) (a n w : ℕ) → a + n + 1 ≤ length cells → set (core_with_word cells a n w) (a + n) (six w n) ≡ core_with_word cells a (n + 1) w
written_more cells a n w room =
    let l = length_written cells a n w in
    let inside : a + n < length (core_with_word cells a n w) = omega arith in
    written_is cells a (n + 1) w (set (core_with_word cells a n w) (a + n) (six w n)) (length-set (core_with_word cells a n w) (a + n) (six w n) ∙ l)
    (λ i h low high.
    elim (cases_lt i (a + n)) [
      | inl less ↦ get_or-set_other (core_with_word cells a n w) (a + n) i (six w n) 0 (omega arith) ∙ written_in cells a n w i h low less
      | inr g ↦
          let e : i ≡ a + n = omega arith in
          let f : i - a ≡ n = omega arith in
          rw (f, e) (get_or-set_same (core_with_word cells a n w) (a + n) (six w n) 0 inside)
    ])
    (λ i h out.
    get_or-set_other (core_with_word cells a n w) (a + n) i (six w n) 0 (elim out [ inl x ↦ omega arith | inr x ↦ omega arith ]) ∙ written_out cells a n w i h (elim out [ inl x ↦ inl x | inr x ↦ inr (omega arith) ]))
