-- Cells that have been copied so far, and some more.
use Rattle.std.proofs.Common.{ℕ, ◌≡◌, ◌≢◌, ◌+◌, ◌-◌, ◌*◌, ◌/◌, ◌%◌, ◌<◌, ◌≤◌, ◌==◌, ◌&&◌, ◌⊎◌, true, false, inl, inr, List, length, ◌++◌, take, drop, get_or, refl, sym, ◌∙◌, ap, arith, nat_le, nat_lt}
use Rattle.std.proofs.lemmas.List.{ext_get_or, take-append-le, take_all}
use Rattle.std.proofs.lemmas.List.FromFn.{get_or-map-range_with_len, length-map-range_with_len}
use Rattle.std.proofs.lemmas.Bool.{cases_lt}
use Rattle.std.proofs.lemmas.Bool.Decides.{nat_tests}
use Rattle.digit_core.specs.Packed.{six}
use Rattle.digit_core.specs.Copied.{cell_after_copy, core_after_copy}
use Rattle.digit_core.proofs.OneWord.{word_cell, with_word}

-- a word that was replaced: its cells and the others
module _ (cells : List ℕ) (i w : ℕ) where
  pub length_word : length (with_word cells i w) ≡ length cells
  unfolding with_word
  length_word = length-map-range_with_len (word_cell cells i w) 0 (length cells)

  word_at_cell : (a : ℕ) → a < length cells → get_or (with_word cells i w) a 0 ≡ word_cell cells i w a
  unfolding with_word
  word_at_cell a h = get_or-map-range_with_len (word_cell cells i w) 0 (length cells) a a 0 h (omega arith)

  pub word_in : (a j : ℕ) → a < length cells → a / 10 ≡ i → a % 10 ≡ j → get_or (with_word cells i w) a 0 ≡ six w j
  unfolding word_cell
  word_in a j h e f =
      let t : (a / 10 == i) ≡ true = grind (arith, nat_tests) in
      let v : word_cell cells i w a ≡ six w (a % 10) = rw t refl in
      word_at_cell a h ∙ v ∙ ap (λ x. six w x) f

  pub word_out : (a : ℕ) → a < length cells → a / 10 ≢ i → get_or (with_word cells i w) a 0 ≡ get_or cells a 0
  unfolding word_cell
  word_out a h ne =
      let t : (a / 10 == i) ≡ false = grind (arith, nat_tests) in
      let v : word_cell cells i w a ≡ get_or cells a 0 = rw t refl in
      word_at_cell a h ∙ v

module _ (cells : List ℕ) (to from n : ℕ) where
  pub length_copied : length (core_after_copy cells to from n) ≡ length cells
  unfolding core_after_copy
  length_copied = length-map-range_with_len (cell_after_copy cells to from n) 0 (length cells)

  copied_at : (a : ℕ) → a < length cells → get_or (core_after_copy cells to from n) a 0 ≡ cell_after_copy cells to from n a
  unfolding core_after_copy
  copied_at a h = get_or-map-range_with_len (cell_after_copy cells to from n) 0 (length cells) a a 0 h (omega arith)

  pub copied_in : (a : ℕ) → a < length cells → to ≤ a → a < to + n → get_or (core_after_copy cells to from n) a 0 ≡ get_or cells (from + (a - to)) 0
  unfolding cell_after_copy
  copied_in a h low high =
      let t : (nat_le to a && nat_lt a (to + n)) ≡ true = grind (arith, nat_tests) in
      let v : cell_after_copy cells to from n a ≡ get_or cells (from + (a - to)) 0 = rw t refl in
      copied_at a h ∙ v

  pub copied_out : (a : ℕ) → a < length cells → (a < to) ⊎ (to + n ≤ a) → get_or (core_after_copy cells to from n) a 0 ≡ get_or cells a 0
  unfolding cell_after_copy
  copied_out a h out =
      let t : (nat_le to a && nat_lt a (to + n)) ≡ false = elim out [ inl l ↦ grind (arith, nat_tests) | inr g ↦ grind (arith, nat_tests) ] in
      let v : cell_after_copy cells to from n a ≡ get_or cells a 0 = rw t refl in
      copied_at a h ∙ v

  -- a list is the copied one where its cells are
  pub copied_is : (new : List ℕ) → length new ≡ length cells
      → ((a : ℕ) → a < length cells → to ≤ a → a < to + n → get_or new a 0 ≡ get_or cells (from + (a - to)) 0)
      → ((a : ℕ) → a < length cells → (a < to) ⊎ (to + n ≤ a) → get_or new a 0 ≡ get_or cells a 0)
      → new ≡ core_after_copy cells to from n
  copied_is new long inside outside =
      ext_get_or 0 new (core_after_copy cells to from n) (long ∙ sym length_copied)
      (λ a h.
      let hc : a < length cells = rw (← long) h in
      elim (cases_lt a to) [
        | inl l ↦ outside a hc (inl l) ∙ sym (copied_out a hc (inl l))
        | inr g ↦
            elim (cases_lt a (to + n)) [
              | inl l ↦ inside a hc g l ∙ sym (copied_in a hc g l)
              | inr past ↦ outside a hc (inr past) ∙ sym (copied_out a hc (inr past))
            ]
      ])

-- nothing has been copied yet
pub copied_none : (cells : List ℕ) (to from n : ℕ) → n ≡ 0 → cells ≡ core_after_copy cells to from n
copied_none cells to from n none =
    copied_is cells to from n cells refl (λ a h low high. absurd (omega arith)) (λ a h out. refl)

-- r cells more, upwards: what is read has not been stored over
module _ (cells new : List ℕ) (to from k r : ℕ) (order : to ≤ from) (room : from + k + r ≤ length cells) (long : length new ≡ length cells)
    (now : (j : ℕ) → j < r → get_or new (to + k + j) 0 ≡ get_or (core_after_copy cells to from k) (from + k + j) 0)
    (others : (a : ℕ) → a < length cells → (a < to + k) ⊎ (to + k + r ≤ a) → get_or new a 0 ≡ get_or (core_after_copy cells to from k) a 0) where
  pub grow_up : new ≡ core_after_copy cells to from (k + r)
  grow_up =
      copied_is cells to from (k + r) new long
      (λ a h low high.
      elim (cases_lt a (to + k)) [
        | inl l ↦ others a h (inl l) ∙ copied_in cells to from k a h low l
        | inr g ↦
            let e : to + k + (a - (to + k)) ≡ a = omega arith in
            let f : from + k + (a - (to + k)) ≡ from + (a - to) = omega arith in
            let s = now (a - (to + k)) (omega arith) in
            let t : get_or new a 0 ≡ get_or (core_after_copy cells to from k) (from + (a - to)) 0 = rw (e, f) at s in
            t ∙ copied_out cells to from k (from + (a - to)) (omega arith) (inr (omega arith))
      ])
      (λ a h out.
      elim out [
        | inl l ↦ others a h (inl (omega arith)) ∙ copied_out cells to from k a h (inl l)
        | inr g ↦ others a h (inr (omega arith)) ∙ copied_out cells to from k a h (inr (omega arith))
      ])

-- r cells more, downwards
module _ (cells new : List ℕ) (to from r m : ℕ) (order : from ≤ to) (room : to + r + m ≤ length cells) (long : length new ≡ length cells)
    (now : (j : ℕ) → j < r → get_or new (to + j) 0 ≡ get_or (core_after_copy cells (to + r) (from + r) m) (from + j) 0)
    (others : (a : ℕ) → a < length cells → (a < to) ⊎ (to + r ≤ a) → get_or new a 0 ≡ get_or (core_after_copy cells (to + r) (from + r) m) a 0) where
  pub grow_down : new ≡ core_after_copy cells to from (r + m)
  grow_down =
      copied_is cells to from (r + m) new long
      (λ a h low high.
      elim (cases_lt a (to + r)) [
        | inl l ↦
            let e : to + (a - to) ≡ a = omega arith in
            let s = now (a - to) (omega arith) in
            let t : get_or new a 0 ≡ get_or (core_after_copy cells (to + r) (from + r) m) (from + (a - to)) 0 = rw e at s in
            t ∙ copied_out cells (to + r) (from + r) m (from + (a - to)) (omega arith) (inl (omega arith))
        | inr g ↦
            let e : from + r + (a - (to + r)) ≡ from + (a - to) = omega arith in
            others a h (inr g) ∙ copied_in cells (to + r) (from + r) m a h g (omega arith) ∙ ap (λ x. get_or cells x 0) e
      ])
      (λ a h out.
      elim out [
        | inl l ↦ others a h (inl l) ∙ copied_out cells (to + r) (from + r) m a h (inl (omega arith))
        | inr g ↦ others a h (inr (omega arith)) ∙ copied_out cells (to + r) (from + r) m a h (inr (omega arith))
      ])

-- a word more, upwards
module _ (cells : List ℕ) (i from t : ℕ) (order : 10 * i ≤ from) where
  abbrev up_to : List ℕ
  up_to = core_after_copy cells (10 * i) from (10 * t)

  pub word_up : (w : ℕ) → from + 10 * t + 10 ≤ length cells → ((j : ℕ) → j < 10 → six w j ≡ get_or up_to (from + 10 * t + j) 0) → with_word up_to (i + t) w ≡ core_after_copy cells (10 * i) from (10 * (t + 1))
  word_up w room read =
      let l = length_copied cells (10 * i) from (10 * t) in
      let n : 10 * t + 10 ≡ 10 * (t + 1) = omega arith in
      grow_up cells (with_word up_to (i + t) w) (10 * i) from (10 * t) 10 order room (length_word up_to (i + t) w ∙ l)
      (λ j h. word_in up_to (i + t) w (10 * i + 10 * t + j) j (omega arith) (omega arith) (omega arith) ∙ read j h)
      (λ a h out. word_out up_to (i + t) w a (omega arith) (elim out [ inl l ↦ omega arith | inr g ↦ omega arith ]))
      ∙ ap (λ x. core_after_copy cells (10 * i) from x) n

-- a word more, downwards: those from word number t on have been copied
module _ (cells : List ℕ) (i from t count : ℕ) (order : from ≤ 10 * i) (some : t < count) where
  abbrev from_on : ℕ → List ℕ
  from_on x = core_after_copy cells (10 * i + 10 * x) (from + 10 * x) (10 * (count - x))

  pub word_down : (w : ℕ) → 10 * i + 10 * count ≤ length cells → ((j : ℕ) → j < 10 → six w j ≡ get_or (from_on (t + 1)) (from + 10 * t + j) 0) → with_word (from_on (t + 1)) (i + t) w ≡ from_on t
  word_down w room read =
      let l = length_copied cells (10 * i + 10 * (t + 1)) (from + 10 * (t + 1)) (10 * (count - (t + 1))) in
      let to_more : 10 * i + 10 * (t + 1) ≡ 10 * i + 10 * t + 10 = omega arith in
      let from_more : from + 10 * (t + 1) ≡ from + 10 * t + 10 = omega arith in
      let n : 10 + 10 * (count - (t + 1)) ≡ 10 * (count - t) = omega arith in
      let same : from_on (t + 1) ≡ core_after_copy cells (10 * i + 10 * t + 10) (from + 10 * t + 10) (10 * (count - (t + 1))) = ap (λ x. core_after_copy cells x (from + 10 * (t + 1)) (10 * (count - (t + 1)))) to_more ∙ ap (λ x. core_after_copy cells (10 * i + 10 * t + 10) x (10 * (count - (t + 1)))) from_more in
      grow_down cells (with_word (from_on (t + 1)) (i + t) w) (10 * i + 10 * t) (from + 10 * t) 10 (10 * (count - (t + 1))) (omega arith) (omega arith) (length_word (from_on (t + 1)) (i + t) w ∙ l)
      (λ j h. word_in (from_on (t + 1)) (i + t) w (10 * i + 10 * t + j) j (omega arith) (omega arith) (omega arith) ∙ read j h ∙ ap (λ xs. get_or xs (from + 10 * t + j) 0) same)
      (λ a h out. word_out (from_on (t + 1)) (i + t) w a (omega arith) (elim out [ inl x ↦ omega arith | inr x ↦ omega arith ]) ∙ ap (λ xs. get_or xs a 0) same)
      ∙ ap (λ x. core_after_copy cells (10 * i + 10 * t) (from + 10 * t) x) n

-- two copies, one next to the other, that make one
pub copied_up : (cells : List ℕ) (to from k r : ℕ) → to ≤ from → from + k + r ≤ length cells → core_after_copy (core_after_copy cells to from k) (to + k) (from + k) r ≡ core_after_copy cells to from (k + r)
copied_up cells to from k r order room =
    let first = core_after_copy cells to from k in
    let l = length_copied cells to from k in
    grow_up cells (core_after_copy (core_after_copy cells to from k) (to + k) (from + k) r) to from k r order room (length_copied (core_after_copy cells to from k) (to + k) (from + k) r ∙ l)
    (λ j h.
    let e : from + k + (to + k + j - (to + k)) ≡ from + k + j = omega arith in
    copied_in (core_after_copy cells to from k) (to + k) (from + k) r (to + k + j) (omega arith) (omega arith) (omega arith) ∙ ap (λ x. get_or (core_after_copy cells to from k) x 0) e)
    (λ a h out. copied_out (core_after_copy cells to from k) (to + k) (from + k) r a (omega arith) out)

pub copied_down : (cells : List ℕ) (to from r m : ℕ) → from ≤ to → to + r + m ≤ length cells → core_after_copy (core_after_copy cells (to + r) (from + r) m) to from r ≡ core_after_copy cells to from (r + m)
copied_down cells to from r m order room =
    let l = length_copied cells (to + r) (from + r) m in
    grow_down cells (core_after_copy (core_after_copy cells (to + r) (from + r) m) to from r) to from r m order room (length_copied (core_after_copy cells (to + r) (from + r) m) to from r ∙ l)
    (λ j h.
    let e : from + (to + j - to) ≡ from + j = omega arith in
    copied_in (core_after_copy cells (to + r) (from + r) m) to from r (to + j) (omega arith) (omega arith) (omega arith) ∙ ap (λ x. get_or (core_after_copy cells (to + r) (from + r) m) x 0) e)
    (λ a h out. copied_out (core_after_copy cells (to + r) (from + r) m) to from r a (omega arith) out)

-- words that all stand in a list's place
pub all_taken : (new old : List ℕ) (n : ℕ) → length new ≡ n → take n (new ++ drop (length new) old) ≡ new
all_taken new old n long = take-append-le n new (drop (length new) old) (omega arith) ∙ take_all n new (omega arith)
