-- Cells that were taken from another core, and words that are the same.
use Rattle.std.proofs.Common.{ℕ, ◌≡◌, ◌+◌, ◌*◌, ◌/◌, ◌%◌, ◌<◌, ◌≤◌, ◌⊎◌, ◌&&◌, true, false, inl, inr, List, length, get_or, set, refl, sym, ◌∙◌, ap, arith, nat_le, nat_lt}
use Rattle.std.proofs.lemmas.List.{ext_get_or, get_or_past}
use Rattle.std.proofs.lemmas.List.FromFn.{get_or-map-range_with_len, length-map-range_with_len}
use Rattle.std.proofs.lemmas.Bool.{cases_lt}
use Rattle.std.proofs.lemmas.Bool.Decides.{nat_tests}
use Rattle.digit_core.specs.Packed.{six, cells_of}
use Rattle.digit_core.specs.Mixed.{AgreeOutside, cell_of_mixture, core_mixture}
use Rattle.digit_core.proofs.OneWord.{with_word}
use Rattle.digit_core.proofs.Sixes.{length_cells}
use Rattle.digit_core.proofs.Packing.{cells_at, set_word}
use Rattle.digit_core.proofs.Moving.{length_word, word_in, word_out}

module _ (cells other : List ℕ) (from to : ℕ) where
  pub length_mixed : length (core_mixture cells other from to) ≡ length cells
  unfolding core_mixture
  length_mixed = length-map-range_with_len (cell_of_mixture cells other from to) 0 (length cells)

  mixed_at : (a : ℕ) → a < length cells → get_or (core_mixture cells other from to) a 0 ≡ cell_of_mixture cells other from to a
  unfolding core_mixture
  mixed_at a h = get_or-map-range_with_len (cell_of_mixture cells other from to) 0 (length cells) a a 0 h (omega arith)

  pub mixed_in : (a : ℕ) → a < length cells → from ≤ a → a < to → get_or (core_mixture cells other from to) a 0 ≡ get_or other a 0
  unfolding cell_of_mixture
  mixed_in a h low high =
      let t : (nat_le from a && nat_lt a to) ≡ true = grind (arith, nat_tests) in
      let v : cell_of_mixture cells other from to a ≡ get_or other a 0 = rw t refl in
      mixed_at a h ∙ v

  pub mixed_out : (a : ℕ) → a < length cells → (a < from) ⊎ (to ≤ a) → get_or (core_mixture cells other from to) a 0 ≡ get_or cells a 0
  unfolding cell_of_mixture
  mixed_out a h out =
      let t : (nat_le from a && nat_lt a to) ≡ false = elim out [ inl l ↦ grind (arith, nat_tests) | inr g ↦ grind (arith, nat_tests) ] in
      let v : cell_of_mixture cells other from to a ≡ get_or cells a 0 = rw t refl in
      mixed_at a h ∙ v

  -- a list is the mixed one where its cells are
  pub mixed_is : (new : List ℕ) → length new ≡ length cells
      → ((a : ℕ) → a < length cells → from ≤ a → a < to → get_or new a 0 ≡ get_or other a 0)
      → ((a : ℕ) → a < length cells → (a < from) ⊎ (to ≤ a) → get_or new a 0 ≡ get_or cells a 0)
      → new ≡ core_mixture cells other from to
  mixed_is new long inside outside =
      ext_get_or 0 new (core_mixture cells other from to) (long ∙ sym length_mixed)
      (λ a h.
      let hc : a < length cells = rw (← long) h in
      elim (cases_lt a from) [
        | inl l ↦ outside a hc (inl l) ∙ sym (mixed_out a hc (inl l))
        | inr g ↦
            elim (cases_lt a to) [
              | inl l ↦ inside a hc g l ∙ sym (mixed_in a hc g l)
              | inr past ↦ outside a hc (inr past) ∙ sym (mixed_out a hc (inr past))
            ]
      ])

-- nothing has been taken yet
pub mixed_none : (cells other : List ℕ) (from : ℕ) → cells ≡ core_mixture cells other from from
mixed_none cells other from = mixed_is cells other from from cells refl (λ a h low high. absurd (omega arith)) (λ a h out. refl)

-- all that differs was taken
pub mixed_all : (cells other : List ℕ) (from to : ℕ) → length other ≡ length cells → AgreeOutside cells other from to → core_mixture cells other from to ≡ other
mixed_all cells other from to long agree = sym (mixed_is cells other from to other long (λ a h low high. refl) (λ a h out. sym (agree a out)))

-- what was kept of a core is put back
pub mixed_back : (cells other kept : List ℕ) (from to : ℕ) → length other ≡ length cells → length kept ≡ length cells → AgreeOutside cells other from to
    → core_mixture other (core_mixture kept cells from to) from to ≡ cells
mixed_back cells other kept from to long long_kept agree =
    sym (mixed_is other (core_mixture kept cells from to) from to cells (sym long)
    (λ a h low high. sym (mixed_in kept cells from to a (omega (arith, h, long, long_kept)) low high))
    (λ a h out. agree a out))

-- one word more was taken
pub mixed_word : (ws from : List ℕ) (old : List ℕ) (i k : ℕ) → i ≤ k → k < length ws → k < length from → length old ≡ length ws
    → cells_of ws ≡ core_mixture (cells_of old) (cells_of from) (10 * i) (10 * k)
    → cells_of (set ws k (get_or from k 0)) ≡ core_mixture (cells_of old) (cells_of from) (10 * i) (10 * (k + 1))
mixed_word ws from old i k order inside inside_from long is =
    let w = get_or from k 0 in
    let l : length (cells_of old) ≡ 10 * length old = length_cells old in
    let lw : length (cells_of ws) ≡ 10 * length ws = length_cells ws in
    set_word ws k w inside
    ∙ mixed_is (cells_of old) (cells_of from) (10 * i) (10 * (k + 1)) (with_word (cells_of ws) k w) (length_word (cells_of ws) k w ∙ omega (arith, l, lw, long))
    (λ a h low high.
    let hw : a < length (cells_of ws) = omega (arith, h, l, lw, long) in
    elim (cases_lt a (10 * k)) [
      | inl below ↦
          word_out (cells_of ws) k w a hw (λ e. absurd (omega (arith, e, below))) ∙ ap (λ (x : List ℕ). get_or x a 0) is
          ∙ mixed_in (cells_of old) (cells_of from) (10 * i) (10 * k) a h low below
      | inr here ↦
          word_in (cells_of ws) k w a (a % 10) hw (omega (arith, here, high)) refl
          ∙ sym (cells_at from a k (a % 10) (omega (arith, here, high)) inside_from (omega arith))
    ])
    (λ a h out.
    let hw : a < length (cells_of ws) = omega (arith, h, l, lw, long) in
    let other : (a < 10 * i) ⊎ (10 * k ≤ a) = elim out [ inl l ↦ inl l | inr g ↦ inr (omega (arith, g)) ] in
    word_out (cells_of ws) k w a hw (λ e. elim out [ inl l ↦ absurd (omega (arith, e, l, order)) | inr g ↦ absurd (omega (arith, e, g)) ])
    ∙ ap (λ (x : List ℕ). get_or x a 0) is ∙ mixed_out (cells_of old) (cells_of from) (10 * i) (10 * k) a h other)

-- words that are the same make cells that are the same
pub same_cells : (ws other : List ℕ) (lo hi : ℕ) → length ws ≡ length other → ((k : ℕ) → (k < lo) ⊎ (hi ≤ k) → get_or ws k 0 ≡ get_or other k 0)
    → AgreeOutside (cells_of ws) (cells_of other) (10 * lo) (10 * hi)
same_cells ws other lo hi long same a out =
    let l : length (cells_of ws) ≡ 10 * length ws = length_cells ws in
    let lo_same : length (cells_of other) ≡ 10 * length other = length_cells other in
    elim (cases_lt a (10 * length ws)) [
      | inl inside ↦
          let word : (a / 10 < lo) ⊎ (hi ≤ a / 10) = elim out [ inl low ↦ inl (omega (arith, low)) | inr high ↦ inr (omega (arith, high)) ] in
          cells_at ws a (a / 10) (a % 10) (omega arith) (omega (arith, inside)) (omega arith) ∙ ap (λ w. six w (a % 10)) (same (a / 10) word)
          ∙ sym (cells_at other a (a / 10) (a % 10) (omega arith) (omega (arith, inside, long)) (omega arith))
      | inr past ↦ get_or_past (cells_of ws) a 0 (omega (arith, past, l)) ∙ sym (get_or_past (cells_of other) a 0 (omega (arith, past, lo_same, long)))
    ]
