-- Core in which each cell holds a digit: what is stored, copied and taken into it.
use Rattle.std.proofs.Common.{ℕ, ◌≡◌, ◌+◌, ◌-◌, ◌<◌, ◌≤◌, Bool, true, false, true≢false, not, inl, inr, List, length, ◌++◌, take, drop, get_or, set, replicate, nat_le, ◌^◌, None, refl, sym, ◌∙◌, ap, arith}
use Rattle.std.specs.Prelude.{IsTrue, count_ones, ◌%◌, ◌==◌, if◌then◌else◌}
use Rattle.std.specs.List.{All}
use Rattle.std.proofs.lemmas.Bool.{cases_lt}
use Rattle.std.proofs.lemmas.Bool.Decides.{nat_tests}
use Rattle.std.proofs.lemmas.List.Elements.{All-get_or, All-from_get_or, All-replicate, All-set}
use lib.Count.{ones}
use Rattle.digit_core.specs.declared.Digit.{Digit}
use Rattle.digit_core.specs.Cell.{is_cell_value, value_in, IsGood, cell}
use Rattle.digit_core.specs.Copied.{core_after_copy}
use Rattle.digit_core.specs.Packed.{cells_of, IsPacked, IsTableKnown}
use Rattle.digit_core.specs.declared.standard_tables.AddTable.{AddTable}
use Rattle.digit_core.specs.Mixed.{core_mixture}
use Rattle.digit_core.specs.Search.{is_bad_cell, first_bad, IsSound}
use Rattle.digit_core.specs.Within.{AreGoodUpTo}
use Rattle.digit_core.specs.Written.{core_with_word}
use Rattle.digit_core.proofs.Below.{same_below}
use Rattle.digit_core.proofs.Digits.{digit, below_16}
use Rattle.digit_core.proofs.TakenCells.{length_mixed, mixed_in, mixed_out}
use Rattle.digit_core.proofs.Moving.{all_taken, length_copied, copied_in, copied_out}
use Rattle.digit_core.proofs.Passing.{up_all, down_all}
use Rattle.digit_core.proofs.Writing.{length_written, written_in, written_out}

-- whether the cell of a digit is bad, at the values that a cell can hold
abbrev bad_value : Bool → ℕ → Bool
bad_value flag value = if is_cell_value value then is_bad_cell (cell (digit flag value)) else false

each : (flag : Bool) (v : ℕ) → v < 16 → bad_value flag v ≡ false
unfolding cell ones
each true v below = same_below (bad_value true) (λ v. false) 16 v false refl below
each false v below = same_below (bad_value false) (λ v. false) 16 v false refl below

-- the cell of a good digit is not bad
pub good_cell : (d : Digit) → IsGood d → is_bad_cell (cell d) ≡ false
good_cell d good =
    ap (λ (b : Bool). if b then is_bad_cell (cell d) else false) (sym good) ∙ each d.flag d.value (below_16 d.value good)

-- and a cell that is not bad has the value of a good digit
value_tested : (even good : Bool) → (if even then true else not good) ≡ false → good ≡ true
value_tested true good none = absurd (true≢false none)
value_tested false true none = refl
value_tested false false none = absurd (true≢false none)

pub good_value : (c : ℕ) → is_bad_cell c ≡ false → IsTrue (is_cell_value (value_in c))
good_value c good = value_tested (count_ones c % 2 == 0) (is_cell_value (value_in c)) good

-- the zeros at power on are not bad
pub zeros_sound : (n : ℕ) → IsSound (replicate n 32)
unfolding ones
zeros_sound n = All-replicate (λ c. is_bad_cell c ≡ false) n 32 refl

-- where no cell is bad, none is found
pub none_bad : (cells : List ℕ) (a b : ℕ) → a < length cells → b < length cells → IsSound cells → None ≡ first_bad cells a b
none_bad cells a b a_in b_in sound =
    elim (cases_lt b a) [
      | inl l ↦
          let t : nat_le a b ≡ false = grind (arith, nat_tests) in
          rw t (sym (down_all is_bad_cell cells (a + 1) (a + 1 - b) (omega arith) (λ k from_here to_there. All-get_or (λ c. is_bad_cell c ≡ false) cells k 0 (omega arith) sound)))
      | inr g ↦
          let t : nat_le a b ≡ true = grind (arith, nat_tests) in
          rw t (sym (up_all is_bad_cell cells a (b + 1 - a) (λ k from_here to_there. All-get_or (λ c. is_bad_cell c ≡ false) cells k 0 (omega arith) sound)))
    ]

module _ (cells : List ℕ) (sound : IsSound cells) where
  here : (a : ℕ) → a < length cells → is_bad_cell (get_or cells a 0) ≡ false
  here a h = All-get_or (λ c. is_bad_cell c ≡ false) cells a 0 h sound

  pub stored_sound : (a c : ℕ) → is_bad_cell c ≡ false → IsSound (set cells a c)
  stored_sound a c good = All-set (λ x. is_bad_cell x ≡ false) cells a c good sound

  pub written_sound : (a n w : ℕ) → AreGoodUpTo w n → IsSound (core_with_word cells a n w)
  written_sound a n w good =
      let l = length_written cells a n w in
      All-from_get_or (λ c. is_bad_cell c ≡ false) (core_with_word cells a n w) 0
      (λ i h.
      let hc : i < length cells = omega arith in
      elim (cases_lt i a) [
        | inl less ↦ ap is_bad_cell (written_out cells a n w i hc (inl less)) ∙ here i hc
        | inr g ↦
            elim (cases_lt i (a + n)) [
              | inl less ↦ ap is_bad_cell (written_in cells a n w i hc g less) ∙ good (i - a) (omega arith)
              | inr past ↦ ap is_bad_cell (written_out cells a n w i hc (inr past)) ∙ here i hc
            ]
      ])

  pub copied_sound : (to from n : ℕ) → from + n ≤ length cells → IsSound (core_after_copy cells to from n)
  copied_sound to from n room =
      let l = length_copied cells to from n in
      All-from_get_or (λ c. is_bad_cell c ≡ false) (core_after_copy cells to from n) 0
      (λ i h.
      let hc : i < length cells = omega arith in
      elim (cases_lt i to) [
        | inl less ↦ ap is_bad_cell (copied_out cells to from n i hc (inl less)) ∙ here i hc
        | inr g ↦
            elim (cases_lt i (to + n)) [
              | inl less ↦ ap is_bad_cell (copied_in cells to from n i hc g less) ∙ here (from + (i - to)) (omega arith)
              | inr past ↦ ap is_bad_cell (copied_out cells to from n i hc (inr past)) ∙ here i hc
            ]
      ])

  pub mixed_sound : (other : List ℕ) (from to : ℕ) → length other ≡ length cells → IsSound other → IsSound (core_mixture cells other from to)
  mixed_sound other from to long others =
      let l = length_mixed cells other from to in
      All-from_get_or (λ c. is_bad_cell c ≡ false) (core_mixture cells other from to) 0
      (λ i h.
      let hc : i < length cells = omega arith in
      elim (cases_lt i from) [
        | inl less ↦ ap is_bad_cell (mixed_out cells other from to i hc (inl less)) ∙ here i hc
        | inr g ↦
            elim (cases_lt i to) [
              | inl less ↦ ap is_bad_cell (mixed_in cells other from to i hc g less) ∙ All-get_or (λ c. is_bad_cell c ≡ false) other i 0 (omega arith) others
              | inr past ↦ ap is_bad_cell (mixed_out cells other from to i hc (inr past)) ∙ here i hc
            ]
      ])

-- the words of a core once others stand in their place
pub repacked : (m n : ℕ) (ws new : List ℕ) (before sound : Bool) (seen table : AddTable) → IsPacked m ws before seen → length new ≡ n → length new ≡ length ws → All (λ w. w < 2 ^ 60) new
    → (sound ≡ true → IsSound (cells_of new)) → IsTableKnown table (cells_of new) → IsPacked m (take n (new ++ drop (length new) ws)) sound table
repacked m n ws new before sound seen table packed taken long sixty_bits is_sound is_known =
    rw (all_taken new ws n taken)
    (record { is_size = packed.is_size; is_length = long ∙ packed.is_length; sixty_bits = sixty_bits; is_sound = is_sound; is_known = is_known })
