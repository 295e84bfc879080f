-- What is known of the add table once cells have been stored, and what its words say of it.
use Rattle.std.proofs.Common.{ℕ, ◌≡◌, ◌+◌, ◌<◌, ◌≤◌, ◌⊎◌, ◌&&◌, inl, inr, nat_lt, true, false, List, length, get_or, set, sym, ◌∙◌, arith}
use Rattle.std.proofs.lemmas.Bool.{cases_lt}
use Rattle.std.proofs.lemmas.Bool.Decides.{nat_tests}
use Rattle.std.proofs.lemmas.List.{get_or-set_other}
use Rattle.digit_core.specs.declared.standard_tables.AddTable.{AddTable}
use Rattle.digit_core.specs.declared.standard_tables.AddTable.TheVariants.{Unseen, Standard, Other}
use Rattle.digit_core.specs.Packed.{IsTableKnown, note_store}
use Rattle.digit_core.specs.Standard.{HasAddTable}
use Rattle.digit_core.specs.Written.{core_with_word}
use Rattle.digit_core.proofs.Writing.{written_out}

-- it is as it was where its own cells are
known_same : (table : AddTable) (cells new : List ℕ) → ((a : ℕ) → 300 ≤ a → a < 400 → get_or new a 0 ≡ get_or cells a 0) → IsTableKnown table cells → IsTableKnown table new
unfolding IsTableKnown
known_same Unseen cells new same known = tt
known_same Standard cells new same known = λ a low high. same a low high ∙ known a low high
known_same Other cells new same known = λ is. known (λ a low high. sym (same a low high) ∙ is a low high)

-- nothing is known
pub none_known : (cells : List ℕ) → IsTableKnown Unseen cells
unfolding IsTableKnown
none_known cells = tt

-- the standard one, or another
pub standard_known : (cells : List ℕ) → IsTableKnown Standard cells → HasAddTable cells
unfolding IsTableKnown
standard_known cells known = known

pub known_standard : (cells : List ℕ) → HasAddTable cells → IsTableKnown Standard cells
unfolding IsTableKnown
known_standard cells is = is

pub other_known : (cells : List ℕ) → IsTableKnown Other cells → HasAddTable cells → ⊥
unfolding IsTableKnown
other_known cells known = known

pub known_other : (cells : List ℕ) → (HasAddTable cells → ⊥) → IsTableKnown Other cells
unfolding IsTableKnown
known_other cells is = is

module _ (table : AddTable) (cells : List ℕ) (known : IsTableKnown table cells) where
  -- no cell has changed but some of ten
  known_apart : (a : ℕ) (new : List ℕ) → ((b : ℕ) → b < 400 → (b < a) ⊎ (a + 10 ≤ b) → get_or new b 0 ≡ get_or cells b 0) → IsTableKnown (note_store table a) new
  known_apart a new same =
      elim (cases_lt 290 a) [
        | inl past ↦
            elim (cases_lt a 400) [
              | inl before ↦ let t : (nat_lt 290 a && nat_lt a 400) ≡ true = grind (arith, nat_tests) in rw t (none_known new)
              | inr behind ↦
                  let t : (nat_lt 290 a && nat_lt a 400) ≡ false = grind (arith, nat_tests) in
                  rw t (known_same table cells new (λ b low high. same b high (inl (omega (arith, behind, high)))) known)
            ]
        | inr below ↦
            let t : (nat_lt 290 a && nat_lt a 400) ≡ false = grind (arith, nat_tests) in
            rw t (known_same table cells new (λ b low high. same b high (inr (omega (arith, below, low)))) known)
      ]

  pub stored_known : (a c : ℕ) → IsTableKnown (note_store table a) (set cells a c)
  stored_known a c =
      known_apart a (set cells a c)
      (λ b high out. get_or-set_other cells a b c 0 (λ e. elim out [ inl l ↦ absurd (omega (arith, e, l)) | inr g ↦ absurd (omega (arith, e, g)) ]))

  pub written_known : (a n w : ℕ) → n ≤ 10 → 400 ≤ length cells → IsTableKnown (note_store table a) (core_with_word cells a n w)
  written_known a n w few long =
      known_apart a (core_with_word cells a n w)
      (λ b high out. written_out cells a n w b (omega (arith, high, long)) (elim out [ inl l ↦ inl l | inr g ↦ inr (omega (arith, g, few)) ]))
