-- A search within a word, by the cells of a word of ones.
use Rattle.std.proofs.Common.{ℕ, ◌≡◌, ◌≢◌, ◌+◌, ◌-◌, ◌*◌, ◌<◌, ◌≤◌, ◌⊎◌, Bool, true, false, inl, inr, List, get_or, Some, None, refl, sym, ◌∙◌, ap, arith, bit_and, bit_or}
use Rattle.std.proofs.lemmas.Bool.{cases_lt}
use Rattle.std.proofs.lemmas.Nat.{or_comm, le_or_l}
use Rattle.digit_core.specs.Packed.{six}
use Rattle.digit_core.specs.Search.{first_up, first_down, one_if}
use Rattle.digit_core.specs.Within.{IsLowest, IsHighest}
use Rattle.digit_core.proofs.Planes.{masked_one, masked_none}
use Rattle.digit_core.proofs.Passing.{up_found, up_all, down_found, down_all}

pub is_one : (b : Bool) (x : ℕ) → x ≡ one_if b → x ≡ 1 → b ≡ true
is_one true x is one = refl
is_one false x is one = absurd (omega arith)

pub no_ones : (b : Bool) (x : ℕ) → x ≡ one_if b → x ≢ 1 → b ≡ false
no_ones true x is none = absurd (none is)
no_ones false x is none = refl

module _ (p : ℕ → Bool) (cells : List ℕ) (i w ones mask from to : ℕ) (order : from ≤ to) (ten : to ≤ 10)
    (read : (j : ℕ) → j < 10 → six w j ≡ get_or cells (10 * i + j) 0)
    (each : (j : ℕ) → j < 10 → six ones j ≡ one_if (p (six w j)))
    (named : (j : ℕ) → from ≤ j → j < to → six mask j ≡ 1)
    (others : (j : ℕ) → j < 10 → (j < from) ⊎ (to ≤ j) → six mask j ≡ 0) where
  abbrev both : ℕ
  both = bit_and ones mask

  -- a cell that is 1 is asked for, and passes
  not_asked : (j : ℕ) → j < 10 → ((j < from) ⊎ (to ≤ j)) → six both j ≡ 0
  not_asked j h out = masked_none ones mask j (p (six w j)) (each j h) (others j h out)

  low : (j : ℕ) → j < 10 → six both j ≡ 1 → from ≤ j
  low j h one = elim (cases_lt j from) [ inl l ↦ absurd (omega (arith, not_asked j h (inl l))) | inr g ↦ g ]

  high : (j : ℕ) → j < 10 → six both j ≡ 1 → j < to
  high j h one = elim (cases_lt j to) [ inl l ↦ l | inr g ↦ absurd (omega (arith, not_asked j h (inr g))) ]

  passes : (j : ℕ) → j < 10 → six both j ≡ 1 → p (get_or cells (10 * i + j) 0) ≡ true
  passes j h one =
      ap p (sym (read j h)) ∙ is_one (p (six w j)) (six both j) (masked_one ones mask j (p (six w j)) (each j h) (named j (low j h one) (high j h one))) one

  -- one that is not, and is asked for, does not
  fails : (b : ℕ) → 10 * i + from ≤ b → b < 10 * i + to → six both (b - 10 * i) ≢ 1 → p (get_or cells b 0) ≡ false
  fails b from_here to_there none =
      let h : b - 10 * i < 10 = omega arith in
      let at : 10 * i + (b - 10 * i) ≡ b = omega arith in
      ap (λ x. p (get_or cells x 0)) (sym at) ∙ ap p (sym (read (b - 10 * i) h))
      ∙ no_ones (p (six w (b - 10 * i))) (six both (b - 10 * i)) (masked_one ones mask (b - 10 * i) (p (six w (b - 10 * i))) (each (b - 10 * i) h) (named (b - 10 * i) (omega arith) (omega arith))) none

  pub lowest_found : (j : ℕ) → IsLowest both j → Some (10 * i + j) ≡ first_up p cells (10 * i + from) (to - from)
  lowest_found j is =
      let l = low j is.ten is.one in
      let h = high j is.ten is.one in
      sym
      (up_found p cells (10 * i + from) (to - from) (10 * i + j) (omega arith) (omega arith)
      (λ b from_here before. fails b from_here (omega arith) (is.before (b - 10 * i) (omega arith)))
      (passes j is.ten is.one))

  pub lowest_none : ((j : ℕ) → j < 10 → six both j ≢ 1) → None ≡ first_up p cells (10 * i + from) (to - from)
  lowest_none none = sym (up_all p cells (10 * i + from) (to - from) (λ b from_here before. fails b from_here (omega arith) (none (b - 10 * i) (omega arith))))

  pub highest_found : (j : ℕ) → IsHighest both j → Some (10 * i + j) ≡ first_down p cells (10 * i + to) (to - from)
  highest_found j is =
      let l = low j is.ten is.one in
      let h = high j is.ten is.one in
      sym
      (down_found p cells (10 * i + to) (to - from) (10 * i + j) (omega arith) (omega arith) (omega arith)
      (λ b above to_there. fails b (omega arith) to_there (is.above (b - 10 * i) (omega arith) (omega arith)))
      (passes j is.ten is.one))

  pub highest_none : ((j : ℕ) → j < 10 → six both j ≢ 1) → None ≡ first_down p cells (10 * i + to) (to - from)
  highest_none none = sym (down_all p cells (10 * i + to) (to - from) (omega arith) (λ b from_here to_there. fails b (omega arith) to_there (none (b - 10 * i) (omega arith))))

-- no one in either of two words
pub or_none : (x y : ℕ) → bit_or x y ≡ 0 → x ≡ 0
or_none x y none = omega (arith, le_or_l x y)

-- none in one word more
pub none_more : (p : ℕ → Bool) (cells : List ℕ) (i k all w hints : ℕ)
    → ((j : ℕ) → j < 10 → six w j ≡ get_or cells (10 * (i + k) + j) 0)
    → (hints ≡ 0 → (j : ℕ) → j < 10 → p (six w j) ≡ false)
    → (all ≡ 0 → (j : ℕ) → j < 10 * k → p (get_or cells (10 * i + j) 0) ≡ false)
    → bit_or all hints ≡ 0 → (j : ℕ) → j < 10 * (k + 1) → p (get_or cells (10 * i + j) 0) ≡ false
none_more p cells i k all w hints read each before none j below =
    elim (cases_lt j (10 * k)) [
      | inl l ↦ before (or_none all hints none) j l
      | inr g ↦
          let h : j - 10 * k < 10 = omega arith in
          let at : 10 * (i + k) + (j - 10 * k) ≡ 10 * i + j = omega arith in
          ap (λ x. p (get_or cells x 0)) (sym at) ∙ ap p (sym (read (j - 10 * k) h)) ∙ each (or_none hints all (or_comm hints all ∙ none)) (j - 10 * k) h
    ]
