-- Searches that pass over many cells at once.
use Rattle.std.proofs.Common.{ℕ, zero, suc, ◌≡◌, ◌+◌, ◌-◌, ◌<◌, ◌≤◌, Bool, true, false, List, get_or, refl, sym, ◌∙◌, ap, arith, Option, Some, None, inl, inr}
use Rattle.std.specs.Prelude.{if◌then◌else◌}
use Rattle.std.proofs.lemmas.Bool.{cases_lt}
use Rattle.digit_core.specs.Search.{first_up, first_down}

-- what was found, or else what is found next
abbrev pub or_next : Option ℕ → Option ℕ → Option ℕ
or_next (Some e) next = Some e
or_next None next = next

module _ (p : ℕ → Bool) (cells : List ℕ) where
  -- no cell of the next m passes
  pub up_skip : (m a n : ℕ) → ((j : ℕ) → j < m → p (get_or cells (a + j) 0) ≡ false) → first_up p cells a (m + n) ≡ first_up p cells (a + m) n
  unfolding first_up
  up_skip zero a n none =
      let e : zero + n ≡ n = omega arith in
      let f : a ≡ a + 0 = omega arith in
      rw e (ap (λ x. first_up p cells x n) f)
  up_skip (suc m) a n none =
      let e : suc m + n ≡ suc (m + n) = omega arith in
      let z : a + 0 ≡ a = omega arith in
      let first = none 0 (omega arith) in
      let first_here = rw z at first in
      let f : a + 1 + m ≡ a + suc m = omega arith in
      let rest : (j : ℕ) → j < m → p (get_or cells (a + 1 + j) 0) ≡ false = (λ j h. let g : a + 1 + j ≡ a + (j + 1) = omega arith in rw g (none (j + 1) (omega arith))) in
      rw (e, first_here) (up_skip m (a + 1) n rest ∙ ap (λ x. first_up p cells x n) f)

  -- no cell of the m below passes
  pub down_skip : (m a n : ℕ) → m ≤ a → ((j : ℕ) → j < m → p (get_or cells (a - m + j) 0) ≡ false) → first_down p cells a (m + n) ≡ first_down p cells (a - m) n
  unfolding first_down
  down_skip zero a n room none =
      let e : zero + n ≡ n = omega arith in
      let f : a ≡ a - 0 = omega arith in
      rw e (ap (λ x. first_down p cells x n) f)
  down_skip (suc m) a n room none =
      let e : suc m + n ≡ suc (m + n) = omega arith in
      let z : a - suc m + m ≡ a - 1 = omega arith in
      let first = none m (omega arith) in
      let first_here = rw z at first in
      let f : a - 1 - m ≡ a - suc m = omega arith in
      let rest : (j : ℕ) → j < m → p (get_or cells (a - 1 - m + j) 0) ≡ false = (λ j h. rw f (none j (omega arith))) in
      rw (e, first_here) (down_skip m (a - 1) n (omega arith) rest ∙ ap (λ x. first_down p cells x n) f)

  -- the next cell passes, or does not
  pub up_here : (a n : ℕ) → 0 < n → p (get_or cells a 0) ≡ true → first_up p cells a n ≡ Some a
  unfolding first_up
  up_here a (suc n) some yes_it = rw yes_it
  up_here a zero none yes_it = absurd (omega arith)

  pub up_next : (a n : ℕ) → 0 < n → p (get_or cells a 0) ≡ false → first_up p cells a n ≡ first_up p cells (a + 1) (n - 1)
  unfolding first_up
  up_next a (suc n) some not_it = let e : suc n - 1 ≡ n = omega arith in rw (not_it, e)
  up_next a zero none not_it = absurd (omega arith)

  pub up_none : (a n : ℕ) → n ≡ 0 → first_up p cells a n ≡ None
  unfolding first_up
  up_none a n none = rw none

  pub down_here : (a n : ℕ) → 0 < n → p (get_or cells (a - 1) 0) ≡ true → first_down p cells a n ≡ Some (a - 1)
  unfolding first_down
  down_here a (suc n) some yes_it = rw yes_it
  down_here a zero none yes_it = absurd (omega arith)

  pub down_next : (a n : ℕ) → 0 < n → p (get_or cells (a - 1) 0) ≡ false → first_down p cells a n ≡ first_down p cells (a - 1) (n - 1)
  unfolding first_down
  down_next a (suc n) some not_it = let e : suc n - 1 ≡ n = omega arith in rw (not_it, e)
  down_next a zero none not_it = absurd (omega arith)

  pub down_none : (a n : ℕ) → n ≡ 0 → first_down p cells a n ≡ None
  unfolding first_down
  down_none a n none = rw none

  -- the cell that is found, and no other before it
  pub up_found : (a n e : ℕ) → a ≤ e → e < a + n → ((b : ℕ) → a ≤ b → b < e → p (get_or cells b 0) ≡ false) → p (get_or cells e 0) ≡ true → first_up p cells a n ≡ Some e
  up_found a n e low high before here =
      let m : n ≡ e - a + (n - (e - a)) = omega arith in
      let at : a + (e - a) ≡ e = omega arith in
      let skip = up_skip (e - a) a (n - (e - a)) (λ j h. before (a + j) (omega arith) (omega arith)) in
      ap (λ x. first_up p cells a x) m ∙ skip ∙ ap (λ x. first_up p cells x (n - (e - a))) at ∙ up_here e (n - (e - a)) (omega arith) here

  pub up_all : (a n : ℕ) → ((b : ℕ) → a ≤ b → b < a + n → p (get_or cells b 0) ≡ false) → first_up p cells a n ≡ None
  up_all a n none =
      let m : n ≡ n + 0 = omega arith in
      ap (λ x. first_up p cells a x) m ∙ up_skip n a 0 (λ j h. none (a + j) (omega arith) (omega arith)) ∙ up_none (a + n) 0 refl

  pub down_found : (a n e : ℕ) → n ≤ a → a - n ≤ e → e < a → ((b : ℕ) → e < b → b < a → p (get_or cells b 0) ≡ false) → p (get_or cells e 0) ≡ true → first_down p cells a n ≡ Some e
  down_found a n e room low high above here =
      let m : n ≡ a - (e + 1) + (n - (a - (e + 1))) = omega arith in
      let at : a - (a - (e + 1)) ≡ e + 1 = omega arith in
      let is : e + 1 - 1 ≡ e = omega arith in
      let skip = down_skip (a - (e + 1)) a (n - (a - (e + 1))) (omega arith) (λ j h. above (a - (a - (e + 1)) + j) (omega arith) (omega arith)) in
      ap (λ x. first_down p cells a x) m ∙ skip ∙ ap (λ x. first_down p cells x (n - (a - (e + 1)))) at
      ∙ down_here (e + 1) (n - (a - (e + 1))) (omega arith) (ap (λ x. p (get_or cells x 0)) is ∙ here) ∙ ap Some is

  pub down_all : (a n : ℕ) → n ≤ a → ((b : ℕ) → a - n ≤ b → b < a → p (get_or cells b 0) ≡ false) → first_down p cells a n ≡ None
  down_all a n room none =
      let m : n ≡ n + 0 = omega arith in
      ap (λ x. first_down p cells a x) m ∙ down_skip n a 0 room (λ j h. none (a - n + j) (omega arith) (omega arith)) ∙ down_none (a - n) 0 refl

  tested : (t : Bool) (e : ℕ) (x y z : Option ℕ) → x ≡ or_next y z → (if t then Some e else x) ≡ or_next (if t then Some e else y) z
  tested true e x y z is = refl
  tested false e x y z is = is

  -- a search in two pieces
  pub up_split : (m n a : ℕ) → first_up p cells a (m + n) ≡ or_next (first_up p cells a m) (first_up p cells (a + m) n)
  unfolding first_up
  up_split zero n a =
      let e : zero + n ≡ n = omega arith in
      let f : a ≡ a + 0 = omega arith in
      rw e (ap (λ x. first_up p cells x n) f)
  up_split (suc m) n a =
      let e : suc m + n ≡ suc (m + n) = omega arith in
      let f : a + 1 + m ≡ a + suc m = omega arith in
      rw e (tested (p (get_or cells a 0)) a _ _ _ (up_split m n (a + 1) ∙ ap (λ x. or_next (first_up p cells (a + 1) m) (first_up p cells x n)) f))

  pub down_split : (m n a : ℕ) → first_down p cells a (m + n) ≡ or_next (first_down p cells a m) (first_down p cells (a - m) n)
  unfolding first_down
  down_split zero n a =
      let e : zero + n ≡ n = omega arith in
      let f : a ≡ a - 0 = omega arith in
      rw e (ap (λ x. first_down p cells x n) f)
  down_split (suc m) n a =
      let e : suc m + n ≡ suc (m + n) = omega arith in
      let f : a - 1 - m ≡ a - suc m = omega arith in
      rw e (tested (p (get_or cells (a - 1) 0)) (a - 1) _ _ _ (down_split m n (a - 1) ∙ ap (λ x. or_next (first_down p cells (a - 1) m) (first_down p cells x n)) f))

  -- what is found in the first piece, or else in the second
  pub up_first : (a m n e : ℕ) → Some e ≡ first_up p cells a m → Some e ≡ first_up p cells a (m + n)
  up_first a m n e is = ap (λ x. or_next x (first_up p cells (a + m) n)) is ∙ sym (up_split m n a)

  pub up_second : (a m n : ℕ) → None ≡ first_up p cells a m → first_up p cells (a + m) n ≡ first_up p cells a (m + n)
  up_second a m n is = ap (λ x. or_next x (first_up p cells (a + m) n)) is ∙ sym (up_split m n a)

  pub down_first : (a m n e : ℕ) → Some e ≡ first_down p cells a m → Some e ≡ first_down p cells a (m + n)
  down_first a m n e is = ap (λ x. or_next x (first_down p cells (a - m) n)) is ∙ sym (down_split m n a)

  pub down_second : (a m n : ℕ) → None ≡ first_down p cells a m → first_down p cells (a - m) n ≡ first_down p cells a (m + n)
  down_second a m n is = ap (λ x. or_next x (first_down p cells (a - m) n)) is ∙ sym (down_split m n a)

-- where a search ends, and what it passed over
pub record FoundDown (p : ℕ → Bool) (cells : List ℕ) (a n e : ℕ) : Type 0 where
  pub low : a - n ≤ e
  pub high : e < a
  pub here : p (get_or cells e 0) ≡ true
  pub between : (b : ℕ) → e < b → b < a → p (get_or cells b 0) ≡ false

pub record FoundUp (p : ℕ → Bool) (cells : List ℕ) (a n e : ℕ) : Type 0 where
  pub low : a ≤ e
  pub high : e < a + n
  pub here : p (get_or cells e 0) ≡ true
  pub between : (b : ℕ) → a ≤ b → b < e → p (get_or cells b 0) ≡ false

-- none of these cells passes
abbrev pub NonePasses : (ℕ → Bool) → List ℕ → ℕ → ℕ → Type 0
NonePasses p cells a end = (b : ℕ) → a ≤ b → b < end → p (get_or cells b 0) ≡ false

-- what a search says by its answer
abbrev pub SaysDown : (ℕ → Bool) → List ℕ → ℕ → ℕ → Option ℕ → Type 0
SaysDown p cells a n (Some e) = FoundDown p cells a n e
SaysDown p cells a n None = NonePasses p cells (a - n) a

abbrev pub SaysUp : (ℕ → Bool) → List ℕ → ℕ → ℕ → Option ℕ → Type 0
SaysUp p cells a n (Some e) = FoundUp p cells a n e
SaysUp p cells a n None = NonePasses p cells a (a + n)

module _ (p : ℕ → Bool) (cells : List ℕ) where
  found_more_down : (a n : ℕ) (r : Option ℕ) → suc n ≤ a → p (get_or cells (a - 1) 0) ≡ false → SaysDown p cells (a - 1) n r → SaysDown p cells a (suc n) r
  found_more_down a n (Some e) room not_it s = record {
    low = (let l : a - 1 - n ≤ e = s.low in omega arith);
    high = (let h : e < a - 1 = s.high in omega arith);
    here = s.here;
    between = λ b l h.
        elim (cases_lt b (a - 1)) [
          | inl below ↦ s.between b l below
          | inr top ↦ (let z : b ≡ a - 1 = omega arith in rw z not_it)
        ];
  }
  found_more_down a n None room not_it s =
      λ b l h.
      elim (cases_lt b (a - 1)) [
        | inl below ↦ s b (omega arith) below
        | inr top ↦ (let z : b ≡ a - 1 = omega arith in rw z not_it)
      ]

  tested_down : (t : Bool) (a n : ℕ) (r : Option ℕ) → p (get_or cells (a - 1) 0) ≡ t → suc n ≤ a → SaysDown p cells (a - 1) n r → SaysDown p cells a (suc n) (if t then Some (a - 1) else r)
  tested_down true a n r is room s = record {
    low = omega arith;
    high = omega arith;
    here = is;
    between = λ b l h. absurd (omega arith);
  }
  tested_down false a n r is room s = found_more_down a n r room is s

  pub says_down : (n a : ℕ) → n ≤ a → SaysDown p cells a n (first_down p cells a n)
  unfolding first_down
  says_down zero a room = λ b l h. absurd (omega arith)
  says_down (suc n) a room = tested_down (p (get_or cells (a - 1) 0)) a n (first_down p cells (a - 1) n) refl room (says_down n (a - 1) (omega arith))

  found_more_up : (a n : ℕ) (r : Option ℕ) → p (get_or cells a 0) ≡ false → SaysUp p cells (a + 1) n r → SaysUp p cells a (suc n) r
  found_more_up a n (Some e) not_it s = record {
    low = (let l : a + 1 ≤ e = s.low in omega arith);
    high = (let h : e < a + 1 + n = s.high in omega arith);
    here = s.here;
    between = λ b l h.
        elim (cases_lt a b) [
          | inl above ↦ s.between b (omega arith) h
          | inr same ↦ (let z : b ≡ a = omega arith in rw z not_it)
        ];
  }
  found_more_up a n None not_it s =
      λ b l h.
      elim (cases_lt a b) [
        | inl above ↦ s b (omega arith) (omega arith)
        | inr same ↦ (let z : b ≡ a = omega arith in rw z not_it)
      ]

  tested_up : (t : Bool) (a n : ℕ) (r : Option ℕ) → p (get_or cells a 0) ≡ t → SaysUp p cells (a + 1) n r → SaysUp p cells a (suc n) (if t then Some a else r)
  tested_up true a n r is s = record {
    low = omega arith;
    high = omega arith;
    here = is;
    between = λ b l h. absurd (omega arith);
  }
  tested_up false a n r is s = found_more_up a n r is s

  pub says_up : (n a : ℕ) → SaysUp p cells a n (first_up p cells a n)
  unfolding first_up
  says_up zero a = λ b l h. absurd (omega arith)
  says_up (suc n) a = tested_up (p (get_or cells a 0)) a n (first_up p cells (a + 1) n) refl (says_up n (a + 1))

-- the same, of an answer that was found
pub said_down : (p : ℕ → Bool) (cells : List ℕ) (a n : ℕ) (r : Option ℕ) → n ≤ a → r ≡ first_down p cells a n → SaysDown p cells a n r
said_down p cells a n r room is = rw is (says_down p cells n a room)

pub said_up : (p : ℕ → Bool) (cells : List ℕ) (a n : ℕ) (r : Option ℕ) → r ≡ first_up p cells a n → SaysUp p cells a n r
said_up p cells a n r is = rw is (says_up p cells n a)
