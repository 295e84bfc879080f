-- A field that is read from a word, and one that is stored from one.
use Rattle.std.proofs.Common.{ℕ, ◌≡◌, ◌+◌, ◌-◌, ◌/◌, ◌%◌, ◌^◌, ◌<◌, ◌≤◌, ◌==◌, Bool, true, false, List, length, get_or, refl, sym, ◌∙◌, ap, arith, inl, inr, nat_le}
use Rattle.std.specs.Prelude.{if◌then◌else◌}
use Rattle.std.proofs.lemmas.Bool.{cases_lt}
use Rattle.std.proofs.lemmas.List.{get_or_past}
use Rattle.std.proofs.lemmas.Bool.Decides.{nat_tests}
use lib.Count.{ones}
use Rattle.digit_core.specs.declared.Digit.{Digit}
use Rattle.digit_core.specs.Cell.{cell, has_flag, IsGood}
use Rattle.digit_core.specs.Packed.{six}
use Rattle.digit_core.specs.Search.{is_bad_cell, is_undecimal}
use Rattle.digit_core.specs.Within.{AreGoodUpTo, EndsField}
use Rattle.digit_core.specs.Written.{core_with_word}
use Rattle.digit_core.proofs.Below.{same_below}
use Rattle.digit_core.proofs.SoundCore.{good_cell}
use Rattle.digit_core.proofs.Writing.{length_written, written_in, written_out}
use Rattle.table_arith.specs.Values.{value, flag_at, IsNumberField}
use Rattle.table_arith.specs.Numbers.{value_above_units, digits_at, HoldsNumber}
use Rattle.table_arith.specs.Words.{digit_within, number_within}
use Rattle.table_arith.proofs.WordNumbers.{same_digits}
use Rattle.table_arith.proofs.NumberFields.{field_made}

-- a decimal digit's cell is the good cell of its flag and value
decimal_cell : (c : ℕ) → c < 64 → is_undecimal c ≡ false → c ≡ cell (record { flag = has_flag c; value = c % 16 })
unfolding cell ones
decimal_cell c below decimal =
    let e = same_below (λ c. if is_undecimal c then c else cell (record { flag = has_flag c; value = c % 16 })) (λ c. c) 64 c 0 refl below in
    sym (rw decimal at e)

decimal_value : (c : ℕ) → c < 64 → is_undecimal c ≡ false → c % 16 ≤ 9
unfolding ones
decimal_value c below decimal =
    let e = same_below (λ c. if is_undecimal c then true else nat_le (c % 16) 9) (λ c. true) 64 c true refl below in
    let t : nat_le (c % 16) 9 ≡ true = rw decimal at e in
    grind (arith, nat_tests)

-- the ten cells that end at p are a word, and a field of n digits ends within it
module _ (core : List ℕ) (p n w : ℕ) (inside : p < length core) (nine : 9 ≤ p)
    (stand : (j : ℕ) → j < 10 → six w j ≡ get_or core (p - 9 + j) 0)
    (ends : EndsField w n)
    (decimal : (j : ℕ) → j < 10 → 10 - n ≤ j → is_undecimal (six w j) ≡ false) where
  here : (k : ℕ) → k < 10 → six w (9 - k) ≡ get_or core (p - k) 0
  here k below =
      let e : p - 9 + (9 - k) ≡ p - k = omega arith in
      let s = stand (9 - k) (omega arith) in
      rw e at s

  digit_here : (k : ℕ) → k < 10 → value_above_units core p k ≡ digit_within w k
  digit_here k below = ap (λ c. c % 16) (sym (here k below))

  cell_here : (k : ℕ) → k < n → get_or core (p - k) 0 ≡ cell (record { flag = has_flag (six w (9 - k)); value = value_above_units core p k })
  cell_here k below =
      let ten = ends.ten in
      let h : k < 10 = omega arith in
      sym (here k h) ∙ decimal_cell (six w (9 - k)) (omega arith) (decimal (9 - k) (omega arith) (omega arith))
      ∙ ap (λ v. cell (record { flag = has_flag (six w (9 - k)); value = v })) (sym (digit_here k h))

  with_flag : (k : ℕ) (b : Bool) → k < n → has_flag (six w (9 - k)) ≡ b → get_or core (p - k) 0 ≡ cell (record { flag = b; value = value_above_units core p k })
  with_flag k b below flag = cell_here k below ∙ ap (λ f. cell (record { flag = f; value = value_above_units core p k })) flag

  decimal_here : (k : ℕ) → k < n → value_above_units core p k ≤ 9
  decimal_here k below =
      let ten = ends.ten in
      rw (digit_here k (omega arith)) (decimal_value (six w (9 - k)) (omega arith) (decimal (9 - k) (omega arith) (omega arith)))

  unmarked_here : (k : ℕ) → k < n - 1 → get_or core (p - k) 0 ≡ cell (record { flag = if k == 0 then has_flag (six w 9) else false; value = value_above_units core p k })
  unmarked_here k below =
      elim (cases_lt 0 k) [
        | inl some ↦
            let ten = ends.ten in
            let f : (k == 0) ≡ false = grind (arith, nat_tests) in
            rw f (with_flag k false (omega arith) (ends.between (9 - k) (omega arith) (omega arith)))
        | inr none ↦ (let e : k ≡ 0 = omega arith in let two = ends.two in rw e (with_flag 0 (has_flag (six w 9)) (omega arith) refl))
      ]

  pub field_there : IsNumberField core p (has_flag (six w 9)) (digits_at core p n)
  field_there =
      let two = ends.two in
      let ten = ends.ten in
      let e : n - 1 + 1 ≡ n = omega arith in
      let f : 9 - (n - 1) ≡ 10 - n = omega arith in
      let last : has_flag (six w (9 - (n - 1))) ≡ true = rw f ends.flag in
      let made = field_made core p (n - 1) (has_flag (six w 9)) inside (omega arith) (omega arith) (λ k h. decimal_here k (omega arith)) unmarked_here (with_flag (n - 1) true (omega arith) last) in
      rw e at made

  pub number_there : number_within w n ≡ value (digits_at core p n)
  unfolding number_within digits_at
  number_there =
      let ten = ends.ten in
      ap value (same_digits (digit_within w) (value_above_units core p) n (λ k h. sym (digit_here k (omega arith))))

-- the cells of a number's digits were written
module _ (core : List ℕ) (p n w magnitude : ℕ) (minus : Bool) (inside : p < length core) (room : n ≤ p + 1)
    (digits : (k : ℕ) → k < n → six w (n - 1 - k) ≡ cell (record { flag = flag_at minus n k; value = magnitude / 10 ^ k % 10 })) where
  pub number_written : HoldsNumber core p n magnitude minus (core_with_word core (p + 1 - n) n w)
  number_written = record {
    cells = λ k h.
        let e : p - k - (p + 1 - n) ≡ n - 1 - k = omega arith in
        let s = written_in core (p + 1 - n) n w (p - k) (omega arith) (omega arith) (omega arith) in
        (rw e at s) ∙ digits k h;
    others = λ a out.
        elim (cases_lt a (length core)) [
          | inl l ↦ written_out core (p + 1 - n) n w a l (elim out [ inl above ↦ inr (omega arith) | inr below ↦ inl (omega arith) ])
          | inr g ↦ get_or_past (core_with_word core (p + 1 - n) n w) a 0 (let l = length_written core (p + 1 - n) n w in omega arith) ∙ sym (get_or_past core a 0 g)
        ];
    long = length_written core (p + 1 - n) n w;
  }

-- each of them is a good digit's
pub number_good : (n w magnitude : ℕ) (minus : Bool) → ((k : ℕ) → k < n → six w (n - 1 - k) ≡ cell (record { flag = flag_at minus n k; value = magnitude / 10 ^ k % 10 })) → AreGoodUpTo w n
number_good n w magnitude minus digits j below =
    let at : n - 1 - (n - 1 - j) ≡ j = omega arith in
    let d : Digit = record { flag = flag_at minus n (n - 1 - j); value = magnitude / 10 ^ (n - 1 - j) % 10 } in
    let good : IsGood d = grind (arith, nat_tests) in
    ap is_bad_cell (rw at at (digits (n - 1 - j) (omega arith))) ∙ good_cell d good
