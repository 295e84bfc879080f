-- A field that was read digit by digit, and one that was stored so.
use Rattle.std.proofs.Common.{ℕ, zero, suc, ◌≡◌, ◌+◌, ◌-◌, ◌%◌, ◌<◌, ◌≤◌, ◌==◌, Bool, true, false, List, length, get_or, refl, sym, ◌∙◌, ap, arith, inl, inr, Ok}
use Rattle.std.specs.Prelude.{if◌then◌else◌}
use Rattle.std.proofs.lemmas.Bool.{cases_lt}
use Rattle.std.proofs.lemmas.Bool.Decides.{nat_tests}
use Rattle.digit_core.specs.declared.Digit.{Digit}
use Rattle.digit_core.specs.Cell.{cell, read_cell}
use Rattle.digit_core.proofs.Digits.{cell-read_cell}
use Rattle.table_arith.specs.Values.{IsNumberField, flag_at}
use Rattle.table_arith.specs.Numbers.{value_above_units, digits_at}
use Rattle.table_arith.proofs.NumberDigits.{length_digits, digit_is}

-- a decimal digit that was read from a word is the digit of its cell
pub cell_there : (core : List ℕ) (a b x : ℕ) (d : Digit) → b ≡ a → x < 64 → x ≡ get_or core a 0 → read_cell x ≡ Ok d → d.value ≡ x % 16 →
    (get_or core b 0 ≡ cell (record { flag = d.flag; value = get_or core b 0 % 16 })) × (d.value ≡ get_or core b 0 % 16)
cell_there core a b x d place small is reads value =
    let here : x ≡ get_or core b 0 = is ∙ ap (λ k. get_or core k 0) (sym place) in
    let v : d.value ≡ get_or core b 0 % 16 = value ∙ ap (λ y. y % 16) here in
    (sym here ∙ sym (cell-read_cell x d small reads) ∙ ap (λ y. cell (record { flag = d.flag; value = y })) v, v)

-- the flags of a field, but for the leftmost digit's
pub flags : (sign : Bool) (n k : ℕ) → k + 1 < n → flag_at sign n k ≡ (if k == 0 then sign else false)
flags sign n zero below = refl
flags sign n (suc place) below =
    let e : (n == suc (suc place)) ≡ false = grind (arith, nat_tests) in
    let f : (suc place == 0) ≡ false = grind (arith, nat_tests) in
    rw (e, f)

-- the leftmost digit's
pub last_flag : (sign : Bool) (k : ℕ) → 0 < k → flag_at sign (k + 1) k ≡ true
last_flag sign zero some = absurd (omega arith)
last_flag sign (suc place) some = grind (arith, nat_tests)

-- a cell without a flag past the units
pub unmarked : (core : List ℕ) (p k : ℕ) (sign flag : Bool) → 0 < k → flag ≡ false → get_or core (p - k) 0 ≡ cell (record { flag = flag; value = value_above_units core p k }) →
    get_or core (p - k) 0 ≡ cell (record { flag = if k == 0 then sign else false; value = value_above_units core p k })
unmarked core p k sign flag some plain is =
    let f : (k == 0) ≡ false = grind (arith, nat_tests) in
    rw f (is ∙ ap (λ b. cell (record { flag = b; value = value_above_units core p k })) plain)

module _ (core : List ℕ) (p i : ℕ) (sign : Bool) (inside : p < length core) (room : i ≤ p) (some : 0 < i)
    (decimal : (k : ℕ) → k < i + 1 → value_above_units core p k ≤ 9)
    (cells : (k : ℕ) → k < i → get_or core (p - k) 0 ≡ cell (record { flag = if k == 0 then sign else false; value = value_above_units core p k }))
    (last : get_or core (p - i) 0 ≡ cell (record { flag = true; value = value_above_units core p i })) where
  each : (k : ℕ) → k < i + 1 → get_or core (p - k) 0 ≡ cell (record { flag = flag_at sign (i + 1) k; value = value_above_units core p k })
  each k below =
      elim (cases_lt k i) [
        | inl l ↦ cells k l ∙ ap (λ b. cell (record { flag = b; value = value_above_units core p k })) (sym (flags sign (i + 1) k (omega arith)))
        | inr g ↦
            let e : k ≡ i = omega arith in
            rw e (last ∙ ap (λ b. cell (record { flag = b; value = value_above_units core p i })) (sym (last_flag sign i some)))
      ]

  pub field_made : IsNumberField core p sign (digits_at core p (i + 1))
  field_made =
      let n = length_digits core p (i + 1) in
      record {
        inside = inside;
        room = omega arith;
        two = omega arith;
        decimal = λ k below. let h : k < i + 1 = omega arith in rw (digit_is core p (i + 1) k h) (decimal k h);
        cells = λ k below. let h : k < i + 1 = omega arith in rw (n, digit_is core p (i + 1) k h) (each k h);
      }
