-- A sum and a comparison by the numbers that were found.
use Rattle.std.proofs.Common.{ℕ, suc, ◌≡◌, ◌+◌, ◌-◌, ◌%◌, ◌^◌, ◌<◌, ◌≤◌, ◌==◌, ◌&&◌, ◌||◌, nat_lt, nat_le, not, Bool, List, length, get_or, refl, sym, ◌∙◌, arith, inl, inr, Ok}
use Rattle.std.proofs.lemmas.Bool.{cases_lt}
use Rattle.std.proofs.lemmas.List.{ext_get_or}
use Rattle.std.proofs.Math.Nat.{pow-le-pow_right}
use Rattle.traces.specs.Stored.{core_after, Did}
use Rattle.table_arith.specs.declared.Kind.{Kind}
use Rattle.table_arith.specs.declared.numbers.Number.{Number}
use Rattle.table_arith.specs.Sum.{complements, sum, comparison}
use Rattle.table_arith.specs.Values.{IsStandard, AreApart, magnitude_of, minus_of}
use Rattle.table_arith.specs.Numbers.{digits_at, HasNumber, HoldsNumber, compared_numbers}
use Rattle.table_arith.proofs.Fields.{are_decimal, field_of, stands_from}
use Rattle.table_arith.proofs.Results.{Totals, sum_totals}
use Rattle.table_arith.proofs.Comparisons.{comparison_shown}
use Rattle.table_arith.proofs.LongAddition.{value_below, power_positive}
use Rattle.table_arith.proofs.NumberDigits.{length_digits, digit_of}

-- a number has no more digits than its field
module _ (core : List ℕ) (p : ℕ) (x : Number) (hx : HasNumber core p x) where
  pub power_some : 0 < x.power
  power_some = rw hx.power (power_positive x.digits)

  pub magnitude_below : x.magnitude < x.power
  magnitude_below =
      let n = length_digits core p x.digits in
      let v = value_below (digits_at core p x.digits) (are_decimal (stands_from core p x.negative (digits_at core p x.digits) hx.field)) in
      rw (hx.power, hx.magnitude) (rw n at v)

  pub power_ten : x.power ≤ 10 ^ 10
  power_ten =
      let some : 0 < 10 = omega arith in
      let m : 10 ^ x.digits ≤ 10 ^ 10 = pow-le-pow_right {n = 10} some {i = x.digits} {j = 10} hx.few in
      let e = hx.power in
      omega arith

  pub power_small : x.power < 2 ^ 40
  power_small = let m = power_ten in omega arith

module _ (kind : Kind) (core : List ℕ) (p q : ℕ) (x y : Number) (standard : IsStandard core) (hx : HasNumber core p x) (hy : HasNumber core q y) where
  abbrev b : ℕ
  b = y.magnitude % x.power

  abbrev complement : Bool
  complement = complements kind x.negative y.negative

  module _ (apart : AreApart p x.digits q y.digits) where
    totals : Totals core p x.negative x.digits x.magnitude y.digits b complement (sum kind core p q)
    totals =
        let n = length_digits core p x.digits in
        let m = length_digits core q y.digits in
        let t = sum_totals kind core p q x.negative y.negative (digits_at core p x.digits) (digits_at core q y.digits) standard hx.field hy.field (rw (n, m) apart) in
        rw (n, m, ← hx.magnitude, ← hy.magnitude, ← hx.power) at t

    module _ (new : List ℕ) (holds : HoldsNumber core p x.digits (magnitude_of complement x.magnitude b x.power) (minus_of complement x.negative x.magnitude b) new) where
      -- each digit that the cycles leave is the number's
      digit_left : (k : ℕ) → k < x.digits → get_or new (p - k) 0 ≡ get_or (core_after core (sum kind core p q).effects) (p - k) 0
      digit_left k below =
          let t = totals in
          let two = hx.field.two in
          let n = length_digits core p x.digits in
          let long = t.long in
          let f = field_of (core_after core (sum kind core p q).effects) p t.minus t.digits t.leaves.stands (omega arith) in
          let c = f.cells k (omega arith) in
          let d = digit_of t.digits (are_decimal t.leaves.stands) k in
          holds.cells k below ∙ sym (rw (long, d, t.magnitude, t.turned, ← hx.power) at c)

      pub sum_did : (overflow : Bool) → overflow ≡ (nat_lt x.digits y.digits || (not complement && nat_le x.power (x.magnitude + b))) →
          Did core (sum kind core p q) new (Ok (record { zero = magnitude_of complement x.magnitude b x.power == 0; negative = minus_of complement x.negative x.magnitude b; overflow = overflow }))
      sum_did overflow is =
          let t = totals in
          let n = length_digits core p x.digits in
          let room = hx.field.room in
          let inside = hx.field.inside in
          record {
            leaves =
                ext_get_or 0 new (core_after core (sum kind core p q).effects) (holds.long ∙ sym t.leaves.long)
                (λ a h.
                elim (cases_lt p a) [
                  | inl above ↦ holds.others a (inl above) ∙ sym (t.leaves.same a (λ within. let l : a < suc p = within.0 in omega arith))
                  | inr le ↦
                      elim (cases_lt (p - a) x.digits) [
                        | inl there ↦ (let e : p - (p - a) ≡ a = omega arith in rw e at (digit_left (p - a) there))
                        | inr past ↦
                            holds.others a (inr (omega arith))
                            ∙ sym (t.leaves.same a (λ within. let l : suc p ≤ a + length t.digits = within.1 in let long = t.long in omega arith))
                      ]
                ]);
            answers = sym (t.leaves.answer ∙ rw (t.magnitude, t.turned, ← hx.power, is) refl);
          }

-- a comparison by the numbers
pub comparison_is : (core : List ℕ) (p q : ℕ) (x y : Number) → IsStandard core → HasNumber core p x → HasNumber core q y → comparison core p q ≡ Ok (compared_numbers x y)
comparison_is core p q x y standard hx hy =
    let n = length_digits core p x.digits in
    let m = length_digits core q y.digits in
    let c = comparison_shown core p q x.negative y.negative (digits_at core p x.digits) (digits_at core q y.digits) standard hx.field hy.field in
    rw (n, m, ← hx.magnitude, ← hy.magnitude, ← hx.power) at c
