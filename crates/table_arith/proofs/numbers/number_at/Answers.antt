-- The word of the ten cells that end at the units has the field.
use Rattle.std.proofs.Common.{◌≡◌, ◌-◌, ◌<◌, ◌≤◌, ◌∙◌, ℕ, false, length, refl, ap, arith}
use Rattle.digit_core.specs.Packed.{six}
use Rattle.digit_core.specs.Search.{is_undecimal}
use Rattle.table_arith.specs.Words.{number_within}
use Rattle.table_arith.proofs.FieldWords.{field_there, number_there}
use Rattle.table_arith.proofs.numbers.number_at.Goals as goal

pub returns : goal.returns
returns g c =
    let core = c.args.core.now in
    let p = c.args.p in
    let n = c.in_ok-n.n in
    let w = c.ten-w.result in
    let l = c.size_law.ensures.length in
    let ends = c.in_ok-n.ensures.is in
    let ten = ends.ten in
    let inside : p < length core = omega arith in
    let decimal : (j : ℕ) → j < 10 → 10 - n ≤ j → is_undecimal (six w j) ≡ false =
    (λ j h low. c.if-not-are_decimal.ensures.yes refl j h (c.ones_from.ensures.named j low h)) in
    let same : 10 - (10 - n) ≡ n = omega arith in
    record {
      field = rw c.is_minus.ensures (field_there core p n w inside (omega arith) c.ten-w.ensures.cells ends decimal);
      magnitude = c.magnitude_from.ensures ∙ ap (λ m. number_within w m) same ∙ number_there core p n w inside (omega arith) c.ten-w.ensures.cells ends decimal;
      power = c.power_of.ensures;
      few = ten;
    }
