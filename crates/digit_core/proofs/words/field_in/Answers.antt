-- The highest flag below the units ends the field.
use Rattle.std.proofs.Common.{◌≡◌, ◌-◌, ◌<◌, bit_and, ap, sym, ◌∙◌, arith, inl, inr}
use Rattle.std.proofs.lemmas.Bool.{cases_lt}
use Rattle.digit_core.specs.Packed.{six}
use Rattle.digit_core.specs.Cell.{has_flag}
use Rattle.digit_core.proofs.Planes.{masked_one, masked_none}
use Rattle.digit_core.proofs.Looking.{is_one, no_ones}
use Rattle.digit_core.proofs.Tops.{masked_small}
use Rattle.digit_core.proofs.words.field_in.Goals as goal

pub returns-in-Some-clause-is : goal.returns-in-Some-clause-is
returns-in-Some-clause-is c =
    let ones = c.flags.result in
    let mask = c.ones_below.result in
    let j = c.in-Some.j in
    let is = c.in-Some.ensures.is in
    let ten : c.in-Some.j < 10 = is.ten in
    let low : c.in-Some.j < 9 =
    elim (cases_lt c.in-Some.j 9) [
      | inl l ↦ l
      | inr g ↦ absurd (omega (arith, sym is.one ∙ masked_none ones mask j (has_flag (six c.args.w j)) (c.flags.ensures j ten) (c.ones_below.ensures.others j g ten)))
    ]
    in
    let at : 10 - (10 - c.in-Some.j) ≡ c.in-Some.j = omega arith in
    record {
      two = omega arith;
      ten = omega arith;
      flag = ap (λ x. has_flag (six c.args.w x)) at ∙ is_one (has_flag (six c.args.w j)) (six (bit_and ones mask) j) (masked_one ones mask j (has_flag (six c.args.w j)) (c.flags.ensures j ten) (c.ones_below.ensures.named j low)) is.one;
      between = λ i above nine.
          let h : i < 10 = omega arith in
          no_ones (has_flag (six c.args.w i)) (six (bit_and ones mask) i) (masked_one ones mask i (has_flag (six c.args.w i)) (c.flags.ensures i h) (c.ones_below.ensures.named i nine)) (is.above i (omega arith) h);
    }

pub returns-in-None-clause-none : goal.returns-in-None-clause-none
returns-in-None-clause-none c =
    λ none i nine.
    let ones = c.flags.result in
    let mask = c.ones_below.result in
    let h : i < 10 = omega arith in
    no_ones (has_flag (six c.args.w i)) (six (bit_and ones mask) i) (masked_one ones mask i (has_flag (six c.args.w i)) (c.flags.ensures i h) (c.ones_below.ensures.named i nine)) (c.in-None.ensures.none none i h)

pub top-requires-clause-bits : goal.top-requires-clause-bits
top-requires-clause-bits c =
    λ j h.
    masked_small c.flags.result c.ones_below.result j (has_flag (six c.args.w j)) (c.flags.ensures j h)
    (elim (cases_lt j 9) [
      | inl l ↦ inl (c.ones_below.ensures.named j l)
      | inr g ↦ inr (c.ones_below.ensures.others j g h)
    ])
