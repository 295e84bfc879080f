-- One digit after another.
use Rattle.std.proofs.Common.{◌≡◌, ◌-◌, ◌∙◌, true, get_or, sym, ap, ℕ, ◌+◌, ◌*◌, drop, arith}
use Rattle.line_words.proofs.Numbers.{digits_from, digit_small, within_15, one_digit_more, fits_more, digit_more, digit_bad, digits_all, number_by_digits}
use Rattle.line_words.proofs.words.number.Goals as goal
use Rattle.std.specs.Char.{is_ascii_digit}

pub returns-then-not-is_ascii_digit-clause-value : goal.returns-then-not-is_ascii_digit-clause-value
returns-then-not-is_ascii_digit-clause-value c =
    sym (number_by_digits c.args.word.now (omega arith) (omega arith) ∙ sym c.loop-c.invariant.number
    ∙ digit_bad c.args.word.now c.loop-c.c-index c.loop-c.n c.loop-c-test.true (sym c.is_ascii_digit.ensures.value ∙ c.if-not-is_ascii_digit.true))

pub overflow_mul-n : goal.overflow_mul-n
overflow_mul-n c = omega (arith, fits_more c.loop-c.n c.loop-c.c-index 0 c.loop-c.invariant.small (omega arith) (omega arith))

pub overflow_add-n : goal.overflow_add-n
overflow_add-n c =
    let digit : is_ascii_digit (get_or c.args.word.now c.loop-c.c-index 0) ≡ true = sym c.is_ascii_digit.ensures.value ∙ c.if-not-is_ascii_digit.false in
    omega (arith, digit_small (get_or c.args.word.now c.loop-c.c-index 0) digit, fits_more c.loop-c.n c.loop-c.c-index (get_or c.args.word.now c.loop-c.c-index 0 - 48) c.loop-c.invariant.small (omega arith) (digit_small (get_or c.args.word.now c.loop-c.c-index 0) digit))

pub loop-c-preserved : goal.loop-c-preserved
loop-c-preserved c =
    let digit : is_ascii_digit (get_or c.args.word.now c.loop-c.c-index 0) ≡ true = sym c.is_ascii_digit.ensures.value ∙ c.if-not-is_ascii_digit.false in
    let value : c.from.result ≡ get_or c.args.word.now c.loop-c.c-index 0 - 48 = c.from.ensures in
    record {
      small = one_digit_more c.loop-c.n c.loop-c.c-index c.from.result c.loop-c.invariant.small (omega (arith, value, digit_small (get_or c.args.word.now c.loop-c.c-index 0) digit));
      number = ap (λ (d : ℕ). digits_from (10 * c.loop-c.n + d) (drop (c.loop-c.c-index + 1) c.args.word.now)) value
          ∙ digit_more c.args.word.now c.loop-c.c-index c.loop-c.n c.loop-c-test.true digit ∙ c.loop-c.invariant.number;
    }

pub returns-clause-value : goal.returns-clause-value
returns-clause-value c =
    let some = c.if-is_empty.ensures in
    sym (number_by_digits c.args.word.now (grind arith) (omega arith) ∙ sym c.loop-c.invariant.number
    ∙ digits_all c.args.word.now c.loop-c.c-index c.loop-c.n c.loop-c-test.false)

pub returns-clause-most : goal.returns-clause-most
returns-clause-most c = omega (arith, c.loop-c.invariant.small, within_15 c.loop-c.c-index (omega arith))
