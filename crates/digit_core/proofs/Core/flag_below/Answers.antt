-- First among the cells of the same word, then in the words below.
use Rattle.std.proofs.Common.{◌≡◌, ◌-◌, ◌+◌, ◌*◌, ◌/◌, ◌%◌, sym, ◌∙◌, arith}
use Rattle.digit_core.specs.Cell.{has_flag}
use Rattle.digit_core.proofs.Passing.{down_first, down_second}
use Rattle.digit_core.proofs.Core.flag_below.Goals as goal

pub returns-in-Some : goal.returns-in-Some
returns-in-Some g c =
    let a : 10 * (c.args.a / 10) + c.args.a % 10 ≡ c.args.a = omega arith in
    let m : c.args.a % 10 - 0 ≡ c.args.a % 10 = omega arith in
    let all : c.args.a % 10 + 10 * (c.args.a / 10) ≡ c.args.a = omega arith in
    let s = down_first has_flag c.args.self.now c.args.a (c.args.a % 10) (10 * (c.args.a / 10)) c.in-Some.at (rw (a, m) at c.in-Some.ensures) in
    rw all at s

pub returns : goal.returns
returns g c =
    let a : 10 * (c.args.a / 10) + c.args.a % 10 ≡ c.args.a = omega arith in
    let m : c.args.a % 10 - 0 ≡ c.args.a % 10 = omega arith in
    let all : c.args.a % 10 + 10 * (c.args.a / 10) ≡ c.args.a = omega arith in
    let low : c.args.a - c.args.a % 10 ≡ 10 * (c.args.a / 10) = omega arith in
    let i : c.args.a / 10 - 0 ≡ c.args.a / 10 = omega arith in
    let s = down_second has_flag c.args.self.now c.args.a (c.args.a % 10) (10 * (c.args.a / 10)) (rw (a, m) at (sym c.in_default.is ∙ c.down_in.ensures)) in
    c.down_words.ensures ∙ (rw i at c.down_eights-at.ensures.rest) ∙ (rw (all, low) at s)
