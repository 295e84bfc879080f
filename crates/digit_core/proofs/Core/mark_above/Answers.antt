-- First among the cells of the same word, then in the words above.
use Rattle.std.proofs.Common.{◌≡◌, ◌-◌, ◌+◌, ◌*◌, ◌/◌, ◌%◌, length, sym, ◌∙◌, arith}
use Rattle.digit_core.specs.Search.{has_mark}
use Rattle.digit_core.proofs.Passing.{up_first, up_second}
use Rattle.digit_core.proofs.Core.mark_above.Goals as goal

pub returns-in-Some : goal.returns-in-Some
returns-in-Some g c =
    let a : 10 * (c.args.a / 10) + c.args.a % 10 ≡ c.args.a = omega arith in
    let all : 10 - c.args.a % 10 + 10 * (g.row.M * 2000 - (c.args.a / 10 + 1)) ≡ length c.args.self.now - c.args.a = omega arith in
    let s = up_first has_mark c.args.self.now c.args.a (10 - c.args.a % 10) (10 * (g.row.M * 2000 - (c.args.a / 10 + 1))) c.in-Some.at (rw a at c.in-Some.ensures) in
    rw all at s

pub returns : goal.returns
returns g c =
    let a : 10 * (c.args.a / 10) + c.args.a % 10 ≡ c.args.a = omega arith in
    let all : 10 - c.args.a % 10 + 10 * (g.row.M * 2000 - (c.args.a / 10 + 1)) ≡ length c.args.self.now - c.args.a = omega arith in
    let next : c.args.a + (10 - c.args.a % 10) ≡ 10 * (c.args.a / 10 + 1) = omega arith in
    let s = up_second has_mark c.args.self.now c.args.a (10 - c.args.a % 10) (10 * (g.row.M * 2000 - (c.args.a / 10 + 1))) (rw a at (sym c.in_default.is ∙ c.up_in.ensures)) in
    c.up_words.ensures ∙ c.up_eights-at.ensures.rest ∙ (rw (all, next) at s)
