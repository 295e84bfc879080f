-- A word without such a cell is passed over.
use Rattle.std.proofs.Common.{◌≡◌, ◌-◌, ◌+◌, ◌*◌, sym, ◌∙◌, arith}
use Rattle.digit_core.proofs.Passing.{up_first, up_second, up_none}
use Rattle.digit_core.proofs.Core.up_words.Goals as goal

pub loop-at-preserved : goal.loop-at-preserved
loop-at-preserved g c =
    let here : 10 * c.loop-at.at + 0 ≡ 10 * c.loop-at.at = omega arith in
    let all : 10 + 10 * (c.args.end - (c.loop-at.at + 1)) ≡ 10 * (c.args.end - c.loop-at.at) = omega arith in
    let next : 10 * c.loop-at.at + 10 ≡ 10 * (c.loop-at.at + 1) = omega arith in
    let s = up_second g.S.Sought.passes c.args.self.now (10 * c.loop-at.at) 10 (10 * (c.args.end - (c.loop-at.at + 1))) (rw (here, c.in_default.is) at c.up_in.ensures) in
    record {
      low = omega arith;
      high = omega arith;
      rest = rw (all, next, c.loop-at.invariant.rest) at s;
    }

pub returns-in-Some : goal.returns-in-Some
returns-in-Some g c =
    let here : 10 * c.loop-at.at + 0 ≡ 10 * c.loop-at.at = omega arith in
    let all : 10 + (10 * (c.args.end - c.loop-at.at) - 10) ≡ 10 * (c.args.end - c.loop-at.at) = omega arith in
    let s = up_first g.S.Sought.passes c.args.self.now (10 * c.loop-at.at) 10 (10 * (c.args.end - c.loop-at.at) - 10) c.in-Some.found (rw here at c.in-Some.ensures) in
    rw (all, c.loop-at.invariant.rest) at s

pub returns : goal.returns
returns g c = sym (up_none g.S.Sought.passes c.args.self.now (10 * c.loop-at.at) (10 * (c.args.end - c.loop-at.at)) (omega arith)) ∙ c.loop-at.invariant.rest
