-- Eight words without such a cell are passed over.
use Rattle.std.proofs.Common.{◌≡◌, ◌-◌, ◌+◌, ◌*◌, sym, ◌∙◌, arith}
use Rattle.digit_core.proofs.Passing.{up_skip}
use Rattle.digit_core.proofs.Core.up_eights.Goals as goal

pub loop-at-preserved : goal.loop-at-preserved
loop-at-preserved g c =
    let all : 80 + 10 * (c.args.end - (c.loop-at.at + 8)) ≡ 10 * (c.args.end - c.loop-at.at) = omega arith in
    let next : 10 * c.loop-at.at + 80 ≡ 10 * (c.loop-at.at + 8) = omega arith in
    let skip = up_skip g.S.Sought.passes c.args.self.now 80 (10 * c.loop-at.at) (10 * (c.args.end - (c.loop-at.at + 8))) (c.in_eight.ensures c.if-in_eight.false) in
    record {
      low = omega arith;
      high = omega arith;
      rest = sym (rw (all, next) at skip) ∙ c.loop-at.invariant.rest;
    }
