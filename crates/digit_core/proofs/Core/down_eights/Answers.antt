-- Eight words without such a cell are passed over.
use Rattle.std.proofs.Common.{ℕ, ◌≡◌, ◌-◌, ◌+◌, ◌*◌, ◌<◌, false, get_or, sym, ◌∙◌, arith}
use Rattle.digit_core.proofs.Passing.{down_skip}
use Rattle.digit_core.proofs.Core.down_eights.Goals as goal

pub loop-at-preserved : goal.loop-at-preserved
loop-at-preserved g c =
    let all : 80 + 10 * (c.loop-at.at - 8 - c.args.end) ≡ 10 * (c.loop-at.at - c.args.end) = omega arith in
    let next : 10 * c.loop-at.at - 80 ≡ 10 * (c.loop-at.at - 8) = omega arith in
    let none : (j : ℕ) → j < 80 → g.S.Sought.passes (get_or c.args.self.now (10 * c.loop-at.at - 80 + j) 0) ≡ false = rw next (c.in_eight.ensures c.if-in_eight.false) in
    let skip = down_skip g.S.Sought.passes c.args.self.now 80 (10 * c.loop-at.at) (10 * (c.loop-at.at - 8 - c.args.end)) (omega arith) none in
    record {
      low = omega arith;
      high = omega arith;
      rest = sym (rw (all, next) at skip) ∙ c.loop-at.invariant.rest;
    }
