-- One word more.
use Rattle.std.proofs.Common.{arith}
use Rattle.digit_core.proofs.Looking.{none_more}
use Rattle.digit_core.proofs.Planes.{zero_test}
use Rattle.digit_core.proofs.Core.in_eight.Goals as goal

pub loop-k-preserved : goal.loop-k-preserved
loop-k-preserved g c = record {
  eight = omega arith;
  none = none_more g.S.Sought.passes c.args.self.now c.args.i c.loop-k.k c.loop-k.all c.word_at.result c.hints-all.result c.word_at.ensures.cells c.hints-all.ensures c.loop-k.invariant.none;
}

pub returns : goal.returns
returns g c = λ test j below. c.loop-k.invariant.none (zero_test _ test) j (omega arith)
