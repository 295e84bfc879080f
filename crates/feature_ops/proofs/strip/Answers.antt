-- Turns and the last one, or the digits that are left.
use Rattle.std.proofs.Common.{◌∙◌, ◌-◌, arith}
use Rattle.digit_core.proofs.Writing.{length_written}
use Rattle.feature_ops.proofs.Turns.{rest_done, rest_on, strip_next, strip_last}
use Rattle.feature_ops.proofs.SoundTurns.{strip_good}
use Rattle.feature_ops.proofs.strip.Goals as goal

pub loop-turn-preserved : goal.loop-turn-preserved
loop-turn-preserved g c =
    let long = c.loop-turn.invariant.long in
    let n = c.in-Some.turn.count in
    let s = c.in-Some.ensures in
    rw c.put_digits.ensures
    (record {
      long = length_written c.loop-turn.core (c.loop-turn.left - n) n c.in-Some.turn.cells ∙ long;
      pairs = omega arith;
      left = omega arith;
      some = omega arith;
      most = omega arith;
      going = rest_on _ _ _ _ _ _
          (strip_next c.loop-turn.core c.loop-turn.pairs c.loop-turn.left n c.in-Some.turn.cells (omega arith) (omega arith) s.apart (s.on c.if-turn.false)) c.loop-turn.invariant.going;
    })

pub returns-then-turn : goal.returns-then-turn
returns-then-turn g c =
    let long = c.loop-turn.invariant.long in
    let s = c.in-Some.ensures in
    rw c.put_digits.ensures
    (rest_done _ _ _ _ _ _ c.loop-turn.invariant.going
    (strip_last c.loop-turn.core c.loop-turn.pairs c.loop-turn.left c.in-Some.turn.count c.in-Some.turn.cells (omega arith) (omega arith) s.apart s.some (s.end c.if-turn.true)))

pub returns : goal.returns
returns g c = rest_done _ _ _ _ _ _ c.loop-turn.invariant.going c.strip_digits.ensures

-- core stays as sound as it was
pub put_digits-requires : goal.put_digits-requires
put_digits-requires g c =
    let long = c.loop-turn.invariant.long in
    let s = c.in-Some.ensures in
    (omega arith, (s.most, (omega arith, λ sound. strip_good c.loop-turn.core c.loop-turn.pairs c.loop-turn.left c.in-Some.turn s)))
