-- Turns and the last one, or the digits that are left.
use Rattle.std.proofs.Common.{◌≡◌, ◌∙◌, ◌*◌, ◌-◌, length, refl, arith}
use Rattle.digit_core.specs.Written.{core_with_word}
use Rattle.digit_core.proofs.Writing.{length_written}
use Rattle.feature_ops.proofs.Turns.{rest_done, rest_on, fill_next, fill_last}
use Rattle.feature_ops.proofs.Words.{fills_first, fills_second, upper_good, lower_good}
use Rattle.feature_ops.proofs.SoundTurns.{fill_good}
use Rattle.feature_ops.proofs.fill.Goals as goal

pub returns-then-first : goal.returns-then-first
returns-then-first g c =
    let long = c.loop-olds.invariant.long in
    let s = fills_first c.loop-olds.core c.loop-olds.pairs c.loop-olds.left c.in-Some.olds c.turn_filled-first.result c.in-Some.ensures c.turn_filled-first.ensures in
    rw c.put_digits.ensures
    (rest_done _ _ _ _ _ _ c.loop-olds.invariant.going
    (fill_last c.loop-olds.core c.loop-olds.pairs c.loop-olds.left c.turn_filled-first.result.count c.turn_filled-first.result.cells (omega arith) (omega arith) s.apart s.some (s.end c.if-first.true)))

pub returns-then-second : goal.returns-then-second
returns-then-second g c =
    let long = c.loop-olds.invariant.long in
    let f = c.turn_filled-first.result in
    let t = c.turn_filled-second.result in
    let s1 = fills_first c.loop-olds.core c.loop-olds.pairs c.loop-olds.left c.in-Some.olds f c.in-Some.ensures c.turn_filled-first.ensures in
    let s2 =
    fills_second c.loop-olds.core c.loop-olds.pairs c.loop-olds.left c.in-Some.olds f c.in-Some.ensures c.turn_filled-first.ensures c.loop-olds.whole t (omega arith)
    (c.if-are_still_apart.ensures refl) (c.turn_filled-first.ensures.on c.if-first.false).0 c.turn_filled-second.ensures in
    let core1 = core_with_word c.loop-olds.core (2 * (c.loop-olds.pairs - f.count)) (2 * f.count) f.cells in
    let long1 : length core1 ≡ length c.loop-olds.core = length_written c.loop-olds.core (2 * (c.loop-olds.pairs - f.count)) (2 * f.count) f.cells in
    let going =
    rest_on _ _ _ _ _ _ (fill_next c.loop-olds.core c.loop-olds.pairs c.loop-olds.left f.count f.cells (omega arith) (omega arith) s1.apart (s1.on c.if-first.false))
    c.loop-olds.invariant.going in
    rw (c.put_digits-then-are_still_apart.ensures, c.put_digits.ensures)
    (rest_done _ _ _ _ _ _ going
    (fill_last core1 (c.loop-olds.pairs - f.count) (c.loop-olds.left - f.count) t.count t.cells (omega arith) (omega arith) s2.apart s2.some (s2.end c.if-second.true)))

pub loop-olds-preserved-then-are_still_apart : goal.loop-olds-preserved-then-are_still_apart
loop-olds-preserved-then-are_still_apart g c =
    let long = c.loop-olds.invariant.long in
    let f = c.turn_filled-first.result in
    let t = c.turn_filled-second.result in
    let s1 = fills_first c.loop-olds.core c.loop-olds.pairs c.loop-olds.left c.in-Some.olds f c.in-Some.ensures c.turn_filled-first.ensures in
    let s2 =
    fills_second c.loop-olds.core c.loop-olds.pairs c.loop-olds.left c.in-Some.olds f c.in-Some.ensures c.turn_filled-first.ensures c.loop-olds.whole t (omega arith)
    (c.if-are_still_apart.ensures refl) (c.turn_filled-first.ensures.on c.if-first.false).0 c.turn_filled-second.ensures in
    let core1 = core_with_word c.loop-olds.core (2 * (c.loop-olds.pairs - f.count)) (2 * f.count) f.cells in
    let long1 : length core1 ≡ length c.loop-olds.core = length_written c.loop-olds.core (2 * (c.loop-olds.pairs - f.count)) (2 * f.count) f.cells in
    let going =
    rest_on _ _ _ _ _ _ (fill_next c.loop-olds.core c.loop-olds.pairs c.loop-olds.left f.count f.cells (omega arith) (omega arith) s1.apart (s1.on c.if-first.false))
    c.loop-olds.invariant.going in
    rw (c.put_digits-then-are_still_apart.ensures, c.put_digits.ensures)
    (record {
      long = length_written core1 (2 * (c.loop-olds.pairs - f.count - t.count)) (2 * t.count) t.cells ∙ long1 ∙ long;
      pairs = omega arith;
      left = omega arith;
      some = omega arith;
      most = omega arith;
      going = rest_on _ _ _ _ _ _
          (fill_next core1 (c.loop-olds.pairs - f.count) (c.loop-olds.left - f.count) t.count t.cells (omega arith) (omega arith) s2.apart (s2.on c.if-second.false)) going;
    })

pub loop-olds-preserved : goal.loop-olds-preserved
loop-olds-preserved g c =
    let long = c.loop-olds.invariant.long in
    let n = c.turn_filled-first.result.count in
    let s = fills_first c.loop-olds.core c.loop-olds.pairs c.loop-olds.left c.in-Some.olds c.turn_filled-first.result c.in-Some.ensures c.turn_filled-first.ensures in
    rw c.put_digits.ensures
    (record {
      long = length_written c.loop-olds.core (2 * (c.loop-olds.pairs - n)) (2 * n) c.turn_filled-first.result.cells ∙ long;
      pairs = omega arith;
      left = omega arith;
      some = omega arith;
      most = omega arith;
      going = rest_on _ _ _ _ _ _
          (fill_next c.loop-olds.core c.loop-olds.pairs c.loop-olds.left n c.turn_filled-first.result.cells (omega arith) (omega arith) s.apart (s.on c.if-first.false))
          c.loop-olds.invariant.going;
    })

pub returns : goal.returns
returns g c = rest_done _ _ _ _ _ _ c.loop-olds.invariant.going c.fill_digits.ensures

pub turn_filled-first-requires-clause-good : goal.turn_filled-first-requires-clause-good
turn_filled-first-requires-clause-good g c = upper_good c.in-Some.olds c.in-Some.ensures.good

pub turn_filled-second-requires-clause-good : goal.turn_filled-second-requires-clause-good
turn_filled-second-requires-clause-good g c = lower_good c.in-Some.olds c.in-Some.ensures.good

-- core stays as sound as it was
pub put_digits-requires : goal.put_digits-requires
put_digits-requires g c =
    let long = c.loop-olds.invariant.long in
    let s = fills_first c.loop-olds.core c.loop-olds.pairs c.loop-olds.left c.in-Some.olds c.turn_filled-first.result c.in-Some.ensures c.turn_filled-first.ensures in
    (omega arith, (omega arith, (omega arith, λ sound. fill_good c.loop-olds.core c.loop-olds.pairs c.loop-olds.left c.turn_filled-first.result s)))

pub put_digits-requires-then-are_still_apart : goal.put_digits-requires-then-are_still_apart
put_digits-requires-then-are_still_apart g c =
    let long = c.loop-olds.invariant.long in
    let f = c.turn_filled-first.result in
    let t = c.turn_filled-second.result in
    let s2 =
    fills_second c.loop-olds.core c.loop-olds.pairs c.loop-olds.left c.in-Some.olds f c.in-Some.ensures c.turn_filled-first.ensures c.loop-olds.whole t (omega arith)
    (c.if-are_still_apart.ensures refl) (c.turn_filled-first.ensures.on c.if-first.false).0 c.turn_filled-second.ensures in
    let core1 = core_with_word c.loop-olds.core (2 * (c.loop-olds.pairs - f.count)) (2 * f.count) f.cells in
    (omega arith, (omega arith, (omega arith, λ sound. fill_good core1 (c.loop-olds.pairs - f.count) (c.loop-olds.left - f.count) t s2)))
