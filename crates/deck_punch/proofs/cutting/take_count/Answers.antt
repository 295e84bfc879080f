use Rattle.std.proofs.Common.{◌≡◌, ◌-◌, ◌<◌, length, arith}
use Rattle.deck_punch.proofs.Taking.{take_last, take_flagged, take_on, all_taken}
use Rattle.deck_punch.proofs.cutting.take_count.Goals as goal
use Rattle.deck_punch.proofs.cutting.take_count.Goals.{then-digits-i+else-left-eq0, else-digits-i}

pub returns-then-left-eq0-clause-is : goal.returns-then-left-eq0-clause-is
returns-then-left-eq0-clause-is c =
    let room : c.loop-i.i < c.args.room = omega (arith, c.loop-i-test.true, c.min-most.ensures) in
    let more : c.loop-i.i < length c.args.digits.now = omega (arith, c.loop-i-test.true, c.min-most.ensures) in
    let none : c.loop-i.left - 1 ≡ 0 = omega arith in
    let last = take_last c.args.room c.args.digits.now c.loop-i.i room more c.loop-i.left c.loop-i.invariant.some none c.if-digits-i.true in
    omega (arith, c.loop-i.invariant.whole, last)

pub loop-i-preserved : goal.loop-i-preserved
loop-i-preserved c =
    let room : c.loop-i.i < c.args.room = omega (arith, c.loop-i-test.true, c.min-most.ensures) in
    let more : c.loop-i.i < length c.args.digits.now = omega (arith, c.loop-i-test.true, c.min-most.ensures) in
    elim c.if-digits-i.branch [
      | then-digits-i+else-left-eq0 w ↦
          let on = take_flagged c.args.room c.args.digits.now c.loop-i.i room more c.loop-i.left c.loop-i.invariant.some w.if-digits-i.true in
          record { some = omega arith; whole = rw w.left-is (omega (arith, c.loop-i.invariant.whole, on)) }
      | else-digits-i w ↦
          let on = take_on c.args.room c.args.digits.now c.loop-i.i room more c.loop-i.left c.loop-i.invariant.some w.if-digits-i.false in
          record { some = omega arith; whole = rw w.left-is (omega (arith, c.loop-i.invariant.whole, on)) }
    ]

pub returns-clause-is : goal.returns-clause-is
returns-clause-is c = all_taken c.args.room c.args.digits.now c.args.flags c.loop-i.left c.loop-i.i c.min-most.result c.min-most.ensures c.loop-i.auto.i-end c.loop-i-test.false c.loop-i.invariant.whole
