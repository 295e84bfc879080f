-- The sum of the numbers that were found.
use Rattle.std.proofs.Common.{arith}
use Rattle.table_arith.proofs.NumberDigits.{length_digits}
use Rattle.table_arith.proofs.NumberSums.{power_some, magnitude_below, power_ten, power_small, sum_did}
use Rattle.table_arith.proofs.numbers.store_sum.Goals as goal

pub within-b-requires : goal.within-b-requires
within-b-requires g c = record { power = power_some c.args.core.now c.args.p c.args.x c.requires.x }

pub magnitude_of-magnitude-requires-clause-a : goal.magnitude_of-magnitude-requires-clause-a
magnitude_of-magnitude-requires-clause-a g c = magnitude_below c.args.core.now c.args.p c.args.x c.requires.x

pub overflow_of-overflow-requires-clause-a : goal.overflow_of-overflow-requires-clause-a
overflow_of-overflow-requires-clause-a g c =
    omega (arith, magnitude_below c.args.core.now c.args.p c.args.x c.requires.x, power_small c.args.core.now c.args.p c.args.x c.requires.x)

pub store_number-requires : goal.store_number-requires
store_number-requires g c =
    let n = length_digits c.args.core.now c.args.p c.args.x.digits in
    let room = c.requires.x.field.room in
    let two = c.requires.x.field.two in
    let few = c.requires.x.few in
    let power = power_ten c.args.core.now c.args.p c.args.x c.requires.x in
    let below = c.magnitude_of-magnitude.ensures.below in
    (omega arith, (omega arith, omega arith))

pub returns : goal.returns
returns g c =
    let holds = rw (c.magnitude_of-magnitude.ensures.is, c.minus_of-minus.ensures, c.complements-complement.ensures, c.within-b.ensures.is) at c.store_number.ensures in
    rw (c.magnitude_of-magnitude.ensures.is, c.minus_of-minus.ensures, c.complements-complement.ensures, c.within-b.ensures.is)
    (sum_did c.args.kind c.args.core.now c.args.p c.args.q c.args.x c.args.y c.requires.standard c.requires.x c.requires.y c.requires.apart c.store_number.new.core holds c.overflow_of-overflow.result
    (rw (c.complements-complement.ensures, c.within-b.ensures.is) at c.overflow_of-overflow.ensures))
