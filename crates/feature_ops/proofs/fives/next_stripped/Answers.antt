-- A turn of a strip: ten digits or five, or those up to the field's end.
use Rattle.std.proofs.Common.{◌≡◌, ◌<◌, ◌/◌, ◌^◌, ℕ, false, refl, arith}
use Rattle.digit_core.specs.Cell.{has_flag}
use Rattle.digit_core.specs.Packed.{six}
use Rattle.digit_core.proofs.Sixes.{six_of_high}
use Rattle.feature_ops.proofs.Flags.{joined_unflagged}
use Rattle.feature_ops.proofs.Words.{upper, odd_digits, odd_joined, strips_of}
use Rattle.feature_ops.proofs.fives.next_stripped.Goals as goal

highest : (w : ℕ) → ((j : ℕ) → j < 9 → has_flag (six (w / 2 ^ 30) j) ≡ false) → has_flag (six w 9) ≡ false
highest w h = rw (six_of_high w 5 4) at (h 4 (omega arith))

pub turn_stripped-requires-clause-highest : goal.turn_stripped-requires-clause-highest
turn_stripped-requires-clause-highest g c = highest c.ten-olds.result (c.if-are_unflagged.ensures refl)

pub returns-then-are_good-2 : goal.returns-then-are_good-2
returns-then-are_good-2 g c =
    let apart = c.if-are_apart.ensures.apart refl in
    let low = c.odd_cells-low.result in
    let high = c.odd_cells-high.result in
    let low_small = c.odd_cells-low.ensures.small in
    let high_small = c.odd_cells-high.ensures.small in
    let unflagged = joined_unflagged low high low_small high_small (c.if-are_unflagged-2.ensures refl) (c.if-not-are_unflagged.ensures refl) in
    strips_of c.args.core.now c.args.pairs c.args.left 10 c.ten-olds.result _ c.turn_stripped.result (omega arith) apart c.ten-olds.ensures.cells
    (odd_joined c.args.core.now c.args.pairs c.ten-then-are_apart.result c.ten.result low high apart.p low_small high_small
    c.ten-then-are_apart.ensures.cells c.odd_cells-low.ensures.cells c.ten.ensures.cells c.odd_cells-high.ensures.cells)
    (c.if-are_good.ensures.yes refl) (λ j l. (c.if-are_good-2.ensures.yes refl j l, unflagged j l)) c.turn_stripped.ensures

pub returns : goal.returns
returns g c =
    let apart = c.if-not-are_apart.ensures.apart refl in
    let unflagged = c.if-not-are_unflagged.ensures refl in
    strips_of c.args.core.now c.args.pairs c.args.left 5 (c.ten-olds.result / 2 ^ 30) c.odd_cells-high.result c.turn_stripped-2.result (omega arith) apart
    (upper c.args.core.now c.args.left c.ten-olds.result (c.if-not-are_apart.ensures.ten refl) c.ten-olds.ensures.cells)
    (odd_digits c.args.core.now c.args.pairs c.ten.result c.odd_cells-high.result apart.p c.ten.ensures.cells c.odd_cells-high.ensures.cells)
    (c.if-not-both_are_good.ensures.olds refl) (λ j l. (c.if-not-both_are_good.ensures.five refl j l, unflagged j (omega arith))) c.turn_stripped-2.ensures
