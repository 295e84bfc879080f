-- The ways out of the cycles of a strip.
use Rattle.std.proofs.Common.{sym, arith}
use Rattle.std.proofs.lemmas.Result.{err_from_is_err_and}
use Rattle.feature_ops.proofs.Cycles.{strip_out, strip_from_stop, strip_to_stop, strip_end, strip_on, left_next}
use Rattle.feature_ops.proofs.strip_digits.Goals as goal

-- a digit at P is not read
pub returns-in_err-from : goal.returns-in_err-from
returns-in_err-from g c =
    let p = err_from_is_err_and c.from_residual.result c.from_residual.ensures.1 in
    rw (p.1, p.2) (strip_from_stop _ _ _ (c.args.pairs) c.args.left c.loop-i.i (omega arith) _ (sym c.in_err-from.ensures.is) c.loop-i.invariant)

-- one at Q is not read
pub returns-in_err-to : goal.returns-in_err-to
returns-in_err-to g c =
    let p = err_from_is_err_and c.from_residual-in_err-to.result c.from_residual-in_err-to.ensures.1 in
    rw (p.1, p.2) (strip_to_stop _ _ _ (c.args.pairs) c.args.left c.loop-i.i (omega arith) c.in_ok-from.from (sym c.in_ok-from.ensures.is) _ (sym c.in_err-to.ensures.is) c.loop-i.invariant)

-- the field ends
pub returns-then-to : goal.returns-then-to
returns-then-to g c =
    rw c.put.ensures (strip_end _ _ _ (c.args.pairs) c.args.left c.loop-i.i (omega arith) c.in_ok-from.from (sym c.in_ok-from.ensures.is) c.in_ok-to.to (sym c.in_ok-to.ensures.is) c.if-to.true c.loop-i.invariant)

-- the field goes on
pub loop-i-preserved : goal.loop-i-preserved
loop-i-preserved g c =
    rw (c.put.ensures, left_next (c.args.pairs) c.loop-i.i, left_next c.args.left c.loop-i.i)
    (strip_on _ _ _ (c.args.pairs) c.args.left c.loop-i.i (omega arith) c.in_ok-from.from (sym c.in_ok-from.ensures.is) c.in_ok-to.to (sym c.in_ok-to.ensures.is) c.if-to.false c.loop-i.invariant)

-- nothing is left below P or Q
pub returns : goal.returns
returns g c = strip_out _ _ _ (c.args.pairs) c.args.left c.loop-i.i (omega arith) c.loop-i.invariant
