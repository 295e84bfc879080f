-- The ways out of the cycles of a fill.
use Rattle.std.proofs.Common.{sym, arith}
use Rattle.std.proofs.lemmas.Result.{err_from_is_err_and}
use Rattle.feature_ops.proofs.Cycles.{fill_out, fill_stop, fill_end, fill_on, left_next}
use Rattle.feature_ops.proofs.fill_digits.Goals as goal

-- a digit is not read
pub returns-in_err-d : goal.returns-in_err-d
returns-in_err-d g c =
    let p = err_from_is_err_and c.from_residual.result c.from_residual.ensures.1 in
    rw (p.1, p.2) (fill_stop _ _ _ (c.args.pairs) c.args.left c.loop-i.i (omega arith) _ (sym c.in_err-d.ensures.is) c.loop-i.invariant)

-- the field ends
pub returns-then-d : goal.returns-then-d
returns-then-d g c =
    rw c.put_pair.ensures (fill_end _ _ _ (c.args.pairs) c.args.left c.loop-i.i (omega arith) c.in_ok-d.d (sym c.in_ok-d.ensures.is) c.if-d.true c.loop-i.invariant)

-- the field goes on
pub loop-i-preserved : goal.loop-i-preserved
loop-i-preserved g c =
    rw (c.put_pair.ensures, left_next (c.args.pairs) c.loop-i.i, left_next c.args.left c.loop-i.i)
    (fill_on _ _ _ (c.args.pairs) c.args.left c.loop-i.i (omega arith) c.in_ok-d.d (sym c.in_ok-d.ensures.is) c.if-d.false c.loop-i.invariant)

-- nothing is left below P or Q
pub returns : goal.returns
returns g c = fill_out _ _ _ (c.args.pairs) c.args.left c.loop-i.i (omega arith) c.loop-i.invariant
