-- The reading stops, or the digit is tested.
use Rattle.std.proofs.Common.{sym, not, ◌==◌}
use Rattle.std.proofs.lemmas.Result.{err_from_is_err_and}
use Rattle.branch_ops.proofs.RowLemmas.{stops}
use Rattle.branch_ops.proofs.KnownOperands.{digit_goes}
use Rattle.branch_ops.proofs.rows.bd.Goals as goal

-- the reading stops
pub returns-in_err-d : goal.returns-in_err-d
returns-in_err-d g c = λ panel.
    let e = err_from_is_err_and c.from_residual.result c.from_residual.ensures.1 in
    rw (e.1, e.2) (stops c.args.core.now panel c.args.regs.now _ _ _ (sym c.in_err-d.ensures.is))

-- the digit is tested
pub returns : goal.returns
returns g c = λ panel. rw c.go_if.ensures (digit_goes c.args.core.now panel c.args.regs.now c.args.p c.args.q (λ d. not (d.value == 0)) c.in_ok-d.d (sym c.in_ok-d.ensures.is))
