-- The ways out of a flag's move.
use Rattle.std.proofs.Common.{sym}
use Rattle.std.proofs.lemmas.Result.{err_from_is_err_and}
use Rattle.feature_ops.proofs.Cycles.{flag_unread, flag_unplaced, flag_moved}
use Rattle.feature_ops.proofs.move_flag.Goals as goal

pub returns-in_err-from : goal.returns-in_err-from
returns-in_err-from g c =
    let p = err_from_is_err_and c.from_residual.result c.from_residual.ensures.1 in
    rw (p.1, p.2) (flag_unread _ _ _ _ (sym c.in_err-from.ensures.is))

pub returns-in_err-to : goal.returns-in_err-to
returns-in_err-to g c =
    let p = err_from_is_err_and c.from_residual-in_err-to.result c.from_residual-in_err-to.ensures.1 in
    rw (p.1, p.2) (flag_unplaced _ _ _ c.in_ok-from.from _ (sym c.in_ok-from.ensures.is) (sym c.in_err-to.ensures.is))

pub returns : goal.returns
returns g c = rw (c.put-2.ensures, c.put.ensures) (flag_moved _ _ _ c.in_ok-from.from c.in_ok-to.to (sym c.in_ok-from.ensures.is) (sym c.in_ok-to.ensures.is))
