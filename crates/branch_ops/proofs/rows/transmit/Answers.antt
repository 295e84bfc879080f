-- The field's move stops, or it is made.
use Rattle.std.proofs.Common.{◌≡◌, ◌==◌, false, arith, rules}
use Rattle.std.proofs.lemmas.Bool.Decides.{nat_tests}
use Rattle.std.proofs.lemmas.Result.{err_from_is_err_and}
use Rattle.branch_ops.proofs.RowLemmas.{move_stops, moves}
use Rattle.branch_ops.proofs.rows.transmit.Goals as goal

-- the move stops
pub returns-in_err-tf-clause-row : goal.returns-in_err-tf-clause-row
returns-in_err-tf-clause-row g c = λ panel.
    let e = err_from_is_err_and c.from_residual.result c.from_residual.ensures.1 in
    let some : (c.args.p == 0) ≡ false = grind (arith, nat_tests) in
    rw (e.1, e.2) (move_stops c.args.core.now panel c.args.regs.now c.args.p c.args.q _ some _ c.in_err-tf.ensures)

-- the field is moved
pub returns-clause-row : goal.returns-clause-row
returns-clause-row g c = λ panel.
    let some : (c.args.p == 0) ≡ false = grind (arith, nat_tests) in
    moves c.args.core.now panel c.args.regs.now c.args.p c.args.q _ some c.in_ok-tf.ensures

pub returns-in_err-tf-clause-stop : goal.returns-in_err-tf-clause-stop
returns-in_err-tf-clause-stop g c = search rules
