-- The indicator is tested.
use Rattle.indicators.specs.Panel.{on}
use Rattle.std.proofs.Common.{not}
use Rattle.branch_ops.proofs.RowLemmas.{tests}
use Rattle.branch_ops.proofs.rows.bni.Goals as goal

pub returns : goal.returns
returns c = λ core.
    rw (c.go_if.ensures, c.test-was_on.ensures.answer)
    (tests core c.args.panel.now c.args.regs.now c.args.p c.args.code (not (on c.args.code c.args.panel.now)) _ c.test-was_on.ensures.panel)
