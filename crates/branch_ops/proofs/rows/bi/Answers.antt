-- The indicator is tested.
use Rattle.indicators.specs.Panel.{on}
use Rattle.branch_ops.proofs.RowLemmas.{tests}
use Rattle.branch_ops.proofs.rows.bi.Goals as goal

pub returns : goal.returns
returns c = λ core.
    rw (c.go_if.ensures, c.test-on.ensures.answer)
    (tests core c.args.panel.now c.args.regs.now c.args.p c.args.code (on c.args.code c.args.panel.now) _ c.test-on.ensures.panel)
