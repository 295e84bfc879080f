use Rattle.digit_core.proofs.Sixes.{set_cells}
use Rattle.digit_core.proofs.words.put_six.Goals as goal

pub returns-clause-cells : goal.returns-clause-cells
returns-clause-cells c = rw c.with_six.ensures.is (set_cells c.args.words.now c.args.a c.args.v c.requires.room c.requires.cell)
