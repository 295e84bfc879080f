-- What the branch did ends the step.
use Rattle.cpu_step.proofs.machine.Machine.branch_step.Goals as goal

pub returns : goal.returns
returns g c = λ now old running acts.
    c.settle.ensures old now now running (acts c.branch_by-outcome.new.self c.branch_by-outcome.result c.branch_by-outcome.ensures)
