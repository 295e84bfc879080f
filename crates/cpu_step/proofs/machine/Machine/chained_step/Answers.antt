-- What the instruction did ends the step.
use Rattle.cpu_step.proofs.machine.Machine.chained_step.Goals as goal

pub returns : goal.returns
returns g c = λ old running acts.
    c.settle.ensures old (g.H.Host.seen c.args.host.now) (g.H.Host.seen c.through_chains-outcome.new.host) running (acts c.through_chains-outcome.new.self c.through_chains-outcome.result c.through_chains-outcome.ensures)
