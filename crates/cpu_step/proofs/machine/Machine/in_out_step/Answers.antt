-- What the row did ends the step.
use Rattle.cpu_step.proofs.machine.Machine.in_out_step.Goals as goal

pub returns : goal.returns
returns g c = λ old running acts.
    c.settle.ensures old (g.H.Host.seen c.args.host.now) (g.H.Host.seen c.in_out-outcome.new.host) running (acts c.in_out-outcome.new.self c.in_out-outcome.result c.in_out-outcome.ensures)
