use Rattle.std.proofs.Common.{◌∙◌}
use Rattle.cpu_step.specs.declared.machine.Mode.TheVariants as mode
use Rattle.cpu_step.proofs.KeyFacts.{shown_again}
use Rattle.cpu_step.proofs.machine.Machine.stop.Goals as goal

pub returns-clause-leaves : goal.returns-clause-leaves
returns-clause-leaves g c =
    let stopped = mode.Stopped c.args.kind c.args.self.now.regs.ir in
    shown_again g.row.M (record c.args.self.now { panel = c.show_parity.new.panel; mode = stopped }) _
    ∙ (λ i. record c.args.self.now { panel = c.show_parity.ensures i; mode = stopped })
