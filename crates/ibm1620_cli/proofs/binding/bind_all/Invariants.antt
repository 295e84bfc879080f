use Rattle.command_line.specs.Given.{names_in}
use Rattle.ibm1620_cli.specs.Binding.{first_bound}
use Rattle.outside_io.specs.World.{Goes}
use Rattle.ibm1620_cli.proofs.binding.bind_all.Given as goal

abbrev pub invariant-loop-unit : goal.invariant-loop-unit
invariant-loop-unit g l = Goes (g.H.Host.seen l.initial.host) (g.H.Host.seen l.host) (first_bound l.unit-index (names_in l.names) (g.H.Host.seen l.initial.host).world)
