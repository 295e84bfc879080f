use Rattle.std.proofs.Common.{ap, ◌∙◌, get_or, refl}
use Rattle.outside_io.specs.declared.host.Unit.TheVariants.{Source}
use Rattle.outside_io.specs.World.{World, all_units}
use Rattle.command_line.specs.Given.{names_in}
use Rattle.ibm1620_cli.proofs.Bindings.{free_yet, bound_here}
use Rattle.ibm1620_cli.proofs.binding.bind_all.Goals as goal

pub bind_if-requires : goal.bind_if-requires
bind_if-requires g c =
    ap (λ (w : World). w.in_use (get_or all_units c.loop-unit.unit-index Source)) c.loop-unit.invariant.world
    ∙ free_yet c.loop-unit.unit-index (names_in c.args.names.now) (g.H.Host.seen c.args.host.now).world c.loop-unit-test.true c.requires

pub loop-unit-preserved : goal.loop-unit-preserved
loop-unit-preserved g c =
    bound_here c.loop-unit.unit-index (names_in c.args.names.now) (g.H.Host.seen c.args.host.now) (g.H.Host.seen c.loop-unit.host) (g.H.Host.seen c.bind_if.new.host) _ _ c.loop-unit-test.true refl c.get.ensures c.loop-unit.invariant c.in-Yes.ensures
