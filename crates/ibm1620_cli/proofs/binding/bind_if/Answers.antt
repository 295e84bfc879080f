use Rattle.std.proofs.Common.{sym, subst}
use Rattle.std.specs.Prelude.{option_copied}
use Rattle.ibm1620_cli.specs.Binding.{BindsIf}
use Rattle.ibm1620_cli.proofs.Bindings.{binds_if_some}
use Rattle.ibm1620_cli.proofs.binding.bind_if.Goals as goal

pub returns-in-Some : goal.returns-in-Some
returns-in-Some g c = subst (λ name. BindsIf (g.H.Host.seen c.args.host.now) (g.H.Host.seen c.bind.new.self) c.args.unit (option_copied name) c.bind.result) (sym c.in-Some.is)
    (binds_if_some _ _ c.args.unit c.in-Some.name.now c.bind.result c.bind.ensures)
