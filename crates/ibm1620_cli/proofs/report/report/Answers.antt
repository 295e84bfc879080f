use Rattle.std.proofs.Common.{List, ℕ, refl, ◌∙◌, subst, inl}
use Rattle.outside_io.specs.declared.host.Unit.TheVariants as units
use Rattle.outside_io.specs.World.{Goes, world_after_put}
use Rattle.ibm1620_cli.proofs.report.report.Goals as goal

pub returns-in-Done : goal.returns-in-Done
returns-in-Done g c =
    inl (refl, subst (λ (line : List ℕ). Goes (g.H.Host.seen c.args.host.now) (g.H.Host.seen c.write_all.new.host) (world_after_put units.Report line (g.H.Host.seen c.args.host.now).world)) (c.as_bytes.ensures.value ∙ c.deref.ensures.0 ∙ c.line.ensures) c.in-Done.ensures)
