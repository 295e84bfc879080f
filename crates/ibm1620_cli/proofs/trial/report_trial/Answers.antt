use Rattle.std.proofs.Common.{◌∙◌, ℕ, List, refl, subst, inl}
use Rattle.std.specs.Prelude.{Option}
use Rattle.outside_io.specs.declared.host.Unit.TheVariants.{Report}
use Rattle.outside_io.specs.World.{Goes, world_after_put}
use Rattle.ibm1620_cli.specs.Parts.{ReportsBy}
use Rattle.ibm1620_cli.proofs.trial.report_trial.Goals as goal

pub returns-in-Done : goal.returns-in-Done
returns-in-Done g c =
    subst (λ (o : Option ℕ). ReportsBy o c.args.settings c.args.cards (g.H.Host.seen c.args.host.now) (g.H.Host.seen c.write_all.new.host) c.args.status c.args.status) c.in-Some.ensures
    (inl (refl, subst (λ (line : List ℕ). Goes (g.H.Host.seen c.args.host.now) (g.H.Host.seen c.write_all.new.host) (world_after_put Report line (g.H.Host.seen c.args.host.now).world)) (c.as_bytes.ensures.value ∙ c.deref.ensures.0 ∙ c.trial_line-line.ensures) c.in-Done.ensures))
