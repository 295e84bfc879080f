use Rattle.std.proofs.Common.{◌∙◌, ℕ, List, subst, refl}
use Rattle.outside_io.specs.declared.host.Unit.TheVariants.{Made}
use Rattle.outside_io.specs.World.{Goes, world_after_put}
use Rattle.outside_io.specs.Whole.{Stops}
use Rattle.ibm1620_cli.proofs.Generating.{making_lacks, making_stops, making_reports}
use Rattle.outside_io.specs.declared.host.Unit.TheVariants as units
use Rattle.ibm1620_cli.specs.Inputs.{reads_nothing}
use Rattle.ibm1620_cli.proofs.KeptPromises.{added_stays, report_stays, stays_on, stays_same}
use Rattle.ibm1620_cli.proofs.making.make_source.Goals as goal

pub returns-in-Err-clause-promise : goal.returns-in-Err-clause-promise
returns-in-Err-clause-promise g c = rw c.of.ensures (making_lacks c.args.settings (g.H.Host.seen c.args.host.now))

pub returns-in-Done-clause-promise : goal.returns-in-Done-clause-promise
returns-in-Done-clause-promise g c =
    rw c.of-in-Done.ensures
    (making_reports c.args.settings (g.H.Host.seen c.args.host.now) (g.H.Host.seen c.write_all.new.host) (g.H.Host.seen c.report.new.host) c.report.result
    (subst (λ (text : List ℕ). Goes (g.H.Host.seen c.args.host.now) (g.H.Host.seen c.write_all.new.host) (world_after_put Made text (g.H.Host.seen c.args.host.now).world)) (c.deref.ensures.value ∙ c.in-Ok.ensures) c.in-Done.ensures) c.report.ensures)

pub returns-clause-promise : goal.returns-clause-promise
returns-clause-promise g c =
    rw c.of-in-Failed.ensures
    (making_stops c.args.settings (g.H.Host.seen c.args.host.now) (g.H.Host.seen c.write_all.new.host)
    (subst (λ (text : List ℕ). Stops (g.H.Host.seen c.args.host.now) (g.H.Host.seen c.write_all.new.host) Made text) (c.deref.ensures.value ∙ c.in-Ok.ensures) c.in-Failed.ensures))

pub returns-in-Err-clause-stays : goal.returns-in-Err-clause-stays
returns-in-Err-clause-stays g c = stays_same reads_nothing (g.H.Host.seen c.args.host.now) (g.H.Host.seen c.args.host.now) refl

pub returns-in-Done-clause-stays : goal.returns-in-Done-clause-stays
returns-in-Done-clause-stays g c = stays_on reads_nothing (g.H.Host.seen c.args.host.now).world (g.H.Host.seen c.write_all.new.host).world (g.H.Host.seen c.report.new.host).world (added_stays units.Made _ (g.H.Host.seen c.args.host.now) (g.H.Host.seen c.write_all.new.host) c.in-Done.ensures) (report_stays (g.H.Host.seen c.write_all.new.host) (g.H.Host.seen c.report.new.host) _ _ c.report.result c.report.ensures)

pub returns-clause-stays : goal.returns-clause-stays
returns-clause-stays g c = added_stays units.Made _ (g.H.Host.seen c.args.host.now) (g.H.Host.seen c.write_all.new.host) c.in-Failed.ensures.goes
