use Rattle.ibm1620_cli.specs.Promise.{nothing_done}
use Rattle.ibm1620_cli.specs.AssembleJob.{written_promise}
use Rattle.ibm1620_cli.proofs.Sources.{promise_sound, ends_at_source, ended_stays}
use Rattle.ibm1620_cli.proofs.Makings.{written_follows}
use Rattle.outside_io.specs.declared.host.Unit.TheVariants as units
use Rattle.ibm1620_cli.specs.Inputs.{reads_source}
use Rattle.ibm1620_cli.proofs.KeptPromises.{stays_on}
use Rattle.ibm1620_cli.proofs.Readings.{takes_stays}
use Rattle.ibm1620_cli.proofs.assembly.assemble_source.Goals as goal

pub returns-in-Ok-clause-promise : goal.returns-in-Ok-clause-promise
returns-in-Ok-clause-promise g c =
    promise_sound g.row.M nothing_done (written_promise g.row.M c.args.settings) c.in-Ok.sound.source.items (written_follows g.row.M c.args.settings c.in-Ok.sound.source.items) (g.H.Host.seen c.args.host.now) (g.H.Host.seen c.read_source.new.host) (g.H.Host.seen c.write_assembled.new.host) c.in-Ok.ensures.0 c.write_assembled.result c.in-Ok.ensures.1.good
    c.write_assembled.ensures.promise

pub returns-in-Err-clause-promise : goal.returns-in-Err-clause-promise
returns-in-Err-clause-promise g c =
    ends_at_source g.row.M nothing_done (written_promise g.row.M c.args.settings) (written_follows g.row.M c.args.settings) (g.H.Host.seen c.args.host.now) (g.H.Host.seen c.read_source.new.host) c.in-Err.answer c.in-Err.ensures

pub returns-in-Ok-clause-stays : goal.returns-in-Ok-clause-stays
returns-in-Ok-clause-stays g c = stays_on reads_source (g.H.Host.seen c.args.host.now).world (g.H.Host.seen c.read_source.new.host).world (g.H.Host.seen c.write_assembled.new.host).world (takes_stays units.Source (g.H.Host.seen c.args.host.now) (g.H.Host.seen c.read_source.new.host) _ c.in-Ok.ensures.0) c.write_assembled.ensures.stays

pub returns-in-Err-clause-stays : goal.returns-in-Err-clause-stays
returns-in-Err-clause-stays g c = ended_stays g.row.M (g.H.Host.seen c.args.host.now) (g.H.Host.seen c.read_source.new.host) c.in-Err.answer c.in-Err.ensures
