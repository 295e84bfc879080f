use Rattle.ibm1620_cli.specs.Promise.{nothing_done}
use Rattle.ibm1620_cli.specs.DiskJob.{placing_promise}
use Rattle.ibm1620_cli.proofs.Sources.{promise_sound, ends_at_source, ended_then}
use Rattle.ibm1620_cli.proofs.Placings.{placing_follows}
use Rattle.std.proofs.Common.{refl}
use Rattle.outside_io.specs.declared.host.Unit.TheVariants as units
use Rattle.ibm1620_cli.specs.Inputs.{reads_pack}
use Rattle.ibm1620_cli.proofs.Readings.{read_then}
use Rattle.ibm1620_cli.proofs.disk.place_source.Goals as goal

pub returns-in-Ok-clause-promise : goal.returns-in-Ok-clause-promise
returns-in-Ok-clause-promise g c =
    promise_sound g.row.M nothing_done (placing_promise g.row.M) c.in-Ok.sound.source.items (placing_follows g.row.M c.in-Ok.sound.source.items) (g.H.Host.seen c.args.host.now) (g.H.Host.seen c.read_source.new.host) (g.H.Host.seen c.place_assembled.new.host) c.in-Ok.ensures.0 c.place_assembled.result c.in-Ok.ensures.1.good
    c.place_assembled.ensures.promise

pub returns-in-Err-clause-promise : goal.returns-in-Err-clause-promise
returns-in-Err-clause-promise g c =
    ends_at_source g.row.M nothing_done (placing_promise g.row.M) (placing_follows g.row.M) (g.H.Host.seen c.args.host.now) (g.H.Host.seen c.read_source.new.host) c.in-Err.answer c.in-Err.ensures

pub returns-in-Ok-clause-stays : goal.returns-in-Ok-clause-stays
returns-in-Ok-clause-stays g c = read_then units.Source reads_pack (g.H.Host.seen c.args.host.now) (g.H.Host.seen c.read_source.new.host) (g.H.Host.seen c.place_assembled.new.host) _ refl c.in-Ok.ensures.0 c.place_assembled.ensures.stays

pub returns-in-Err-clause-stays : goal.returns-in-Err-clause-stays
returns-in-Err-clause-stays g c = ended_then reads_pack g.row.M (g.H.Host.seen c.args.host.now) (g.H.Host.seen c.read_source.new.host) c.in-Err.answer c.in-Err.ensures
