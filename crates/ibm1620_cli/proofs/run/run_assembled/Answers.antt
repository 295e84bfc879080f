use Rattle.std.proofs.Common.{refl}
use Rattle.operator_script.specs.Scripts.{lines_left}
use Rattle.ibm1620_cli.specs.Source.{program_of}
use Rattle.ibm1620_cli.proofs.Headlines.{fits_of}
use Rattle.ibm1620_cli.proofs.Runs.{promise_run_behind, promise_run_unwritten}
use Rattle.ibm1620_cli.specs.Inputs.{reads_feed}
use Rattle.ibm1620_cli.proofs.KeptPromises.{stays_again, stays_none}
use Rattle.ibm1620_cli.proofs.run.run_assembled.Goals as goal

pub returns-in-Ok-clause-promise : goal.returns-in-Ok-clause-promise
returns-in-Ok-clause-promise g c =
    promise_run_behind g.row.M c.args.settings (lines_left c.args.script) c.args.sound.now.source.items (g.H.Host.seen c.args.host.now) (g.H.Host.seen c.write_source.new.host) (g.H.Host.seen c.run_program.new.host) c.run_program.result c.in-Ok.ensures.does.0
    (c.run_program.ensures.promise (program_of g.row.M c.args.settings.form c.args.sound.now.source.items) (fits_of g.row.M c.requires.size c.args.settings.form c.args.sound.now.source.items c.requires.is.good) refl refl c.in-Ok.ensures.does.1.are)

pub returns-in-Err-clause-promise : goal.returns-in-Err-clause-promise
returns-in-Err-clause-promise g c =
    rw c.of.ensures
    (promise_run_unwritten g.row.M c.args.settings (lines_left c.args.script) c.args.sound.now.source.items (g.H.Host.seen c.args.host.now) (g.H.Host.seen c.write_source.new.host) c.in-Err.status c.in-Err.ensures.does)

pub returns-in-Ok-clause-stays : goal.returns-in-Ok-clause-stays
returns-in-Ok-clause-stays g c = stays_again (g.H.Host.seen c.args.host.now).world (g.H.Host.seen c.write_source.new.host).world (g.H.Host.seen c.run_program.new.host).world (stays_none reads_feed (g.H.Host.seen c.args.host.now).world (g.H.Host.seen c.write_source.new.host).world c.in-Ok.ensures.stays) c.run_program.ensures.stays

pub returns-in-Err-clause-stays : goal.returns-in-Err-clause-stays
returns-in-Err-clause-stays g c = stays_none reads_feed (g.H.Host.seen c.args.host.now).world (g.H.Host.seen c.write_source.new.host).world c.in-Err.ensures.stays
