use Rattle.operator_script.specs.Scripts.{lines_left}
use Rattle.console_debug.specs.CommandLists.{command_list}
use Rattle.ibm1620_cli.specs.Source.{events_at, running_promise}
use Rattle.ibm1620_cli.specs.DebugJob.{debugged_promise}
use Rattle.ibm1620_cli.proofs.Sources.{promise_sound, ends_at_source, ended_then}
use Rattle.ibm1620_cli.proofs.Running.{promise_ran, running_follows}
use Rattle.ibm1620_cli.proofs.SessionPromises.{debugged_follows}
use Rattle.std.proofs.Common.{refl}
use Rattle.outside_io.specs.declared.host.Unit.TheVariants as units
use Rattle.ibm1620_cli.specs.Inputs.{reads_feed}
use Rattle.ibm1620_cli.proofs.Readings.{read_then}
use Rattle.ibm1620_cli.proofs.debug.debug_by.Goals as goal

pub returns-in-Ok-clause-promise : goal.returns-in-Ok-clause-promise
returns-in-Ok-clause-promise g c =
    let next = debugged_promise g.row.M c.args.given.settings (lines_left c.args.given.script) (command_list c.args.given.commands) in
    let later = g.H.Host.seen c.read_source.new.host in
    let new = g.H.Host.seen c.debug_assembled-answer.new.host in
    promise_sound g.row.M (events_at g.row.M c.args.given.settings.form) (running_promise g.row.M next) c.in-Ok.sound.source.items
    (running_follows g.row.M (events_at g.row.M c.args.given.settings.form) next c.in-Ok.sound.source.items
    (debugged_follows g.row.M c.args.given.settings (lines_left c.args.given.script) (command_list c.args.given.commands) c.in-Ok.sound.source.items))
    (g.H.Host.seen c.args.host.now) later new c.in-Ok.ensures.0 c.with_statement.result c.in-Ok.ensures.1.good
    (promise_ran g.row.M next c.in-Ok.sound later new c.debug_assembled-answer.result c.with_statement.result c.in-Ok.ensures.1 c.with_statement.ensures c.debug_assembled-answer.ensures.promise)

pub returns-in-Err-clause-promise : goal.returns-in-Err-clause-promise
returns-in-Err-clause-promise g c =
    let next = debugged_promise g.row.M c.args.given.settings (lines_left c.args.given.script) (command_list c.args.given.commands) in
    ends_at_source g.row.M (events_at g.row.M c.args.given.settings.form) (running_promise g.row.M next)
    (λ source. running_follows g.row.M (events_at g.row.M c.args.given.settings.form) next source (debugged_follows g.row.M c.args.given.settings (lines_left c.args.given.script) (command_list c.args.given.commands) source))
    (g.H.Host.seen c.args.host.now) (g.H.Host.seen c.read_source.new.host) c.in-Err.answer c.in-Err.ensures

pub returns-in-Ok-clause-stays : goal.returns-in-Ok-clause-stays
returns-in-Ok-clause-stays g c = read_then units.Source reads_feed (g.H.Host.seen c.args.host.now) (g.H.Host.seen c.read_source.new.host) (g.H.Host.seen c.debug_assembled-answer.new.host) _ refl c.in-Ok.ensures.0 c.debug_assembled-answer.ensures.stays

pub returns-in-Err-clause-stays : goal.returns-in-Err-clause-stays
returns-in-Err-clause-stays g c = ended_then reads_feed g.row.M (g.H.Host.seen c.args.host.now) (g.H.Host.seen c.read_source.new.host) c.in-Err.answer c.in-Err.ensures
