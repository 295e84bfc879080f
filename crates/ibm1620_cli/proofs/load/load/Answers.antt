use Rattle.std.proofs.Common.{refl, ap}
use Rattle.operator_script.specs.Scripts.{lines_left}
use Rattle.outside_io.specs.declared.host.Unit.TheVariants.{Script}
use Rattle.ibm1620_cli.specs.Promise.{answer_of, nothing_done}
use Rattle.ibm1620_cli.specs.LoadJob.{script_read, loaded_promise}
use Rattle.ibm1620_cli.proofs.Readings.{keeps_read, promise_unread, script_alone, read_then, unread_then}
use Rattle.outside_io.specs.declared.host.Unit.TheVariants as units
use Rattle.ibm1620_cli.specs.Inputs.{reads_feed}
use Rattle.ibm1620_cli.proofs.load.load.Goals as goal

pub returns-in-Ok-clause-promise : goal.returns-in-Ok-clause-promise
returns-in-Ok-clause-promise g c =
    let start = g.H.Host.seen c.args.host.now in
    let later = g.H.Host.seen c.read_script.new.host in
    keeps_read Script refl (script_read g.row.M) nothing_done (loaded_promise g.row.M c.args.settings) start later (g.H.Host.seen c.load_deck.new.host) (script_alone start.world) (lines_left c.in-Ok.script) c.in-Ok.ensures.0 later.world
    (ap (loaded_promise g.row.M c.args.settings (lines_left c.in-Ok.script)) c.in-Ok.ensures.0.goes.world) refl refl (λ P made. made) c.load_deck.result c.load_deck.ensures.promise

pub returns-in-Err-clause-promise : goal.returns-in-Err-clause-promise
returns-in-Err-clause-promise g c =
    rw c.of.ensures
    (promise_unread Script refl (script_read g.row.M) nothing_done (loaded_promise g.row.M c.args.settings) (g.H.Host.seen c.args.host.now) (g.H.Host.seen c.read_script.new.host) (g.H.Host.seen c.report.new.host) (script_alone (g.H.Host.seen c.args.host.now).world) c.in-Err.status (answer_of c.report.result) c.in-Err.ensures c.report.ensures (record { console = refl; refusal = refl; statement = refl }))

pub returns-in-Ok-clause-stays : goal.returns-in-Ok-clause-stays
returns-in-Ok-clause-stays g c = read_then units.Script reads_feed (g.H.Host.seen c.args.host.now) (g.H.Host.seen c.read_script.new.host) (g.H.Host.seen c.load_deck.new.host) _ refl c.in-Ok.ensures.0 c.load_deck.ensures.stays

pub returns-in-Err-clause-stays : goal.returns-in-Err-clause-stays
returns-in-Err-clause-stays g c = unread_then units.Script reads_feed (script_read g.row.M) (g.H.Host.seen c.args.host.now) (g.H.Host.seen c.read_script.new.host) (g.H.Host.seen c.report.new.host) c.in-Err.status c.report.result c.in-Err.ensures c.report.ensures
