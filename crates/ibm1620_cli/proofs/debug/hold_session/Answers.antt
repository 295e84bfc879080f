use Rattle.std.proofs.Common.{refl, ap, arith}
use Rattle.cpu_step.proofs.ExactCards.{load_sound}
use Rattle.ibm1620_cli.specs.declared.status.Status.TheVariants.{HostFault, SessionEnded}
use Rattle.ibm1620_cli.specs.declared.answer.Answer.{Answer}
use Rattle.ibm1620_cli.specs.Report.{report_line}
use Rattle.ibm1620_cli.specs.Parts.{lacks_memory, breaks_key, breaks_session, ends_session}
use Rattle.ibm1620_cli.proofs.DeckPromises.{shows_console, reports_console}
use Rattle.ibm1620_cli.proofs.debug.hold_session.Goals as goal

pub returns-in-Err : goal.returns-in-Err
returns-in-Err g c = lacks_memory c.of.ensures refl

pub returns-in-Err-power_on : goal.returns-in-Err-power_on
returns-in-Err-power_on g c = lacks_memory c.of-in-Err-power_on.ensures refl

pub returns-in-Failed : goal.returns-in-Failed
returns-in-Failed g c =
    breaks_key (ap (λ (a : Answer). a.status) c.with_console.ensures) (record { machine = c.in-Ok-power_on.machine; keyed = c.load_key.new.self; powered = c.in-Ok-power_on.ensures; breaks = c.in-Failed.ensures })
    (shows_console g.row.M c.load_key.new.self c.with_console.result HostFault c.shown.result c.with_console.ensures c.shown.ensures)

pub session-requires : goal.session-requires
session-requires g c =
    let key = load_sound g.row.M c.in-Ok-power_on.machine c.load_key.new.self (g.H.Host.seen c.args.host.now) (g.H.Host.seen c.load_key.new.host) c.load_key.result c.in_default.not-Failed c.load_key.ensures in
    (omega arith, (omega arith, (key.sound, (c.requires.lines, (c.requires.ready.fits, (c.requires.ready.room, c.in-Ok.ensures))))))

pub returns-in-Ended : goal.returns-in-Ended
returns-in-Ended g c =
    let key = load_sound g.row.M c.in-Ok-power_on.machine c.load_key.new.self (g.H.Host.seen c.args.host.now) (g.H.Host.seen c.load_key.new.host) c.load_key.result c.in_default.not-Failed c.load_key.ensures in
    ends_session (g.H.Host.seen c.load_key.new.host) (g.H.Host.seen c.session.new.host) (record { machine = c.in-Ok-power_on.machine; keyed = c.load_key.new.self; powered = c.in-Ok-power_on.ensures; makes = key.makes }) c.session.new.machine c.session.new.script _ c.in-Ended.ensures.does
    (reports_console (g.H.Host.seen c.session.new.host) (g.H.Host.seen c.report-status.new.host) SessionEnded c.report-status.result (report_line SessionEnded) c.shown-in-Ended.result c.with_console-in-Ended.result c.with_console-in-Ended.ensures c.report-status.ensures)
    (shows_console g.row.M c.session.new.machine c.with_console-in-Ended.result c.report-status.result c.shown-in-Ended.result c.with_console-in-Ended.ensures c.shown-in-Ended.ensures)

pub returns : goal.returns
returns g c =
    let key = load_sound g.row.M c.in-Ok-power_on.machine c.load_key.new.self (g.H.Host.seen c.args.host.now) (g.H.Host.seen c.load_key.new.host) c.load_key.result c.in_default.not-Failed c.load_key.ensures in
    breaks_session (g.H.Host.seen c.load_key.new.host) (record { machine = c.in-Ok-power_on.machine; keyed = c.load_key.new.self; powered = c.in-Ok-power_on.ensures; makes = key.makes }) c.session.new.machine c.session.new.script (ap (λ (a : Answer). a.status) c.with_console-in-Failed-session.ensures)
    (shows_console g.row.M c.session.new.machine c.with_console-in-Failed-session.result HostFault c.shown-in-Failed-session.result c.with_console-in-Failed-session.ensures c.shown-in-Failed-session.ensures) c.in-Failed-session.ensures.does
