use Rattle.std.proofs.Common.{refl, ap, subst, ◌∙◌, List, ℕ, ◌≡◌}
use Rattle.std.specs.Prelude.{IfSome}
use Rattle.outside_io.specs.World.{World}
use Rattle.outside_io.specs.declared.host.Unit.TheVariants.{Script, Commands, Source}
use Rattle.operator_script.specs.Scripts.{lines_left}
use Rattle.console_debug.specs.CommandLists.{command_list}
use Rattle.ibm1620_cli.specs.Source.{events_at}
use Rattle.ibm1620_cli.specs.DebugJob.{commands_read, commands_promise}
use Rattle.ibm1620_cli.specs.Promise.{answer_of, world_with_texts}
use Rattle.ibm1620_cli.proofs.Readings.{promise_unread, keeps_read, tells_commands, commands_alone, read_then, unread_then}
use Rattle.ibm1620_cli.proofs.SessionPromises.{commands_apart}
use Rattle.outside_io.specs.declared.host.Unit.TheVariants as units
use Rattle.ibm1620_cli.specs.Inputs.{reads_program}
use Rattle.ibm1620_cli.proofs.debug.debug_under.Goals as goal

pub returns-in-Ok-clause-promise : goal.returns-in-Ok-clause-promise
returns-in-Ok-clause-promise g c =
    let start = g.H.Host.seen c.args.host.now in
    let later = g.H.Host.seen c.read_commands.new.host in
    let kept = c.debug_by.ensures.promise in
    let takes = c.in-Ok.ensures.0 in
    keeps_read Commands refl (commands_read g.row.M) (events_at g.row.M c.args.settings.form) (commands_promise g.row.M c.args.settings (lines_left c.args.script)) start later (g.H.Host.seen c.debug_by.new.host)
    (tells_commands start.world kept.texts (subst (λ (w : World). IfSome (w.left Script) (λ (all : List ℕ). all ≡ kept.texts.script)) takes.goes.world kept.told.script) (subst (λ (w : World). IfSome (w.left Source) (λ (all : List ℕ). all ≡ kept.texts.source)) takes.goes.world kept.told.source)) (command_list c.in-Ok.commands) takes (world_with_texts kept.texts later.world)
    (ap (λ (w : World). commands_promise g.row.M c.args.settings (lines_left c.args.script) (command_list c.in-Ok.commands) (world_with_texts kept.texts w)) takes.goes.world ∙ commands_apart g.row.M c.args.settings (lines_left c.args.script) (command_list c.in-Ok.commands) takes.gone takes.text kept.texts start.world) refl refl (λ P made. made) c.debug_by.result kept.keeps

pub returns-in-Err-clause-promise : goal.returns-in-Err-clause-promise
returns-in-Err-clause-promise g c =
    rw c.of.ensures
    (promise_unread Commands refl (commands_read g.row.M) (events_at g.row.M c.args.settings.form) (commands_promise g.row.M c.args.settings (lines_left c.args.script)) (g.H.Host.seen c.args.host.now) (g.H.Host.seen c.read_commands.new.host) (g.H.Host.seen c.report.new.host) (commands_alone (g.H.Host.seen c.args.host.now).world) c.in-Err.status (answer_of c.report.result) c.in-Err.ensures c.report.ensures (record { console = refl; refusal = refl; statement = refl }))

pub returns-in-Ok-clause-stays : goal.returns-in-Ok-clause-stays
returns-in-Ok-clause-stays g c = read_then units.Commands reads_program (g.H.Host.seen c.args.host.now) (g.H.Host.seen c.read_commands.new.host) (g.H.Host.seen c.debug_by.new.host) _ refl c.in-Ok.ensures.0 c.debug_by.ensures.stays

pub returns-in-Err-clause-stays : goal.returns-in-Err-clause-stays
returns-in-Err-clause-stays g c = unread_then units.Commands reads_program (commands_read g.row.M) (g.H.Host.seen c.args.host.now) (g.H.Host.seen c.read_commands.new.host) (g.H.Host.seen c.report.new.host) c.in-Err.status c.report.result c.in-Err.ensures c.report.ensures
