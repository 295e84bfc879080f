use Rattle.std.proofs.Common.{refl, ap, subst, ◌∙◌, List, ℕ, ◌≡◌}
use Rattle.std.specs.Prelude.{IfSome}
use Rattle.outside_io.specs.World.{World}
use Rattle.outside_io.specs.declared.host.Unit.TheVariants.{Script, Commands, Source}
use Rattle.operator_script.specs.Scripts.{lines_left}
use Rattle.ibm1620_cli.specs.Source.{events_at}
use Rattle.ibm1620_cli.specs.LoadJob.{script_read}
use Rattle.ibm1620_cli.specs.DebugJob.{lines_promise}
use Rattle.ibm1620_cli.specs.Promise.{answer_of, world_with_texts}
use Rattle.ibm1620_cli.proofs.Readings.{promise_unread, keeps_read, tells_script, script_alone, read_then, unread_then}
use Rattle.ibm1620_cli.proofs.SessionPromises.{script_apart}
use Rattle.outside_io.specs.declared.host.Unit.TheVariants as units
use Rattle.ibm1620_cli.specs.Inputs.{reads_session}
use Rattle.ibm1620_cli.proofs.debug.debug_source.Goals as goal

pub returns-in-Ok-clause-promise : goal.returns-in-Ok-clause-promise
returns-in-Ok-clause-promise g c =
    let start = g.H.Host.seen c.args.host.now in
    let later = g.H.Host.seen c.read_script.new.host in
    let kept = c.debug_under.ensures.promise in
    let takes = c.in-Ok.ensures.0 in
    keeps_read Script refl (script_read g.row.M) (events_at g.row.M c.args.settings.form) (lines_promise g.row.M c.args.settings) start later (g.H.Host.seen c.debug_under.new.host)
    (tells_script start.world kept.texts (subst (λ (w : World). IfSome (w.left Commands) (λ (all : List ℕ). all ≡ kept.texts.commands)) takes.goes.world kept.told.commands) (subst (λ (w : World). IfSome (w.left Source) (λ (all : List ℕ). all ≡ kept.texts.source)) takes.goes.world kept.told.source)) (lines_left c.in-Ok.script) takes (world_with_texts kept.texts later.world)
    (ap (λ (w : World). lines_promise g.row.M c.args.settings (lines_left c.in-Ok.script) (world_with_texts kept.texts w)) takes.goes.world ∙ script_apart g.row.M c.args.settings (lines_left c.in-Ok.script) takes.gone takes.text kept.texts start.world) refl refl (λ P made. made) c.debug_under.result kept.keeps

pub returns-in-Err-clause-promise : goal.returns-in-Err-clause-promise
returns-in-Err-clause-promise g c =
    rw c.of.ensures
    (promise_unread Script refl (script_read g.row.M) (events_at g.row.M c.args.settings.form) (lines_promise g.row.M c.args.settings) (g.H.Host.seen c.args.host.now) (g.H.Host.seen c.read_script.new.host) (g.H.Host.seen c.report.new.host) (script_alone (g.H.Host.seen c.args.host.now).world) c.in-Err.status (answer_of c.report.result) c.in-Err.ensures c.report.ensures (record { console = refl; refusal = refl; statement = refl }))

pub returns-in-Ok-clause-stays : goal.returns-in-Ok-clause-stays
returns-in-Ok-clause-stays g c = read_then units.Script reads_session (g.H.Host.seen c.args.host.now) (g.H.Host.seen c.read_script.new.host) (g.H.Host.seen c.debug_under.new.host) _ refl c.in-Ok.ensures.0 c.debug_under.ensures.stays

pub returns-in-Err-clause-stays : goal.returns-in-Err-clause-stays
returns-in-Err-clause-stays g c = unread_then units.Script reads_session (script_read g.row.M) (g.H.Host.seen c.args.host.now) (g.H.Host.seen c.read_script.new.host) (g.H.Host.seen c.report.new.host) c.in-Err.status c.report.result c.in-Err.ensures c.report.ensures
