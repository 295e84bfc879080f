use Rattle.std.proofs.Common.{◌≡◌, ◌∙◌, ℕ, List, length, sym, ap, subst}
use Rattle.std.proofs.lemmas.List.{length-map}
use Rattle.card_columns.specs.Types.{card_bytes}
use Rattle.ibm1620_cli.specs.Program.{deck_of}
use Rattle.ibm1620_cli.specs.Source.{program_of}
use Rattle.ibm1620_cli.specs.AssembleJob.{assembled_status}
use Rattle.ibm1620_cli.specs.Parts.{Reports}
use Rattle.ibm1620_cli.proofs.Makings.{status_is, promise_written, promise_unwritten}
use Rattle.ibm1620_cli.specs.Inputs.{reads_nothing}
use Rattle.ibm1620_cli.proofs.KeptPromises.{report_stays, stays_on}
use Rattle.ibm1620_cli.proofs.assembly.write_assembled.Goals as goal

pub returns-in-Ok-clause-promise : goal.returns-in-Ok-clause-promise
returns-in-Ok-clause-promise g c =
    let cards : c.len.result ≡ length (deck_of (program_of g.row.M c.args.settings.form c.args.sound.now.source.items)) =
    c.len.ensures ∙ c.in-Ok.cards.ok.0 ∙ sym (length-map c.in-Ok.cards.items card_bytes) ∙ ap (λ (d : List (List ℕ)). length d) c.in-Ok.ensures.does.1.are in
    let status : c.status_of_assembled-status.result ≡ (assembled_status g.row.M c.args.settings.form) c.args.sound.now.source.items = c.status_of_assembled-status.ensures ∙ status_is g.row.M c.args.settings.form c.args.sound.now.source.items c.args.sound.now.assembled c.requires.is c.len.result cards in
    rw c.of.ensures
    (promise_written g.row.M c.args.settings c.args.sound.now.source.items (g.H.Host.seen c.args.host.now) (g.H.Host.seen c.write_source.new.host) (g.H.Host.seen c.report.new.host) c.report.result c.in-Ok.ensures.does.0
    (subst (λ s. Reports (g.H.Host.seen c.write_source.new.host) (g.H.Host.seen c.report.new.host) s c.report.result) status c.report.ensures))

pub returns-in-Err-clause-promise : goal.returns-in-Err-clause-promise
returns-in-Err-clause-promise g c =
    rw c.of-in-Err.ensures
    (promise_unwritten g.row.M c.args.settings c.args.sound.now.source.items (g.H.Host.seen c.args.host.now) (g.H.Host.seen c.write_source.new.host) c.in-Err.status c.in-Err.ensures.does)

pub returns-in-Ok-clause-stays : goal.returns-in-Ok-clause-stays
returns-in-Ok-clause-stays g c = stays_on reads_nothing (g.H.Host.seen c.args.host.now).world (g.H.Host.seen c.write_source.new.host).world (g.H.Host.seen c.report.new.host).world c.in-Ok.ensures.stays (report_stays (g.H.Host.seen c.write_source.new.host) (g.H.Host.seen c.report.new.host) _ _ c.report.result c.report.ensures)
