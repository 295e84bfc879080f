use Rattle.std.proofs.Common.{◌≡◌, ◌∙◌, length, refl, sym, ap, subst, arith, List}
use Rattle.std.proofs.lemmas.List.{length-map}
use Rattle.outside_io.proofs.EventLemmas.{did_none}
use Rattle.operator_script.specs.declared.script.ScriptLine.{ScriptLine}
use Rattle.deck_punch.specs.declared.form.DeckForm.TheVariants.{SelfLoading}
use Rattle.card_columns.specs.Types.{card_bytes}
use Rattle.ibm1620_cli.specs.Promise.{KeepsPromise}
use Rattle.ibm1620_cli.specs.Source.{program_of, card_count}
use Rattle.ibm1620_cli.specs.RunJob.{turned_promise}
use Rattle.ibm1620_cli.specs.TrialJob.{trial_settings, steps_of, tried_promise}
use Rattle.ibm1620_cli.specs.Inputs.{reads_feed}
use Rattle.ibm1620_cli.proofs.KeptPromises.{promise_memory, stays_on, stays_again, stays_none, stays_same}
use Rattle.ibm1620_cli.proofs.Headlines.{fits_of}
use Rattle.ibm1620_cli.proofs.Runs.{promise_run_behind}
use Rattle.ibm1620_cli.proofs.Trials.{trial_stays, promise_untried, promise_tried}
use Rattle.ibm1620_cli.proofs.trial.try_assembled.Goals as goal

pub returns-in-Err-clause-promise : goal.returns-in-Err-clause-promise
returns-in-Err-clause-promise g c =
    rw c.of.ensures
    (promise_memory (tried_promise c.args.settings c.args.sound.now.source.items (g.H.Host.seen c.args.host.now).world) (g.H.Host.seen c.args.host.now) (g.H.Host.seen c.args.host.now) (did_none (g.H.Host.seen c.args.host.now).world) (λ u read. refl) refl refl)

pub returns-in-Ok-write_source-clause-promise : goal.returns-in-Ok-write_source-clause-promise
returns-in-Ok-write_source-clause-promise g c =
    let cards : c.len-count.result ≡ card_count 1 SelfLoading c.args.sound.now.source.items =
    c.len-count.ensures ∙ c.in-Ok-write_source.cards.ok.0 ∙ sym (length-map c.in-Ok-write_source.cards.items card_bytes) ∙ ap length c.in-Ok-write_source.ensures.does.1.are in
    let fits = fits_of 1 (omega arith, omega arith) SelfLoading c.args.sound.now.source.items c.requires.is.good in
    let kept = c.run_program-ran.ensures.promise (program_of 1 SelfLoading c.args.sound.now.source.items) fits refl refl c.in-Ok-write_source.ensures.does.1.are in
    promise_tried c.args.settings c.args.sound.now.source.items (g.H.Host.seen c.args.host.now) fits (g.H.Host.seen c.run_program-ran.new.host) (g.H.Host.seen c.report_trial-status.new.host) c.run_program-ran.result c.report_trial-status.result c.len-count.result cards
    (omega (arith, c.in-Ok-write_source.ensures.does.0.later, c.run_program-ran.ensures.later)) c.run_program-ran.ensures.unrefused c.run_program-ran.ensures.unstated c.report_trial-status.ensures
    (subst (λ (lines : List ScriptLine). KeepsPromise (turned_promise 1 (trial_settings c.args.settings) lines c.args.sound.now.source.items (g.H.Host.seen c.args.host.now).world) (g.H.Host.seen c.args.host.now) (g.H.Host.seen c.run_program-ran.new.host) c.run_program-ran.result) c.in-Ok.ensures
    (promise_run_behind 1 (trial_settings c.args.settings) _ c.args.sound.now.source.items (g.H.Host.seen c.args.host.now) (g.H.Host.seen c.write_source.new.host) (g.H.Host.seen c.run_program-ran.new.host) c.run_program-ran.result c.in-Ok-write_source.ensures.does.0 kept))

pub returns-in-Ok-write_source-clause-stays : goal.returns-in-Ok-write_source-clause-stays
returns-in-Ok-write_source-clause-stays g c =
    let old = (g.H.Host.seen c.args.host.now).world in
    let written = (g.H.Host.seen c.write_source.new.host).world in
    let ran = (g.H.Host.seen c.run_program-ran.new.host).world in
    let new = (g.H.Host.seen c.report_trial-status.new.host).world in
    stays_on reads_feed old ran new (stays_again old written ran (stays_none reads_feed old written c.in-Ok-write_source.ensures.stays) c.run_program-ran.ensures.stays)
    (trial_stays (steps_of c.run_program-ran.result.status) c.args.settings c.len-count.result (g.H.Host.seen c.run_program-ran.new.host) (g.H.Host.seen c.report_trial-status.new.host) c.run_program-ran.result.status c.report_trial-status.result c.report_trial-status.ensures)

pub returns-in-Err-write_source-clause-promise : goal.returns-in-Err-write_source-clause-promise
returns-in-Err-write_source-clause-promise g c =
    rw c.of-in-Err-write_source.ensures
    (promise_untried c.args.settings c.args.sound.now.source.items (g.H.Host.seen c.args.host.now) (g.H.Host.seen c.write_source.new.host) c.in-Err-write_source.status c.in-Err-write_source.ensures.does)

pub returns-in-Err-clause-stays : goal.returns-in-Err-clause-stays
returns-in-Err-clause-stays g c = stays_same reads_feed (g.H.Host.seen c.args.host.now) (g.H.Host.seen c.args.host.now) refl

pub returns-in-Err-write_source-clause-stays : goal.returns-in-Err-write_source-clause-stays
returns-in-Err-write_source-clause-stays g c = stays_none reads_feed (g.H.Host.seen c.args.host.now).world (g.H.Host.seen c.write_source.new.host).world c.in-Err-write_source.ensures.stays
