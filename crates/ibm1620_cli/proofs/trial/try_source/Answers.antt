use Rattle.std.proofs.Common.{◌∙◌, ℕ, List, sym, ap, subst, refl}
use Rattle.outside_io.specs.World.{Seen}
use Rattle.digit_core.specs.Size.{size}
use Rattle.sps_pass_two.specs.Broken.{refusal_of}
use Rattle.ibm1620_cli.specs.Promise.{KeepsPromise}
use Rattle.ibm1620_cli.specs.Source.{running_promise}
use Rattle.ibm1620_cli.specs.TrialJob.{tried_promise}
use Rattle.ibm1620_cli.specs.Parts.{RefusesSource, LeavesUnread}
use Rattle.ibm1620_cli.proofs.Running.{promise_ran}
use Rattle.ibm1620_cli.proofs.Trials.{trial_lacks, trial_refused, trial_unbroken}
use Rattle.ibm1620_cli.specs.Inputs.{reads_feed}
use Rattle.ibm1620_cli.proofs.KeptPromises.{stays_none, stays_same}
use Rattle.ibm1620_cli.proofs.Sources.{refuses_stays}
use Rattle.ibm1620_cli.proofs.trial.try_source.Goals as goal

pub returns-in-Err-clause-promise : goal.returns-in-Err-clause-promise
returns-in-Err-clause-promise g c = rw c.of.ensures (trial_lacks c.args.settings (g.H.Host.seen c.args.host.now))

pub returns-in-Ok-assemble_or_refuse-clause-promise : goal.returns-in-Ok-assemble_or_refuse-clause-promise
returns-in-Ok-assemble_or_refuse-clause-promise g c =
    let sound = c.in-Ok-assemble_or_refuse.ensures in
    let made = sound.0 ∙ c.in-Ok.ensures in
    let start = g.H.Host.seen c.args.host.now in
    let new = g.H.Host.seen c.try_assembled-answer.new.host in
    let next = tried_promise c.args.settings in
    let stated = c.with_statement.result in
    trial_unbroken c.args.settings start new stated (ap (λ (t : List ℕ). refusal_of (size 1) t) (sym made) ∙ sound.1.good)
    (subst (λ (t : List ℕ). KeepsPromise (running_promise 1 next t start.world) start new stated) made
    (subst (λ (mid : Seen). KeepsPromise (running_promise 1 next c.in-Ok-assemble_or_refuse.sound.source.items mid.world) mid new stated) sound.2
    (promise_ran 1 next c.in-Ok-assemble_or_refuse.sound (g.H.Host.seen c.assemble_or_refuse.new.host) new c.try_assembled-answer.result stated sound.1 c.with_statement.ensures c.try_assembled-answer.ensures.promise)))

pub returns-in-Err-assemble_or_refuse-clause-promise : goal.returns-in-Err-assemble_or_refuse-clause-promise
returns-in-Err-assemble_or_refuse-clause-promise g c =
    trial_refused c.args.settings (g.H.Host.seen c.args.host.now) (g.H.Host.seen c.assemble_or_refuse.new.host) c.in-Err-assemble_or_refuse.answer
    (subst (λ (t : List ℕ). RefusesSource 1 t (g.H.Host.seen c.args.host.now) (g.H.Host.seen c.assemble_or_refuse.new.host) c.in-Err-assemble_or_refuse.answer) c.in-Ok.ensures c.in-Err-assemble_or_refuse.ensures)

pub returns-in-Err-clause-stays : goal.returns-in-Err-clause-stays
returns-in-Err-clause-stays g c = stays_same reads_feed (g.H.Host.seen c.args.host.now) (g.H.Host.seen c.args.host.now) refl

pub returns-in-Ok-assemble_or_refuse-clause-stays : goal.returns-in-Ok-assemble_or_refuse-clause-stays
returns-in-Ok-assemble_or_refuse-clause-stays g c = subst (λ (mid : Seen). LeavesUnread reads_feed mid.world (g.H.Host.seen c.try_assembled-answer.new.host).world) c.in-Ok-assemble_or_refuse.ensures.2 c.try_assembled-answer.ensures.stays

pub returns-in-Err-assemble_or_refuse-clause-stays : goal.returns-in-Err-assemble_or_refuse-clause-stays
returns-in-Err-assemble_or_refuse-clause-stays g c = stays_none reads_feed (g.H.Host.seen c.args.host.now).world (g.H.Host.seen c.assemble_or_refuse.new.host).world (refuses_stays 1 _ (g.H.Host.seen c.args.host.now) (g.H.Host.seen c.assemble_or_refuse.new.host) c.in-Err-assemble_or_refuse.answer c.in-Err-assemble_or_refuse.ensures)
