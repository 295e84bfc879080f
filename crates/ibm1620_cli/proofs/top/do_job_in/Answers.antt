use Rattle.std.proofs.Common.{refl}
use Rattle.digit_core.specs.Size.{size}
use Rattle.sps_pass_two.specs.Broken.{refusal_of}
use Rattle.sps_generator.specs.Generated.{source_deck}
use Rattle.ibm1620_cli.specs.Promise.{world_with_texts}
use Rattle.ibm1620_cli.specs.Source.{running_promise}
use Rattle.ibm1620_cli.specs.GenerateJob.{generate_promise}
use Rattle.ibm1620_cli.specs.TrialJob.{trial_modules, tried_promise, trial_promise}
use Rattle.ibm1620_cli.proofs.Readings.{texts_told, keeps_told}
use Rattle.ibm1620_cli.proofs.Sources.{by_apart}
use Rattle.ibm1620_cli.proofs.top.do_job_in.Goals as goal

pub returns-in-Assemble-clause-told : goal.returns-in-Assemble-clause-told
returns-in-Assemble-clause-told g c =
    rw c.in-Assemble.is
    c.assemble_source.ensures.promise

pub returns-in-Generate-clause-told : goal.returns-in-Generate-clause-told
returns-in-Generate-clause-told g c =
    rw c.in-Generate.is
    (keeps_told (generate_promise c.args.plain.settings) (g.H.Host.seen c.args.host.now).world (g.H.Host.seen c.args.host.now) (g.H.Host.seen c.make_source.new.host) c.make_source.result refl c.make_source.ensures.promise)

pub returns-in-Trial-clause-told : goal.returns-in-Trial-clause-told
returns-in-Trial-clause-told g c =
    let w = (g.H.Host.seen c.args.host.now).world in
    let source = source_deck c.args.plain.settings.statements c.args.plain.settings.number in
    rw c.in-Trial.is
    (keeps_told (trial_promise c.args.plain.settings) w (g.H.Host.seen c.args.host.now) (g.H.Host.seen c.try_source.new.host) c.try_source.result
    (by_apart (running_promise trial_modules (tried_promise c.args.plain.settings)) source (refusal_of (size trial_modules) source) w (world_with_texts (texts_told w) w) refl) c.try_source.ensures.promise)
