use Rattle.std.proofs.Common.{◌∙◌, ap, subst, map, string_bytes, refl, inl, inr}
use Rattle.std.specs.Prelude.{Option, None, Some, Ok}
use Rattle.command_line.specs.declared.given.Plain.{Plain}
use Rattle.command_line.specs.Words.{WordsSaid, plain, names_of}
use Rattle.ibm1620_cli.specs.declared.status.Status.TheVariants.{OutOfMemory}
use Rattle.ibm1620_cli.specs.Binding.{BindsNamed}
use Rattle.ibm1620_cli.specs.Promise.{answer_of}
use Rattle.ibm1620_cli.specs.Job.{DoesWords, KeepsSaid, LacksWords}
use Rattle.ibm1620_cli.proofs.Jobs.{usage_said, usage_binds, usage_unread, same_unread}
use Rattle.ibm1620_cli.proofs.AnswersByWords.{answers_told, lacked_plain, read_means}
use Rattle.ibm1620_cli.proofs.top.ibm1620_read.Goals as goal

pub returns-in-Ok-None : goal.returns-in-Ok-None
returns-in-Ok-None g c =
    let old = g.H.Host.seen c.args.host.now in
    let new = g.H.Host.seen c.report.new.host in
    let says = read_means c.args.read.now None (c.in-Ok-None.is ∙ ap (λ (read : Option Plain). Ok read) (rw c.in-Ok-None.is at c.in-Ok-None.field-0-is)) in
    rw c.of.ensures
    (answers_told (map string_bytes c.args.read.now.words.now) old new (answer_of c.report.result) c.requires
    (inl (subst (λ (said : Option WordsSaid). DoesWords said old new (answer_of c.report.result)) says (usage_said old new c.report.result c.report.ensures)))
    (inl (subst (λ (said : Option WordsSaid). BindsNamed (names_of said) old.world new.world c.report.result) says (usage_binds old new c.report.result c.report.ensures)))
    (subst (λ (said : Option WordsSaid). KeepsSaid said old new) says (usage_unread old new c.report.result c.report.ensures)))

pub returns-in-Ok-Some : goal.returns-in-Ok-Some
returns-in-Ok-Some g c =
    let old = g.H.Host.seen c.args.host.now in
    let new = g.H.Host.seen c.bind_and_do.new.host in
    let answer = c.bind_and_do.result in
    let says = read_means c.args.read.now (Some c.in-Ok-Some.plain) (c.in-Ok-Some.is ∙ ap (λ (read : Option Plain). Ok read) (rw c.in-Ok-Some.is at c.in-Ok-Some.field-0-is)) in
    answers_told (map string_bytes c.args.read.now.words.now) old new answer c.requires
    (inl (subst (λ (said : Option WordsSaid). DoesWords said old new answer) says c.bind_and_do.ensures.told))
    (inl (subst (λ (said : Option WordsSaid). BindsNamed (names_of said) old.world new.world answer.status) says c.bind_and_do.ensures.bound))
    (subst (λ (said : Option WordsSaid). KeepsSaid said old new) says c.bind_and_do.ensures.unread)

pub returns-in-Err : goal.returns-in-Err
returns-in-Err g c =
    let words = map string_bytes c.args.read.now.words.now in
    let old = g.H.Host.seen c.args.host.now in
    let lacks : LacksWords words old old OutOfMemory = record { are_plain = lacked_plain c.args.read.now _ c.in-Err.is; lacks = refl; nothing = refl } in
    rw c.of-in-Err.ensures
    (answers_told words old old (answer_of OutOfMemory) c.requires (inr (lacks, refl)) (inr lacks) (same_unread (plain words) old old c.requires.free refl))
