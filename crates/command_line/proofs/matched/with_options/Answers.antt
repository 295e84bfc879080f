use Rattle.std.proofs.Common.{ap, sym, ◌∙◌}
use Rattle.clap.specs.Words.{app_of, with_rule}
use Rattle.command_line.specs.Matched.{rule_for}
use Rattle.command_line.proofs.Tables.{option_more, options_end, still_local}
use Rattle.command_line.proofs.matched.with_options.Goals as goal

pub loop-slot-preserved : goal.loop-slot-preserved
loop-slot-preserved c =
    let added = c.in_ok-more.ensures in
    let is = added.shape c.arg_for.ensures.local ∙ ap (with_rule (app_of c.loop-slot.more)) (c.arg_for.ensures.rule ∙ ap rule_for c.word_for-word.ensures) in
    (option_more (app_of c.loop-slot.more) (app_of c.in_ok-more.more) c.args.slots.now c.loop-slot.slot-index _ c.loop-slot-test.true is ∙ c.loop-slot.invariant.0, still_local _ _ _ added.globals c.arg_for.ensures.local ∙ c.loop-slot.invariant.1)

pub returns-clause-app : goal.returns-clause-app
returns-clause-app c = sym (options_end (app_of c.loop-slot.more) c.args.slots.now c.loop-slot.slot-index c.loop-slot-test.false) ∙ c.loop-slot.invariant.0
