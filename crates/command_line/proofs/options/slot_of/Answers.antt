use Rattle.std.proofs.Common.{◌++◌, List, ap₂, ◌∙◌}
use Rattle.std.specs.Option.{option_or}
use Rattle.command_line.specs.declared.options.Slot.{Slot}
use Rattle.command_line.proofs.Lookup.{named, named_in_turn, no_slot, slot_is}
use Rattle.command_line.proofs.options.slot_of.Goals as goal

pub returns-in_err-word : goal.returns-in_err-word
returns-in_err-word c = c.from_residual.ensures ∙ no_slot c.args.command c.args.option.now c.in_err-word.ensures

pub returns : goal.returns
returns c =
    let word = c.in_ok-word.word.now in
    c.or-3.ensures
    ∙ ap₂ option_or (c.or-2.ensures ∙ ap₂ option_or (c.or.ensures ∙ ap₂ option_or c.slot_among-needed.ensures c.slot_among-assembly.ensures) c.slot_among-machine.ensures) c.slot_among-others.ensures
    ∙ named_in_turn _ _ _ _ word
    ∙ ap₂ (λ (needed others : List Slot). named (needed ++ others) word) c.required.ensures c.optional-groups.ensures
    ∙ slot_is c.args.command c.args.option.now word c.in_ok-word.ensures
