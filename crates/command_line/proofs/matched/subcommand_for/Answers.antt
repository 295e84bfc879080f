use Rattle.std.proofs.Common.{◌++◌, List, ap, ap₂, ◌∙◌}
use Rattle.clap.specs.Words.{App, app_of}
use Rattle.command_line.specs.declared.options.Slot.{Slot}
use Rattle.command_line.specs.Options.{slots}
use Rattle.command_line.specs.Matched.{with_options}
use Rattle.command_line.proofs.Tables.{options_in_turn}
use Rattle.command_line.proofs.matched.subcommand_for.Goals as goal

pub returns-clause-app : goal.returns-clause-app
returns-clause-app c =
    let groups = c.optional-groups.result in
    c.in_ok-others.ensures.app
    ∙ ap (λ (app : App). with_options app groups.others.now) (
    c.in_ok-machine.ensures.app
    ∙ ap (λ (app : App). with_options app groups.machine.now) (
    c.in_ok-assembly.ensures.app ∙ ap (λ (app : App). with_options app groups.assembly.now) c.in_ok-needed.ensures.app
    )
    )
    ∙ options_in_turn (app_of c.new.result) c.required.result.now groups.assembly.now groups.machine.now groups.others.now
    ∙ ap₂ (λ (needed others : List Slot). with_options (app_of c.new.result) (needed ++ others)) c.required.ensures c.optional-groups.ensures
    ∙ ap (λ (app : App). with_options app (slots c.args.command)) c.new.ensures.app
