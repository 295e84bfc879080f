use Rattle.std.proofs.Common.{◌∙◌, ap}
use Rattle.loader_cards.specs.ObjectDeck.{deck_steps}
use Rattle.ibm1620_cli.proofs.DeckPromises.{executes_stays, executes_later, executes_unrefused, executes_unstated}
use Rattle.ibm1620_cli.proofs.Programs.{keeps_program_promise}
use Rattle.ibm1620_cli.proofs.program.run_program.Goals as goal

pub returns : goal.returns
returns g c =
    let steps = c.deck_steps-steps.ensures ∙ ap (deck_steps c.args.settings.form) (c.len.ensures ∙ c.args.cards.ok.0) in
    record {
      promise = keeps_program_promise g.row.M c.args.settings c.deck_steps-steps.result c.args.cards.items c.of_cards.result c.args.script (g.H.Host.seen c.args.host.now) (g.H.Host.seen c.execute.new.host) c.execute.result c.of_cards.ensures.left c.of_cards.ensures.deck c.of_cards.ensures.own c.of_cards.ensures.begins steps c.execute.ensures;
      stays = executes_stays g.row.M c.deck_steps-steps.result c.args.settings.limit c.of_cards.result c.args.script (g.H.Host.seen c.args.host.now) (g.H.Host.seen c.execute.new.host) c.execute.result c.execute.ensures;
      later = executes_later g.row.M c.deck_steps-steps.result c.args.settings.limit c.of_cards.result c.args.script (g.H.Host.seen c.args.host.now) (g.H.Host.seen c.execute.new.host) c.execute.result c.execute.ensures;
      unrefused = executes_unrefused g.row.M c.deck_steps-steps.result c.args.settings.limit c.of_cards.result c.args.script (g.H.Host.seen c.args.host.now) (g.H.Host.seen c.execute.new.host) c.execute.result c.execute.ensures;
      unstated = executes_unstated g.row.M c.deck_steps-steps.result c.args.settings.limit c.of_cards.result c.args.script (g.H.Host.seen c.args.host.now) (g.H.Host.seen c.execute.new.host) c.execute.result c.execute.ensures;
    }
