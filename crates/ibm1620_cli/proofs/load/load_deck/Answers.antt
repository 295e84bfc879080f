use Rattle.ibm1620_cli.proofs.DeckPromises.{executes_stays}
use Rattle.ibm1620_cli.proofs.LoadedMachines.{promise_load}
use Rattle.ibm1620_cli.proofs.load.load_deck.Goals as goal

pub returns : goal.returns
returns g c =
    record {
      promise = promise_load g.row.M c.args.settings _ c.args.script (g.H.Host.seen c.args.host.now) (g.H.Host.seen c.execute.new.host) c.execute.result c.of_units.ensures.left c.of_units.ensures.deck c.of_units.ensures.own c.of_units.ensures.begins c.execute.ensures;
      stays = executes_stays g.row.M 0 c.args.settings.limit _ c.args.script (g.H.Host.seen c.args.host.now) (g.H.Host.seen c.execute.new.host) c.execute.result c.execute.ensures;
    }
