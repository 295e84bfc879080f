-- The lowest cell that passes, among those that the mask names.
use Rattle.std.proofs.Common.{refl}
use Rattle.digit_core.proofs.Looking.{lowest_found, lowest_none}
use Rattle.digit_core.proofs.Core.up_in.Goals as goal

pub returns-in-Some : goal.returns-in-Some
returns-in-Some g c =
    lowest_found g.S.Sought.passes c.args.self.now c.args.i c.word.result c.ones.result c.ones_between.result c.args.from c.args.to c.requires.order c.requires.to c.word.ensures.cells c.ones.ensures c.ones_between.ensures.named c.ones_between.ensures.others c.in-Some.j c.in-Some.ensures.is

pub returns-in-None : goal.returns-in-None
returns-in-None g c =
    lowest_none g.S.Sought.passes c.args.self.now c.args.i c.word.result c.ones.result c.ones_between.result c.args.from c.args.to c.requires.order c.requires.to c.word.ensures.cells c.ones.ensures c.ones_between.ensures.named c.ones_between.ensures.others (c.in-None.ensures.none refl)
