-- A full line is typed before one more character waits.
use Rattle.std.proofs.Common.{refl}
use Rattle.typewriter.proofs.typing.add.Goals as goal

pub returns-in-Done : goal.returns-in-Done
returns-in-Done g c = record {
  gone = c.args.line.now.items;
  parts = rw (c.push-in-Done.ensures.items, c.in-Done.ensures.empty) refl;
  goes = c.in-Done.ensures.sends;
}
