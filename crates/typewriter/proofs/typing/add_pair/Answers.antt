-- The line is typed before a bad pair's write check goes on.
use Rattle.std.proofs.Common.{refl, sym}
use Rattle.typewriter.proofs.typing.add_pair.Goals as goal

pub returns-in-Done : goal.returns-in-Done
returns-in-Done g c =
    let bad = sym c.in-None.ensures in
    rw bad
    (record {
      blank = rw (c.push.ensures.items, c.in-Done.ensures.empty, c.char_of_pair.ensures.is, bad) refl;
      seen = rw bad at c.char_of_pair.ensures.seen;
      goes = c.in-Done.ensures.sends;
    })
