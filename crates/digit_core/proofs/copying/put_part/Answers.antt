-- The cells of one word are replaced.
use Rattle.digit_core.proofs.Writing.{part_written}
use Rattle.digit_core.proofs.copying.put_part.Goals as goal

pub returns-clause-cells : goal.returns-clause-cells
returns-clause-cells c =
    rw c.with_part.ensures.is (part_written c.args.words.now c.args.i c.args.j c.args.n c.args.w c.requires.room c.requires.within)
