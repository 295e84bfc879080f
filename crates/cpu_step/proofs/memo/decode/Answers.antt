-- What the digits come to, the cells come to wherever they stand.
use Rattle.cpu_step.proofs.Knowing.{comes}
use Rattle.cpu_step.proofs.memo.decode.Goals as goal

pub returns-in-Some : goal.returns-in-Some
returns-in-Some g c = λ core ir t.
    comes g.row.M c.args.low c.args.high c.in-Some.ensures.good core ir t c.known_by.result
    (rw (c.in-Some.ensures.is, c.requires) at c.known_by.ensures)
