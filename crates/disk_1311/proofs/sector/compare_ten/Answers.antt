use Rattle.std.proofs.Common.{◌+◌, ◌*◌, arith, rules}
use Rattle.disk_1311.proofs.SectorTens.{ten_same}
use Rattle.disk_1311.proofs.sector.compare_ten.Goals as goal

pub returns-then-word-ten_of : goal.returns-then-word-ten_of
returns-then-word-ten_of g c =
    ten_same c.args.core.now c.args.panel.now (10 * c.args.i + c.args.j) c.in-Some.word c.args.bytes.now c.requires.ten (omega (arith, c.size_law.ensures.length)) (λ k. let f = c.type_inv.bytes k in search rules) c.in-Some.ensures
    (λ j below. rw c.if-word-ten_of.true (c.ten_of.ensures.cells j below))
