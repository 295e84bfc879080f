use Rattle.std.proofs.Common.{◌+◌, ◌*◌, arith, rules}
use Rattle.disk_1311.proofs.SectorTens.{ten_stored}
use Rattle.disk_1311.proofs.sector.read_ten.Goals as goal

pub returns-in-Some : goal.returns-in-Some
returns-in-Some g c = rw c.put_ten_digits_of.ensures (ten_stored c.args.core.now c.args.panel.now (10 * c.args.i + c.args.j) c.in-Some.word c.args.bytes.now c.requires.ten (omega (arith, c.size_law.ensures.length)) c.in-Some.ensures)

pub returns-in-None : goal.returns-in-None
returns-in-None g c = search rules
