use Rattle.std.proofs.Common.{◌≡◌, ◌+◌, ◌*◌, ◌/◌, ◌%◌, arith}
use Rattle.card_code.proofs.TextsStored.{rest_start}
use Rattle.disk_1311.proofs.SectorsRead.{read_all}
use Rattle.disk_1311.proofs.SectorTens.{read_next}
use Rattle.disk_1311.proofs.sector.read_sector.Goals as goal

pub loop-k-init : goal.loop-k-init
loop-k-init g c = let first : c.args.a + 0 ≡ c.args.a = omega arith in rw first (rest_start _ _ _)

pub loop-k-preserved : goal.loop-k-preserved
loop-k-preserved g c =
    let at : 10 * (c.args.a / 10 + c.loop-k.k) + c.args.a % 10 ≡ c.args.a + 10 * c.loop-k.k = omega arith in
    let e : 10 * (c.loop-k.k + 1) ≡ 10 * c.loop-k.k + 10 = omega arith in
    rw e (read_next _ _ _ _ _ _ _ c.args.a (10 * c.loop-k.k) _ c.args.bytes.now (omega arith) (omega (arith, c.told-bytes)) (rw at at c.read_ten.ensures) c.loop-k.invariant)

pub returns : goal.returns
returns g c = read_all _ _ _ _ _ c.args.a (10 * c.loop-k.k) c.args.bytes.now (omega (arith, c.told-bytes)) c.loop-k.invariant
