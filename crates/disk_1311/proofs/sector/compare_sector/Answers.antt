use Rattle.std.proofs.Common.{◌≡◌, ◌+◌, ◌*◌, ◌/◌, ◌%◌, arith}
use Rattle.std.proofs.lemmas.Result.{err_from_is_err_and}
use Rattle.card_code.proofs.TextsStored.{rest_start}
use Rattle.disk_1311.proofs.SectorsRead.{compare_all}
use Rattle.disk_1311.proofs.SectorTens.{compare_next, compare_ends}
use Rattle.disk_1311.proofs.sector.compare_sector.Goals as goal

pub loop-k-init : goal.loop-k-init
loop-k-init g c = let first : c.args.a + 0 ≡ c.args.a = omega arith in rw first (rest_start _ _ _)

pub returns-in_err-compare_ten : goal.returns-in_err-compare_ten
returns-in_err-compare_ten g c =
    let at : 10 * (c.args.a / 10 + c.loop-k.k) + c.args.a % 10 ≡ c.args.a + 10 * c.loop-k.k = omega arith in
    let p = err_from_is_err_and c.from_residual.result c.from_residual.ensures.1 in
    rw (p.1, p.2) (compare_ends c.args.core.now _ _ _ _ _ _ c.args.a (10 * c.loop-k.k) _ c.args.bytes.now (omega arith) (omega (arith, c.told-bytes)) _ (rw at at c.in_err-compare_ten.ensures) c.loop-k.invariant)

pub loop-k-preserved : goal.loop-k-preserved
loop-k-preserved g c =
    let at : 10 * (c.args.a / 10 + c.loop-k.k) + c.args.a % 10 ≡ c.args.a + 10 * c.loop-k.k = omega arith in
    let e : 10 * (c.loop-k.k + 1) ≡ 10 * c.loop-k.k + 10 = omega arith in
    rw e (compare_next c.args.core.now _ _ _ _ _ _ c.args.a (10 * c.loop-k.k) _ c.args.bytes.now (omega arith) (omega (arith, c.told-bytes)) (rw at at c.in_ok-compare_ten.ensures) c.loop-k.invariant)

pub returns : goal.returns
returns g c = compare_all c.args.core.now _ _ _ c.args.a (10 * c.loop-k.k) c.args.bytes.now (omega (arith, c.told-bytes)) c.loop-k.invariant
