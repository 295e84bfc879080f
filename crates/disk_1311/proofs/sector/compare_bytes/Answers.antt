use Rattle.std.proofs.Common.{◌≡◌, ◌+◌, sym, ◌∙◌, arith}
use Rattle.std.proofs.lemmas.Result.{err_from_is_err_and}
use Rattle.card_code.proofs.TextsStored.{rest_start}
use Rattle.disk_1311.proofs.SectorsRead.{compare_all, compare_stop, compare_other, compare_same}
use Rattle.disk_1311.proofs.sector.compare_bytes.Goals as goal
use Rattle.disk_1311.proofs.sector.compare_bytes.Goals.{then-differs, else-differs}

pub loop-k-init : goal.loop-k-init
loop-k-init g c = let first : c.args.a + 0 ≡ c.args.a = omega arith in rw first (rest_start _ _ _)

pub returns-in_err-digit : goal.returns-in_err-digit
returns-in_err-digit g c =
    let p = err_from_is_err_and c.from_residual.result c.from_residual.ensures.1 in
    rw (p.1, p.2) (compare_stop c.args.core.now _ _ _ c.args.a c.loop-k.k c.args.bytes.now (omega arith) _ (sym c.in_err-digit.ensures.is) c.loop-k.invariant)

pub loop-k-preserved : goal.loop-k-preserved
loop-k-preserved g c =
    elim c.if-differs.branch [
      | then-differs w ↦ rw (w.panel-is, w.set.ensures) (compare_other c.args.core.now _ _ _ c.args.a c.loop-k.k c.args.bytes.now (omega arith) c.in_ok-digit.digit (sym c.in_ok-digit.ensures.is) (sym c.differs.ensures ∙ w.if-differs.true) c.loop-k.invariant)
      | else-differs w ↦ rw w.panel-is (compare_same c.args.core.now _ _ _ c.args.a c.loop-k.k c.args.bytes.now (omega arith) c.in_ok-digit.digit (sym c.in_ok-digit.ensures.is) (sym c.differs.ensures ∙ w.if-differs.false) c.loop-k.invariant)
    ]

pub returns : goal.returns
returns g c = compare_all c.args.core.now _ _ _ c.args.a c.loop-k.k c.args.bytes.now (omega arith) c.loop-k.invariant
