use Rattle.std.proofs.Common.{◌≡◌, ◌+◌, sym, ◌∙◌, arith}
use Rattle.card_code.proofs.TextsStored.{rest_start}
use Rattle.disk_1311.proofs.SectorsRead.{read_all, read_digit, read_bad}
use Rattle.disk_1311.proofs.sector.read_bytes.Goals as goal
use Rattle.disk_1311.proofs.sector.read_bytes.Goals.{in-Some, in-None}

pub loop-k-init : goal.loop-k-init
loop-k-init g c = let first : c.args.a + 0 ≡ c.args.a = omega arith in rw first (rest_start _ _ _)

pub loop-k-preserved : goal.loop-k-preserved
loop-k-preserved g c =
    elim c.match-object_digit.branch [
      | in-Some w ↦ rw (w.core-is, w.panel-is, w.put.ensures) (read_digit _ _ _ _ _ c.args.a c.loop-k.k c.args.bytes.now (omega arith) w.in-Some.digit (sym c.object_digit.ensures.is ∙ w.in-Some.is) c.loop-k.invariant)
      | in-None w ↦ rw (w.core-is, w.panel-is, w.put-in-None.ensures, w.set.ensures) (read_bad _ _ _ _ _ c.args.a c.loop-k.k c.args.bytes.now (omega arith) (sym c.object_digit.ensures.is ∙ w.in-None.is) c.loop-k.invariant)
    ]

pub returns : goal.returns
returns g c = read_all _ _ _ _ _ c.args.a c.loop-k.k c.args.bytes.now (omega arith) c.loop-k.invariant
