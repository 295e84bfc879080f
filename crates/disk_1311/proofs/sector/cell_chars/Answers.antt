use Rattle.std.proofs.Common.{◌≡◌, ◌+◌, refl, sym, ◌∙◌, arith, length-set}
use Rattle.std.proofs.lemmas.Result.{err_from_is_err_and}
use Rattle.disk_1311.proofs.SectorsRead.{joined_nil, text_stop, text_on, text_all}
use Rattle.disk_1311.proofs.sector.cell_chars.Goals as goal

pub loop-k-init : goal.loop-k-init
loop-k-init g c = let first : c.args.a + 0 ≡ c.args.a = omega arith in record { all = refl; rest = rw first (joined_nil _) }

pub returns-in_err-read_at : goal.returns-in_err-read_at
returns-in_err-read_at g c =
    let p = err_from_is_err_and c.from_residual.result c.from_residual.ensures.1 in
    rw (p.1, p.2) (sym (text_stop c.args.core.now c.args.a c.loop-k.k c.loop-k.chars c.loop-k-test.true _ (sym c.in_err-read_at.ensures.is)) ∙ c.loop-k.invariant.rest)

pub loop-k-preserved : goal.loop-k-preserved
loop-k-preserved g c =
    let on = text_on c.args.core.now c.args.a c.loop-k.k c.loop-k.chars c.loop-k-test.true c.in_ok-read_at.field-0 (sym c.in_ok-read_at.ensures.is) (omega (arith, c.loop-k.invariant.all)) in
    record {
      all = rw length-set c.loop-k.invariant.all;
      rest = rw c.object_char.ensures (sym on ∙ c.loop-k.invariant.rest);
    }

pub returns : goal.returns
returns g c = sym (text_all c.args.core.now c.args.a c.loop-k.k c.loop-k.chars 10 c.loop-k-test.false c.loop-k.invariant.all) ∙ c.loop-k.invariant.rest
