use Rattle.std.proofs.Common.{◌≡◌, sym, ◌∙◌, arith}
use Rattle.std.specs.Prelude.{if◌then◌else◌, Some}
use Rattle.sps_listing.proofs.PlacedStatements.{one_found, none_left}
use Rattle.sps_listing.proofs.statements.statement_at.Goals as goal
use Rattle.sps_listing.proofs.statements.statement_at.Goals.{then-stands_at, else-stands_at}

pub loop-placed-preserved : goal.loop-placed-preserved
loop-placed-preserved c =
    let i = c.loop-placed.invariant in
    let found : c.if-stands_at.found ≡ (if c.stands_at.result then Some c.loop-placed.number else c.loop-placed.found) = elim c.if-stands_at.branch [
      | then-stands_at w ↦ rw w.if-stands_at.true w.found-is
      | else-stands_at w ↦ rw w.if-stands_at.false w.found-is
    ] in
    record {
      number = omega arith;
      found = rw (found, c.stands_at.ensures) (sym (one_found c.as_slice-placed-items.result.now c.loop-placed.placed-index c.placed-item.result c.loop-placed.number c.args.address c.loop-placed.found c.loop-placed-test.true c.placed-item.is) ∙ i.found);
    }

pub returns : goal.returns
returns c =
    sym (none_left c.as_slice-placed-items.result.now c.loop-placed.placed-index c.loop-placed.number c.args.address c.loop-placed.found c.loop-placed-test.false) ∙ c.loop-placed.invariant.found
