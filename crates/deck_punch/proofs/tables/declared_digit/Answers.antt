use Rattle.std.proofs.Common.{◌∙◌, sym}
use Rattle.deck_punch.proofs.WithTables.{declared_on, declared_all}
use Rattle.deck_punch.proofs.tables.declared_digit.Goals as goal

pub loop-piece-preserved : goal.loop-piece-preserved
loop-piece-preserved c = record {
  are = c.as_slice-piece-items.ensures;
  whole = rw (c.or_else-found.ensures, c.digit_at.ensures) (declared_on c.as_slice-piece-items.result.now c.loop-piece.piece-index c.piece-item.result c.args.a c.loop-piece.found c.loop-piece-test.true c.piece-item.is ∙ c.loop-piece.invariant.whole);
}

pub returns : goal.returns
returns c = sym (declared_all c.as_slice-piece-items.result.now c.loop-piece.piece-index c.args.a c.loop-piece.found c.loop-piece-test.false) ∙ c.loop-piece.invariant.whole
