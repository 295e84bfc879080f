use Rattle.deck_punch.proofs.DenseCovering.{dense_covers}
use Rattle.deck_punch.proofs.cutting.dense_law.Goals as goal

pub returns : goal.returns
returns c = dense_covers
