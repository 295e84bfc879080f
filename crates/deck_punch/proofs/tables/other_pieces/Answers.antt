use Rattle.deck_punch.proofs.WithTables.{others_image}
use Rattle.deck_punch.proofs.tables.other_pieces.Goals as goal

pub invariant_of-result : goal.invariant_of-result
invariant_of-result c = record { kept = rw (c.from_vec.ensures, c.in_ok-push_others.ensures, c.new-pieces.ensures.items) (others_image c.args.image.now.pieces c.args.image.now.kept) }
