use Rattle.deck_punch.proofs.WithTables.{table_image}
use Rattle.deck_punch.proofs.tables.table_piece.Goals as goal

pub invariant_of-result : goal.invariant_of-result
invariant_of-result c = record { kept = rw (c.from_vec.ensures, c.in_ok-push_table.ensures, c.new-pieces.ensures.items) (table_image c.args.image.now.pieces c.args.image.now.kept) }
