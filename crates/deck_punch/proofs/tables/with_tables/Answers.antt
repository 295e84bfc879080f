use Rattle.deck_punch.proofs.WithTables.{with_tables_image}
use Rattle.deck_punch.proofs.tables.with_tables.Goals as goal

pub invariant_of-result : goal.invariant_of-result
invariant_of-result c = record { kept = rw (c.from_vec.ensures, c.in_ok-push_others.ensures, c.in_ok-push_table.ensures, c.new-pieces.ensures.items) (with_tables_image c.args.image.now.pieces c.args.image.now.kept) }
