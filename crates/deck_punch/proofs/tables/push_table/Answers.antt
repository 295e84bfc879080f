use Rattle.std.proofs.Common.{arith}
use Rattle.std.proofs.lemmas.List.{map-append}
use Rattle.deck_punch.proofs.WithTables.{table_more, table_all}
use Rattle.deck_punch.proofs.tables.push_table.Goals as goal

pub loop-a-preserved : goal.loop-a-preserved
loop-a-preserved c = rw (c.in_ok-push.ensures.items, c.loop-a.invariant, c.table_digit.ensures) (table_more c.args.image.now.pieces c.loop-a.a c.loop-a.auto.a)

pub returns : goal.returns
returns c =
    let all = table_all c.args.image.now.pieces c.loop-a.digits.items c.loop-a.a c.loop-a.invariant c.loop-a-test.false (c.loop-a.auto.a-end (omega arith)) in
    rw (c.in_ok-push-2.ensures.items, map-append, c.from_vec.ensures, all)
