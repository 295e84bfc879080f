-- A record that ends within a word is moved by the cells of the word.
use Rattle.std.proofs.Common.{refl, ◌≤◌, arith}
use Rattle.field_moves.proofs.Wholes.{record_moved}
use Rattle.field_moves.proofs.short_record.Goals as goal

pub returns-clause-moves : goal.returns-clause-moves
returns-clause-moves g c _ =
    let l = c.size-size.ensures.length in
    record_moved c.args.core.now c.put_field.new.self c.args.p c.args.q c.in-Some.n c.ten-w.result (omega arith) (omega arith) c.ten-w.ensures.cells c.in-Some.ensures.is
    (λ j low. let ten : c.in-Some.n ≤ 10 = c.in-Some.ensures.is.ten in c.if-not-are_good_at.ensures.yes refl j (omega arith) (c.ones_below.ensures.named j low))
    (omega arith) (c.if-not-reads_first_up.ensures refl) c.put_field.ensures

-- core stays as sound as it was
pub put_field-requires : goal.put_field-requires
put_field-requires g c =
    let ends = c.in-Some.ensures.is in
    let ten = ends.ten in
    (omega arith, (ends.some, (ten, (omega arith, λ sound j below. c.if-not-are_good_at.ensures.yes refl j (omega arith) (c.ones_below.ensures.named j below)))))
