-- A field that ends within a word is moved by the cells of the word.
use Rattle.std.proofs.Common.{◌+◌, ◌-◌, ◌∙◌, ap, refl, arith}
use Rattle.digit_core.specs.Search.{is_bad_cell}
use Rattle.digit_core.proofs.Sixes.{six_of_high}
use Rattle.field_moves.proofs.Wholes.{field_moved}
use Rattle.field_moves.proofs.short_field.Goals as goal

pub returns-clause-moves : goal.returns-clause-moves
returns-clause-moves g c _ =
    let l = c.size_law.ensures.length in
    field_moved c.args.core.now c.put_field.new.self c.args.p c.args.q c.in-Some.n c.ten-w.result (omega arith) (omega arith) (omega arith) c.ten-w.ensures.cells c.in-Some.ensures.is
    (λ j low high. c.if-not-are_good_at.ensures.yes refl j high (c.ones_from.ensures.named j low high))
    (omega arith) (c.if-not-reads_first_down.ensures refl) c.put_field.ensures

-- core stays as sound as it was
pub put_field-requires : goal.put_field-requires
put_field-requires g c =
    let l = c.size_law.ensures.length in
    let ends = c.in-Some.ensures.is in
    let ten = ends.ten in
    let two = ends.two in
    (omega arith, (omega arith, (ten, (omega arith, λ sound j below. ap is_bad_cell (six_of_high c.ten-w.result (10 - c.in-Some.n) j) ∙ c.if-not-are_good_at.ensures.yes refl (10 - c.in-Some.n + j) (omega arith) (c.ones_from.ensures.named (10 - c.in-Some.n + j) (omega arith) (omega arith))))))
