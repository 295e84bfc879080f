-- The cells of a whole word.
use Rattle.std.proofs.Common.{◌≡◌, get_or, sym, arith}
use Rattle.std.proofs.lemmas.List.{get_or_read}
use Rattle.digit_core.proofs.Packing.{cells_word}
use Rattle.digit_core.proofs.Core.word_at.Goals as goal

pub returns-clause-cells : goal.returns-clause-cells
returns-clause-cells g c =
    λ j h.
    let ws = c.self.inside.words.items in
    let l = c.self.invariant.is_length in
    let r : c.index.result.now ≡ get_or ws c.args.i 0 = get_or_read ws c.args.i _ (omega arith) c.index.ensures 0 in
    rw (r, ← c.self.view_is) (sym (cells_word ws c.args.i j (omega arith) h))
