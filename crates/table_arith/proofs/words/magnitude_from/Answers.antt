-- The zeros below the field count nothing.
use Rattle.std.proofs.Common.{◌≡◌, ◌-◌, ◌∙◌, ap, arith}
use Rattle.table_arith.specs.Words.{number_of_pairs}
use Rattle.table_arith.proofs.WordNumbers.{number_kept}
use Rattle.table_arith.proofs.words.magnitude_from.Goals as goal

pub returns : goal.returns
returns c =
    let b = c.args.below in
    let h = c.requires.below in
    let e : 10 - (10 - c.args.below) ≡ c.args.below = omega arith in
    c.number_of_pairs.ensures ∙ ap number_of_pairs c.pairs_within-pairs.ensures
    ∙ number_kept c.args.w (10 - c.args.below) c.cleared_below-field.result (omega arith) (rw e c.cleared_below-field.ensures.kept) (rw e c.cleared_below-field.ensures.cleared)
