-- The cells below are cleared by two shifts.
use Rattle.std.proofs.Common.{◌∙◌, ap}
use Rattle.digit_core.specs.Packed.{six}
use Rattle.table_arith.proofs.WordNumbers.{kept_small, kept_high, kept_low, cleared_is}
use Rattle.table_arith.proofs.words.cleared_below.Goals as goal

pub returns-clause-kept : goal.returns-clause-kept
returns-clause-kept c =
    λ j high. ap (λ x. six x j) (cleared_is c.args.w c.args.below c.requires.word) ∙ kept_high c.args.w c.args.below j high

pub returns-clause-cleared : goal.returns-clause-cleared
returns-clause-cleared c =
    λ j low. ap (λ x. six x j) (cleared_is c.args.w c.args.below c.requires.word) ∙ kept_low c.args.w c.args.below j low

pub returns-clause-word : goal.returns-clause-word
returns-clause-word c = rw (cleared_is c.args.w c.args.below c.requires.word) (kept_small c.args.w c.args.below c.requires.word)
