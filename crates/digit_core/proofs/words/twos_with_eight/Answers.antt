-- Where these bits are 0, no cell has both.
use Rattle.digit_core.proofs.Planes.{none_both}
use Rattle.digit_core.proofs.words.twos_with_eight.Goals as goal

pub returns : goal.returns
returns c = λ none j below. none_both c.args.w j below none
