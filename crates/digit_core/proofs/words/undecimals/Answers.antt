-- Each cell that holds no decimal digit, and nothing else.
use Rattle.digit_core.proofs.Planes.{is_undecimal_one, lowest_word}
use Rattle.digit_core.proofs.words.undecimals.Goals as goal

pub returns : goal.returns
returns c =
    record {
      cells = λ j below. rw c.half_parities-half.ensures (is_undecimal_one c.args.w j below);
      word = lowest_word _;
    }
