-- Each bad cell, and nothing else.
use Rattle.digit_core.proofs.Planes.{is_bad_one, lowest_word}
use Rattle.digit_core.proofs.words.bads.Goals as goal

pub returns : goal.returns
returns c =
    record {
      cells = λ j below. rw c.half_parities-half.ensures (is_bad_one c.args.w j below);
      word = lowest_word _;
    }
