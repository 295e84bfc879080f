-- Each record mark, and nothing else.
use Rattle.digit_core.proofs.Planes.{is_mark}
use Rattle.digit_core.proofs.words.marks.Goals as goal

pub returns : goal.returns
returns c = λ j below. is_mark c.args.w j below
