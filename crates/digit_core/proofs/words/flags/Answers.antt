-- Each flag, and nothing else.
use Rattle.digit_core.proofs.Planes.{is_flag}
use Rattle.digit_core.proofs.words.flags.Goals as goal

pub returns : goal.returns
returns c = λ j below. rw c.plane.ensures (is_flag c.args.w j below)
