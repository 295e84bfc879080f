-- A record mark has 8 and 2.
use Rattle.digit_core.proofs.Planes.{no_mark_without}
use Rattle.digit_core.proofs.sought.AnyRecordMarkSought.hints.Goals as goal

pub returns : goal.returns
returns c = λ none j below. no_mark_without _ (c.twos_with_eight.ensures none j below)
