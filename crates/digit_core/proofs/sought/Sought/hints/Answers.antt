-- Where no cell is 1, none passes.
use Rattle.digit_core.proofs.Planes.{no_one}
use Rattle.digit_core.proofs.sought.Sought.hints.Goals as goal

pub returns : goal.returns
returns g c = λ none j below. no_one _ j _ (c.ones.ensures j below) none
