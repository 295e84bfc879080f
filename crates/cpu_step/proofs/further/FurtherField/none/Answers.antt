-- No field has its units at 00000.
use Rattle.std.proofs.Common.{arith}
use Rattle.cpu_step.proofs.further.FurtherField.none.Goals as goal

pub invariant_of-result : goal.invariant_of-result
invariant_of-result g c = record { word_is = omega arith; field_is = λ room. absurd (omega arith) }
