use Rattle.std.proofs.Common.{◌≤◌, arith, w64, SFits, rules}
use Rattle.std.proofs.lemmas.Int.{to_z-of_z}
use Rattle.sps_pass_two.proofs.Assembling.{small_start}
use Rattle.sps_pass_two.proofs.made.start_value_in.Goals as goal

pub overflow_cast-result : goal.overflow_cast-result
overflow_cast-result c =
    let fits : SFits w64 c.value_or_0.result = search rules in
    let v = rw c.operand_ask.ensures at c.answer-found.ensures.value in
    let size = rw (to_z-of_z w64 c.value_or_0.result fits, c.value_or_0.ensures, v) at c.unsigned_abs.ensures.value in
    let small = small_start _ _ in
    let bound : c.unsigned_abs.result ≤ 99999 = rw size small in
    omega (arith, bound)
