-- The number of leading zeros says where the highest bit is.
use Rattle.std.proofs.Common.{◌≡◌, ◌-◌, ◌^◌, ◌<◌, arith}
use Rattle.std.proofs.lemmas.Nat.{leading_top}
use Rattle.std.proofs.lemmas.Bool.Decides.{nat_tests}
use lib.Count.{count_leading_zeros}
use Rattle.digit_core.proofs.Tops.{top_is}
use Rattle.digit_core.proofs.words.top.Goals as goal

pub returns-clause-is : goal.returns-clause-is
returns-clause-is c =
    let x = c.args.ones in
    let some : 0 < c.args.ones = (let t = c.if-ones-eq0.false in grind (arith, nat_tests)) in
    let word = c.requires.word in
    let wide : c.args.ones < 2 ^ 64 = omega arith in
    let (j, sum, low, high) = leading_top 64 x some wide in
    let e : 63 - count_leading_zeros 64 c.args.ones ≡ j = omega arith in
    rw e (top_is x j word low high c.requires.bits)
