-- A turn of a strip, over the lowest cells of two words.
use Rattle.std.proofs.Common.{◌≡◌, ◌≤◌, ◌+◌, ◌-◌, ◌∙◌, ap, sym, arith}
use Rattle.std.specs.Prelude.{bit_xor}
use Rattle.std.proofs.lemmas.Bool.{false≢true}
use Rattle.digit_core.proofs.Sixes.{six_of_high}
use Rattle.feature_ops.proofs.Flags.{ends_high, ends_among}
use Rattle.feature_ops.proofs.fives.turn_stripped.Goals as goal

pub overflow_sub-result-in-Some : goal.overflow_sub-result-in-Some
overflow_sub-result-in-Some c = omega (arith, ends_high c.args.n c.args.olds c.in-Some.m c.requires.ten c.requires.olds c.in-Some.ensures.is)

pub returns-in-Some : goal.returns-in-Some
returns-in-Some c =
    let n = c.args.n in
    let m = c.in-Some.m in
    let high : 11 ≤ c.in-Some.m + c.args.n = ends_high n c.args.olds m c.requires.ten c.requires.olds c.in-Some.ensures.is in
    let ten : c.in-Some.m ≤ 10 = c.in-Some.ensures.is.ten in
    let most : c.args.n ≤ 10 = c.requires.ten in
    let place : c.args.n - (c.in-Some.m + c.args.n - 10) ≡ 10 - c.in-Some.m = omega arith in
    let first : 10 - c.in-Some.m + 0 ≡ 10 - c.in-Some.m = omega arith in
    record {
      some = omega arith;
      most = omega arith;
      on = λ h. absurd (false≢true (sym h));
      end = λ h. ends_among n c.args.olds m most high c.requires.highest c.in-Some.ensures.is;
      lowest = λ h. rw place (c.flag_turned.ensures.lowest ∙ (rw first at (ap (λ x. bit_xor x 48) (six_of_high c.args.digits (10 - m) 0))));
      others = λ h j pos. rw place (c.flag_turned.ensures.others j pos ∙ six_of_high c.args.digits (10 - m) j);
    }
