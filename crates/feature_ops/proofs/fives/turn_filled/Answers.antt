-- A turn of a fill, over the lowest five cells of a word.
use Rattle.std.proofs.Common.{◌≡◌, ◌≤◌, ◌+◌, ◌-◌, ◌∙◌, ap, sym, arith}
use Rattle.std.specs.Prelude.{bit_xor}
use Rattle.std.proofs.lemmas.Bool.{false≢true}
use Rattle.digit_core.proofs.Sixes.{six_of_high}
use Rattle.feature_ops.proofs.Flags.{ends_high, ends_among, no_flag_above}
use Rattle.feature_ops.proofs.fives.turn_filled.Goals as goal

pub overflow_sub-result : goal.overflow_sub-result
overflow_sub-result c = omega (arith, ends_high 5 c.args.five c.in-Some.n (omega arith) c.requires.five c.in-Some.ensures.is)

pub returns-in-Some : goal.returns-in-Some
returns-in-Some c =
    let m = c.in-Some.n in
    let high : 11 ≤ c.in-Some.n + 5 = ends_high 5 c.args.five m (omega arith) c.requires.five c.in-Some.ensures.is in
    let ten : c.in-Some.n ≤ 10 = c.in-Some.ensures.is.ten in
    let count : c.in-Some.n + 5 - 10 ≡ c.in-Some.n - 5 = omega arith in
    let place : 5 - (c.in-Some.n - 5) ≡ 10 - c.in-Some.n = omega arith in
    let first : 10 - c.in-Some.n + 0 ≡ 10 - c.in-Some.n = omega arith in
    let zoned = c.with_zones-in-Some.ensures in
    record {
      some = omega arith;
      most = omega arith;
      good = c.requires.good;
      on = λ h. absurd (false≢true (sym h));
      end = λ h. rw count at (ends_among 5 c.args.five m (omega arith) high (no_flag_above c.args.five c.requires.five) c.in-Some.ensures.is);
      lowest = λ h. zoned.digits 0 (omega arith) ∙ (rw place (c.flag_turned.ensures.lowest ∙ (rw first at (ap (λ x. bit_xor x 48) (six_of_high c.args.five (10 - m) 0)))));
      others = λ h j pos l. zoned.digits j (omega arith) ∙ (rw place (c.flag_turned.ensures.others j pos ∙ six_of_high c.args.five (10 - m) j));
      zones = λ h j l. zoned.zones j (omega arith);
    }
