use Rattle.std.proofs.Common.{◌∷◌, [], length, ap, arith, ◌∙◌, lit<}
use Rattle.std.proofs.lemmas.List.{length-append}
use Rattle.sps_listing.proofs.Characters.{one_byte}
use Rattle.sps_listing.proofs.ImageLines.{one_digit}
use Rattle.sps_listing.proofs.columns.push_digits.Goals as goal

pub push-requires : goal.push-requires
push-requires c =
    let byte = one_byte c.from.result _ (c.from.ensures ∙ c.shown_char.ensures) in
    (lit< tt, omega (arith, byte.1))

pub loop-digit-preserved : goal.loop-digit-preserved
loop-digit-preserved c =
    let byte = one_byte c.from.result _ (c.from.ensures ∙ c.shown_char.ensures) in
    let bytes = c.push.ensures.ascii byte.0 in
    record {
      len = omega (arith, ap length bytes, length-append c.loop-digit.line.bytes (c.from.result ∷ []));
      text = rw (bytes, c.from.ensures, c.shown_char.ensures) (one_digit c.loop-digit.line.bytes c.args.digits.now c.loop-digit.digit-index _ c.loop-digit-test.true ∙ c.loop-digit.invariant.text);
    }
