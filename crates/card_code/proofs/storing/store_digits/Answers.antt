-- Ten characters more, or one.
use Rattle.std.proofs.Common.{◌≡◌, ◌+◌, arith}
use Rattle.std.proofs.lemmas.Result.{err_from_is_err_and}
use Rattle.digit_core.specs.Size.{size}
use Rattle.card_code.proofs.TextsStored.{rest_start, stored_all}
use Rattle.card_code.proofs.DigitsStored.{ten_stored, ten_chars, one_char, stored_part, part_stopped}
use Rattle.card_code.proofs.storing.store_digits.Goals as goal

pub loop-k-init : goal.loop-k-init
loop-k-init g c = let first : c.args.a + 0 ≡ c.args.a = omega arith in rw first (rest_start _ _ _)

pub loop-k-preserved-in-Some : goal.loop-k-preserved-in-Some
loop-k-preserved-in-Some g c =
    let ten = ten_chars c.loop-k.k c.args.text.now c.in-Some.ensures.more in
    rw c.put_digits.ensures
    (stored_part c.loop-k.core _ _ c.loop-k.panel c.loop-k.panel _ _ (size g.row.M) c.args.a c.loop-k.k 10 c.args.text.now c.in-Some.ensures.more
    (ten_stored c.loop-k.core c.loop-k.panel (size g.row.M) (c.args.a + c.loop-k.k) c.in-Some.word c.size-size.ensures.length _ ten (omega (arith, c.in-Some.ensures.room)) c.in-Some.ensures.cells)
    c.loop-k.invariant)

pub returns-in_err-store_digit-in-None-clause-changed : goal.returns-in_err-store_digit-in-None-clause-changed
returns-in_err-store_digit-in-None-clause-changed g c =
    let p = err_from_is_err_and c.from_residual.result c.from_residual.ensures.1 in
    let one = one_char c.loop-k.k c.args.text.now c.loop-k-test.true in
    rw (p.1, p.2) (part_stopped _ _ _ _ _ _ _ (size g.row.M) c.args.a c.loop-k.k 1 c.args.text.now (omega arith) _ (rw one c.in_err-store_digit-in-None.ensures.changed) c.loop-k.invariant)

pub loop-k-preserved : goal.loop-k-preserved
loop-k-preserved g c =
    let one = one_char c.loop-k.k c.args.text.now c.loop-k-test.true in
    stored_part _ _ _ _ _ _ _ (size g.row.M) c.args.a c.loop-k.k 1 c.args.text.now (omega arith) (rw one c.in_ok-store_digit-in-None.ensures.changed) c.loop-k.invariant

pub returns-clause-changed : goal.returns-clause-changed
returns-clause-changed g c = stored_all _ _ _ _ _ (size g.row.M) c.args.a c.loop-k.k c.args.text.now (omega arith) c.loop-k.invariant

-- core stays as sound as it was
pub put_digits-requires : goal.put_digits-requires
put_digits-requires g c =
    let ten = ten_chars c.loop-k.k c.args.text.now c.in-Some.ensures.more in
    (omega arith, (omega arith, (omega (arith, c.size-size.ensures.size, c.in-Some.ensures.room), λ sound j below. c.in-Some.ensures.cells.good j (omega arith))))
