-- Five characters more, or one.
use Rattle.std.proofs.Common.{◌≡◌, ◌+◌, length, take, drop, get_or, length-take, length-drop, arith}
use Rattle.std.proofs.lemmas.Result.{err_from_is_err_and}
use Rattle.digit_core.specs.Size.{size}
use Rattle.card_code.specs.Pairs.{alpha_of}
use Rattle.card_code.specs.TextIn.{store_pairs}
use Rattle.card_code.proofs.TextsStored.{rest_start}
use Rattle.card_code.proofs.PairsStored.{after_pair, broken_pair, rest_on, rest_done, next_pair, no_pair}
use Rattle.card_code.proofs.FivesStored.{five_on}
use Rattle.card_code.proofs.storing.store_pairs.Goals as goal

pub loop-k-init : goal.loop-k-init
loop-k-init g c = record { place = omega arith; rest = rest_start _ _ _ }

pub loop-k-preserved-in-Some : goal.loop-k-preserved-in-Some
loop-k-preserved-in-Some g c = record {
  place = omega (arith, c.loop-k.invariant.place);
  rest = rw c.put_digits.ensures
      (five_on c.loop-k.core _ c.loop-k.panel _ _ (size g.row.M) c.loop-k.at c.loop-k.k c.in-Some.cells c.args.text.now c.size-end.ensures.length c.in-Some.ensures.more (omega (arith, c.in-Some.ensures.room)) c.in-Some.ensures.cells c.loop-k.invariant.rest);
}

pub returns-in_err-store_pair-in-None : goal.returns-in_err-store_pair-in-None
returns-in_err-store_pair-in-None g c =
    let p = err_from_is_err_and c.from_residual.result c.from_residual.ensures.1 in
    let next = next_pair (size g.row.M) c.loop-k.at c.loop-k.k c.args.text.now c.loop-k-test.true in
    let here = broken_pair _ _ _ _ (size g.row.M) c.loop-k.at (store_pairs (size g.row.M) (c.loop-k.at + 2) (drop (c.loop-k.k + 1) c.args.text.now)) (alpha_of (get_or c.args.text.now c.loop-k.k 0)) _ c.in_err-store_pair-in-None.ensures in
    rw (p.1, p.2) (rest_done _ _ _ _ _ _ _ _ _ c.loop-k.invariant.rest (rw next here))

pub loop-k-preserved : goal.loop-k-preserved
loop-k-preserved g c =
    let next = next_pair (size g.row.M) c.loop-k.at c.loop-k.k c.args.text.now c.loop-k-test.true in
    let here = after_pair _ _ _ _ (size g.row.M) c.loop-k.at (store_pairs (size g.row.M) (c.loop-k.at + 2) (drop (c.loop-k.k + 1) c.args.text.now)) (alpha_of (get_or c.args.text.now c.loop-k.k 0)) c.in_ok-store_pair-in-None.ensures in
    record {
      place = omega (arith, c.loop-k.invariant.place);
      rest = rest_on _ _ _ _ _ _ _ _ _ c.loop-k.invariant.rest (rw next here);
    }

pub returns : goal.returns
returns g c =
    let none = no_pair (size g.row.M) c.loop-k.at c.loop-k.k c.args.text.now (omega arith) in
    let rest = rw none at c.loop-k.invariant.rest in
    record { leaves = rest.leaves; shows = rest.shows; answers = rest.answers }

-- core stays as sound as it was
pub put_digits-requires : goal.put_digits-requires
put_digits-requires g c =
    let five : length (take 5 (drop c.loop-k.k c.args.text.now)) ≡ 5 = omega (arith, length-take 5 (drop c.loop-k.k c.args.text.now), length-drop c.loop-k.k c.args.text.now, c.in-Some.ensures.more) in
    (omega arith, (omega arith, (omega (arith, c.size-end.ensures.size, c.in-Some.ensures.room), λ sound j below. c.in-Some.ensures.cells.good j (omega arith))))
