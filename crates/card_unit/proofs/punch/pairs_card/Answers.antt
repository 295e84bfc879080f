-- Five pairs from each ten cells.
use Rattle.std.proofs.Common.{◌≡◌, ◌+◌, ◌*◌, refl, sym, ◌∙◌, ap, arith, length-set, Ok}
use Rattle.std.proofs.lemmas.List.{take_all}
use Rattle.std.proofs.lemmas.Result.{err_from_is_err_and}
use Rattle.card_unit.proofs.CardsPunched.{going_start, zone_stop, number_stop, pair_on, pairs_read}
use Rattle.card_unit.proofs.punch.pairs_card.Goals as goal

pub loop-i-init : goal.loop-i-init
loop-i-init g c = let first : c.args.a + 0 ≡ c.args.a = omega arith in record { all = refl; going = rw first (going_start _ _) }

pub loop-j-init : goal.loop-j-init
loop-j-init g c = let first : 5 * c.loop-i.i + 0 ≡ 5 * c.loop-i.i = omega arith in record { all = c.loop-i.invariant.all; going = rw first c.loop-i.invariant.going }

pub returns-in_err-zone-clause-text : goal.returns-in_err-zone-clause-text
returns-in_err-zone-clause-text g c =
    let p = err_from_is_err_and c.from_residual.result c.from_residual.ensures.1 in
    let place : c.args.a + 10 * c.loop-i.i + 2 * c.loop-j.j ≡ c.args.a + 2 * (5 * c.loop-i.i + c.loop-j.j) = omega arith in
    let read = rw place at c.in_err-zone.ensures in
    rw (p.1, p.2) (zone_stop c.args.core.now c.args.a (5 * c.loop-i.i + c.loop-j.j) c.loop-j.columns c.loop-j.panel _ _ (omega arith) _ (sym read) c.loop-j.invariant.going).0

pub returns-in_err-zone-clause-panel : goal.returns-in_err-zone-clause-panel
returns-in_err-zone-clause-panel g c =
    let place : c.args.a + 10 * c.loop-i.i + 2 * c.loop-j.j ≡ c.args.a + 2 * (5 * c.loop-i.i + c.loop-j.j) = omega arith in
    let read = rw place at c.in_err-zone.ensures in
    (zone_stop c.args.core.now c.args.a (5 * c.loop-i.i + c.loop-j.j) c.loop-j.columns c.loop-j.panel _ _ (omega arith) _ (sym read) c.loop-j.invariant.going).1

pub returns-in_err-number-clause-text : goal.returns-in_err-number-clause-text
returns-in_err-number-clause-text g c =
    let p = err_from_is_err_and c.from_residual-in_err-number.result c.from_residual-in_err-number.ensures.1 in
    let place : c.args.a + 10 * c.loop-i.i + 2 * c.loop-j.j ≡ c.args.a + 2 * (5 * c.loop-i.i + c.loop-j.j) = omega arith in
    let behind : c.args.a + 10 * c.loop-i.i + (2 * c.loop-j.j + 1) ≡ c.args.a + 2 * (5 * c.loop-i.i + c.loop-j.j) + 1 = omega arith in
    let zone = rw place at c.in_ok-zone.ensures in
    let number = rw behind at c.in_err-number.ensures in
    rw (p.1, p.2) (number_stop c.args.core.now c.args.a (5 * c.loop-i.i + c.loop-j.j) c.loop-j.columns c.loop-j.panel _ _ (omega arith) _ _ (sym zone) (sym number) c.loop-j.invariant.going).0

pub returns-in_err-number-clause-panel : goal.returns-in_err-number-clause-panel
returns-in_err-number-clause-panel g c =
    let place : c.args.a + 10 * c.loop-i.i + 2 * c.loop-j.j ≡ c.args.a + 2 * (5 * c.loop-i.i + c.loop-j.j) = omega arith in
    let behind : c.args.a + 10 * c.loop-i.i + (2 * c.loop-j.j + 1) ≡ c.args.a + 2 * (5 * c.loop-i.i + c.loop-j.j) + 1 = omega arith in
    let zone = rw place at c.in_ok-zone.ensures in
    let number = rw behind at c.in_err-number.ensures in
    (number_stop c.args.core.now c.args.a (5 * c.loop-i.i + c.loop-j.j) c.loop-j.columns c.loop-j.panel _ _ (omega arith) _ _ (sym zone) (sym number) c.loop-j.invariant.going).1

pub loop-j-preserved : goal.loop-j-preserved
loop-j-preserved g c =
    let place : c.args.a + 10 * c.loop-i.i + 2 * c.loop-j.j ≡ c.args.a + 2 * (5 * c.loop-i.i + c.loop-j.j) = omega arith in
    let behind : c.args.a + 10 * c.loop-i.i + (2 * c.loop-j.j + 1) ≡ c.args.a + 2 * (5 * c.loop-i.i + c.loop-j.j) + 1 = omega arith in
    let next : 5 * c.loop-i.i + (c.loop-j.j + 1) ≡ 5 * c.loop-i.i + c.loop-j.j + 1 = omega arith in
    let zone = rw place at c.in_ok-zone.ensures in
    let number = rw behind at c.in_ok-number.ensures in
    record {
      all = rw length-set c.loop-j.invariant.all;
      going = rw (c.char_of_pair.ensures.is, c.char_of_pair.ensures.seen, next)
          (pair_on c.args.core.now c.args.a (5 * c.loop-i.i + c.loop-j.j) c.loop-j.columns c.loop-j.panel _ _ (omega arith) c.in_ok-zone.zone c.in_ok-number.number (sym zone) (sym number) (omega (arith, c.loop-j.invariant.all)) c.loop-j.invariant.going);
    }

pub loop-i-preserved : goal.loop-i-preserved
loop-i-preserved g c =
    let five : 5 * c.loop-i.i + c.loop-j.j ≡ 5 * (c.loop-i.i + 1) = omega arith in
    record { all = c.loop-j.invariant.all; going = rw five at c.loop-j.invariant.going }

pub returns-clause-text : goal.returns-clause-text
returns-clause-text g c =
    ap Ok (sym (take_all (5 * c.loop-i.i) c.loop-i.columns (omega (arith, c.loop-i.invariant.all))))
    ∙ (pairs_read c.args.core.now c.args.a (5 * c.loop-i.i) c.loop-i.columns c.loop-i.panel _ _ (omega arith) c.loop-i.invariant.going).0

pub returns-clause-panel : goal.returns-clause-panel
returns-clause-panel g c = (pairs_read c.args.core.now c.args.a (5 * c.loop-i.i) c.loop-i.columns c.loop-i.panel _ _ (omega arith) c.loop-i.invariant.going).1
