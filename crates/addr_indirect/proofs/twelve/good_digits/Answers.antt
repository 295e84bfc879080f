-- Good cells are the digits that are read.
use Rattle.std.proofs.Common.{refl, arith}
use Rattle.addr_indirect.proofs.TwelveCells.{read_is}
use Rattle.addr_indirect.proofs.twelve.good_digits.Goals as goal

pub digit_in-d0-requires-clause-good : goal.digit_in-d0-requires-clause-good
digit_in-d0-requires-clause-good c = (c.twelve_are_good.ensures.yes c.if-not-twelve_are_good.false).low_good 0 (omega arith)

pub digit_in-d1-requires-clause-good : goal.digit_in-d1-requires-clause-good
digit_in-d1-requires-clause-good c = (c.twelve_are_good.ensures.yes c.if-not-twelve_are_good.false).low_good 1 (omega arith)

pub digit_in-d2-requires-clause-good : goal.digit_in-d2-requires-clause-good
digit_in-d2-requires-clause-good c = (c.twelve_are_good.ensures.yes c.if-not-twelve_are_good.false).low_good 2 (omega arith)

pub digit_in-d3-requires-clause-good : goal.digit_in-d3-requires-clause-good
digit_in-d3-requires-clause-good c = (c.twelve_are_good.ensures.yes c.if-not-twelve_are_good.false).low_good 3 (omega arith)

pub digit_in-d4-requires-clause-good : goal.digit_in-d4-requires-clause-good
digit_in-d4-requires-clause-good c = (c.twelve_are_good.ensures.yes c.if-not-twelve_are_good.false).low_good 4 (omega arith)

pub digit_in-d5-requires-clause-good : goal.digit_in-d5-requires-clause-good
digit_in-d5-requires-clause-good c = (c.twelve_are_good.ensures.yes c.if-not-twelve_are_good.false).low_good 5 (omega arith)

pub digit_in-d6-requires-clause-good : goal.digit_in-d6-requires-clause-good
digit_in-d6-requires-clause-good c = (c.twelve_are_good.ensures.yes c.if-not-twelve_are_good.false).low_good 6 (omega arith)

pub digit_in-d7-requires-clause-good : goal.digit_in-d7-requires-clause-good
digit_in-d7-requires-clause-good c = (c.twelve_are_good.ensures.yes c.if-not-twelve_are_good.false).low_good 7 (omega arith)

pub digit_in-d8-requires-clause-good : goal.digit_in-d8-requires-clause-good
digit_in-d8-requires-clause-good c = (c.twelve_are_good.ensures.yes c.if-not-twelve_are_good.false).low_good 8 (omega arith)

pub digit_in-d9-requires-clause-good : goal.digit_in-d9-requires-clause-good
digit_in-d9-requires-clause-good c = (c.twelve_are_good.ensures.yes c.if-not-twelve_are_good.false).low_good 9 (omega arith)

pub digit_in-d10-requires-clause-good : goal.digit_in-d10-requires-clause-good
digit_in-d10-requires-clause-good c = (c.twelve_are_good.ensures.yes c.if-not-twelve_are_good.false).high_good 0 (omega arith)

pub digit_in-d11-requires-clause-good : goal.digit_in-d11-requires-clause-good
digit_in-d11-requires-clause-good c = (c.twelve_are_good.ensures.yes c.if-not-twelve_are_good.false).high_good 1 (omega arith)

pub returns-clause-is : goal.returns-clause-is
returns-clause-is c =
    let e0 = read_is _ _ c.digit_in-d0.ensures.is in
    let e1 = read_is _ _ c.digit_in-d1.ensures.is in
    let e2 = read_is _ _ c.digit_in-d2.ensures.is in
    let e3 = read_is _ _ c.digit_in-d3.ensures.is in
    let e4 = read_is _ _ c.digit_in-d4.ensures.is in
    let e5 = read_is _ _ c.digit_in-d5.ensures.is in
    let e6 = read_is _ _ c.digit_in-d6.ensures.is in
    let e7 = read_is _ _ c.digit_in-d7.ensures.is in
    let e8 = read_is _ _ c.digit_in-d8.ensures.is in
    let e9 = read_is _ _ c.digit_in-d9.ensures.is in
    let e10 = read_is _ _ c.digit_in-d10.ensures.is in
    let e11 = read_is _ _ c.digit_in-d11.ensures.is in
    rw (e0, e1, e2, e3, e4, e5, e6, e7, e8, e9, e10, e11) refl
