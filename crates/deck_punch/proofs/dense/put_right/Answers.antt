-- The digit that is put right, or none.
use Rattle.std.proofs.Common.{◌∙◌, refl, sym, append_assoc}
use Rattle.deck_punch.proofs.DenseTexts.{repair_some, repair_none}
use Rattle.deck_punch.proofs.dense.put_right.Goals as goal

pub returns-in-Some : goal.returns-in-Some
returns-in-Some c =
    let r = repair_some c.args.from c.args.digits.now c.in-Some.i (sym c.place_of_repair.ensures ∙ c.in-Some.is) in
    rw (r.1, r.2) (rw (c.digit.ensures, c.address.ensures, append_assoc) refl)

pub returns-in-None : goal.returns-in-None
returns-in-None c =
    let r = repair_none c.args.from c.args.digits.now (sym c.place_of_repair.ensures ∙ c.in-None.is) in
    rw (r.0, r.1) (rw (c.digit-in-None.ensures, c.address-in-None.ensures, append_assoc) refl)
