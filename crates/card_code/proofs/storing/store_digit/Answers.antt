-- One character's digit is stored.
use Rattle.std.proofs.Common.{refl, sym, ◌∙◌, arith}
use Rattle.digit_core.specs.Size.{size}
use Rattle.card_code.proofs.DigitsStored.{one_out, one_good, one_bad}
use Rattle.card_code.proofs.storing.store_digit.Goals as goal

pub returns-then-at-size-clause-changed : goal.returns-then-at-size-clause-changed
returns-then-at-size-clause-changed g c = one_out c.args.core.now c.args.panel.now (size g.row.M) c.args.at c.args.c (omega arith) _ refl

pub returns-in-Some-clause-changed : goal.returns-in-Some-clause-changed
returns-in-Some-clause-changed g c = rw c.put.ensures (one_good c.args.core.now c.args.panel.now (size g.row.M) c.args.at c.args.c (omega arith) c.in-Some.d (sym c.num_of.ensures.is ∙ c.in-Some.is))

pub returns-in-None-clause-changed : goal.returns-in-None-clause-changed
returns-in-None-clause-changed g c = rw (c.put-in-None.ensures, c.set.ensures) (one_bad c.args.core.now c.args.panel.now (size g.row.M) c.args.at c.args.c (omega arith) (sym c.num_of.ensures.is ∙ c.in-None.is))
