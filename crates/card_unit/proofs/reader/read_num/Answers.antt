use Rattle.std.proofs.Common.{ℕ, ap, subst}
use Rattle.std.specs.Prelude.{◌-◌}
use Rattle.digit_core.specs.Size.{size}
use Rattle.indicators.specs.declared.Panel.{Panel}
use Rattle.traces.specs.Change.{Changed}
use Rattle.card_code.specs.TextIn.{store_digits}
use Rattle.card_code.specs.declared.tally.ReadAs.TheVariants.{Digit}
use Rattle.card_unit.specs.Hopper.{line_read}
use Rattle.card_unit.proofs.CardsStored.{card_reads}
use Rattle.card_unit.proofs.CardsTallied.{digits_good, card_said, goes_on}
use Rattle.card_unit.proofs.reader.read_num.Goals as goal

pub stored_ending-requires-clause-good : goal.stored_ending-requires-clause-good
stored_ending-requires-clause-good g c =
    digits_good c.next_card.new.self.from c.args.core.now c.store_digits-stored.new.core c.turn_on_last.new.panel c.store_digits-stored.new.panel (size g.row.M) c.args.p (line_read c.next_card.new.self) (c.size.result - c.args.p) c.in-Card.card.0 c.store_digits-stored.result c.store_digits-stored.ensures.changed

pub returns-in-Card-clause-reads : goal.returns-in-Card-clause-reads
returns-in-Card-clause-reads g c =
    card_reads (store_digits (size g.row.M) c.args.p) c.in-Card.card.0 c.args.core.now c.store_digits-stored.new.core c.args.panel.now c.store_digits-stored.new.panel c.store_digits-stored.result c.args.hopper.now c.next_card.new.self c.stored_ending.new.hopper _ _ _ c.in-Card.last c.in-Card.ensures.card c.stored_ending.ensures.tallied
    (subst (λ (x : Panel). Changed c.args.core.now x (store_digits (size g.row.M) c.args.p c.in-Card.card.0) c.store_digits-stored.new.core c.store_digits-stored.new.panel c.store_digits-stored.result) c.turn_on_last.ensures c.store_digits-stored.ensures.changed)
    c.stored_ending.result c.stored_ending.ensures.answer

pub returns-in-Card-clause-as_said : goal.returns-in-Card-clause-as_said
returns-in-Card-clause-as_said g c =
    card_said Digit (size g.row.M - c.args.p) c.args.hopper.now c.next_card.new.self c.stored_ending.new.hopper _ _ c.in-Card.card.0 (c.size.result - c.args.p) c.store_digits-stored.result c.stored_ending.result c.in-Card.ensures.reads
    (ap (λ (n : ℕ). n - c.args.p) c.size.ensures.size) c.stored_ending.ensures.tallied c.stored_ending.ensures.answer

pub returns-in-Card-clause-reads_on : goal.returns-in-Card-clause-reads_on
returns-in-Card-clause-reads_on g c = goes_on Digit (size g.row.M - c.args.p) c.args.hopper.now c.stored_ending.new.hopper _ _ c.stored_ending.result (returns-in-Card-clause-as_said g c)
