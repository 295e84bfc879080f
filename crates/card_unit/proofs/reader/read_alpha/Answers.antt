use Rattle.std.proofs.Common.{ℕ, ap, subst}
use Rattle.std.specs.Prelude.{◌-◌, ◌/◌}
use Rattle.digit_core.specs.Size.{size}
use Rattle.indicators.specs.declared.Panel.{Panel}
use Rattle.traces.specs.Change.{Changed}
use Rattle.card_code.specs.TextIn.{store_pairs}
use Rattle.card_code.specs.declared.tally.ReadAs.TheVariants.{Pair}
use Rattle.card_unit.specs.Hopper.{line_read}
use Rattle.card_unit.proofs.CardsStored.{card_reads}
use Rattle.card_unit.proofs.CardsTallied.{pairs_good, card_said, goes_on}
use Rattle.card_unit.proofs.reader.read_alpha.Goals as goal

pub stored_ending-requires-clause-good : goal.stored_ending-requires-clause-good
stored_ending-requires-clause-good g c =
    pairs_good c.next_card.new.self.from c.args.core.now c.store_pairs-stored.new.core c.turn_on_last.new.panel c.store_pairs-stored.new.panel (size g.row.M) (c.args.p - 1) (line_read c.next_card.new.self) ((c.size.result - (c.args.p - 1)) / 2) c.in-Card.card.0 c.store_pairs-stored.result c.store_pairs-stored.ensures

pub returns-in-Card-clause-reads : goal.returns-in-Card-clause-reads
returns-in-Card-clause-reads g c =
    card_reads (store_pairs (size g.row.M) (c.args.p - 1)) c.in-Card.card.0 c.args.core.now c.store_pairs-stored.new.core c.args.panel.now c.store_pairs-stored.new.panel c.store_pairs-stored.result c.args.hopper.now c.next_card.new.self c.stored_ending.new.hopper _ _ _ c.in-Card.last c.in-Card.ensures.card c.stored_ending.ensures.tallied
    (subst (λ (x : Panel). Changed c.args.core.now x (store_pairs (size g.row.M) (c.args.p - 1) c.in-Card.card.0) c.store_pairs-stored.new.core c.store_pairs-stored.new.panel c.store_pairs-stored.result) c.turn_on_last.ensures c.store_pairs-stored.ensures)
    c.stored_ending.result c.stored_ending.ensures.answer

pub returns-in-Card-clause-as_said : goal.returns-in-Card-clause-as_said
returns-in-Card-clause-as_said g c =
    card_said Pair ((size g.row.M - (c.args.p - 1)) / 2) c.args.hopper.now c.next_card.new.self c.stored_ending.new.hopper _ _ c.in-Card.card.0 ((c.size.result - (c.args.p - 1)) / 2) c.store_pairs-stored.result c.stored_ending.result c.in-Card.ensures.reads
    (ap (λ (n : ℕ). (n - (c.args.p - 1)) / 2) c.size.ensures.size) c.stored_ending.ensures.tallied c.stored_ending.ensures.answer

pub returns-in-Card-clause-reads_on : goal.returns-in-Card-clause-reads_on
returns-in-Card-clause-reads_on g c = goes_on Pair ((size g.row.M - (c.args.p - 1)) / 2) c.args.hopper.now c.stored_ending.new.hopper _ _ c.stored_ending.result (returns-in-Card-clause-as_said g c)
