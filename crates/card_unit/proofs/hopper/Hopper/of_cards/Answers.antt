use Rattle.std.proofs.Common.{List, map, refl, ◌∙◌, ap, Option, Some, []}
use Rattle.outside_io.specs.declared.host.Unit.TheVariants as units
use Rattle.card_code.specs.Entries.{Entry}
use Rattle.card_unit.specs.Pile.{card_entry}
use Rattle.card_unit.specs.Hopper.{entries_in_order}
use Rattle.card_unit.proofs.HopperOrder.{joined_cards, entries_map}
use Rattle.card_unit.proofs.ReadOn.{begins}
use Rattle.card_unit.proofs.hopper.Hopper.of_cards.Goals as goal

pub returns-clause-left : goal.returns-clause-left
returns-clause-left c = λ w. ap (λ (told : Option (List Entry)). entries_in_order [] (Some (map card_entry c.args.cards.items)) told) (c.new.ensures.entries w) ∙ joined_cards c.args.cards.items (w.left units.Data)

pub returns-clause-deck : goal.returns-clause-deck
returns-clause-deck c = λ w. ap (λ (es : List Entry). Some es) (entries_map c.args.cards.items)

pub returns-clause-begins : goal.returns-clause-begins
returns-clause-begins c = begins _ refl refl refl c.new-2.ensures (λ w. tt) c.new.ensures.turn
