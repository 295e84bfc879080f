-- What lies in a hopper before the data cards: cards, or the lines of Deck.
use Rattle.std.specs.Prelude.{ℕ, ◌≤◌, ⊤, Bool, false, ◌||◌, List, map, drop, Option, Some, None}
use Rattle.outside_io.specs.declared.host.Unit as unit
use Rattle.outside_io.specs.declared.host.Unit.TheVariants as units
use Rattle.outside_io.specs.World.{World, Seen, same_unit}
use Rattle.outside_io.specs.Frame.{Keeps}
use Rattle.card_code.specs.declared.Card.{Card}
use Rattle.card_code.specs.{Entry, Text, unit_of, entries_left, MoreEntries}
use Rattle.card_code.specs.Reader.{IsInTurn, IsOneAhead}
use Rattle.card_code.specs.declared.lines.More.{More}
use Rattle.card_unit.specs.declared.front.Front.{Front}
use Rattle.card_unit.specs.declared.front.Held.{Held}
use Rattle.card_unit.specs.Front.{HoldsNext}
use Rattle.card_unit.specs.declared.pile.Pile.{Pile}
use Rattle.card_unit.specs.declared.pile.Pile.TheVariants as pile

-- a card as an entry
abbrev pub card_entry : Card → Entry
card_entry card = Text card.0

-- the entries of the pile that are left, if the host reveals them
abbrev pub pile_left : Pile → World → Option (List Entry)
pile_left (pile.Cards cards gone) w = Some (map card_entry (drop gone cards.items))
pile_left (pile.Deck lines) w = entries_left lines w

-- all cards that were put into the pile, taken or not; None if the pile is the lines of Deck
abbrev pub pile_cards : Pile → Option (List (List ℕ))
pile_cards (pile.Cards cards gone) = Some (map (λ card. card.0) cards.items)
pile_cards (pile.Deck lines) = None

-- the unit of the pile's lines; Deck also for a list of cards
abbrev pub pile_unit : Pile → unit.Unit
pile_unit (pile.Cards cards gone) = units.Deck
pile_unit (pile.Deck lines) = unit_of lines

-- the pile is one ahead at most, or in turn, if it is the lines of Deck; a list of cards always is
abbrev pub IsPileAhead : Pile → World → Type 0
IsPileAhead (pile.Cards cards gone) w = ⊤
IsPileAhead (pile.Deck lines) w = IsOneAhead lines w

abbrev pub IsPileInTurn : Pile → World → Type 0
IsPileInTurn (pile.Cards cards gone) w = ⊤
IsPileInTurn (pile.Deck lines) w = IsInTurn lines w

-- no unit
abbrev pub no_unit : unit.Unit → Bool
no_unit u = false

-- the units of a hopper
abbrev pub is_card_unit : unit.Unit → Bool
is_card_unit u = same_unit units.Deck u || same_unit units.Data u

-- bytes may be taken from these units, and nothing else outside changed
pub record LooksAt (reads : unit.Unit → Bool) (before after : Seen) : Type 0 where
  pub later : before.faults ≤ after.faults
  pub keeps : Keeps reads no_unit false before.world after.world

-- what the holding of the next entry does to the entries of a pile and to the front
abbrev pub HoldsOfPile : Pile → Pile → Option Front → Option Front → Seen → Seen → Held → Type 0
HoldsOfPile old new front new_front before after got =
    HoldsNext front new_front (pile_left old before.world) (pile_left new after.world) before after got

-- what the look ahead says of the entries of a pile
abbrev pub MoreFronts : Pile → Pile → Seen → Seen → More → Type 0
MoreFronts old new before after got =
    MoreEntries (pile_left old before.world) (pile_left new after.world) before after got
