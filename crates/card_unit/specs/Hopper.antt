-- What a hopper means: the entry at its front, its pile, and then the lines of Data. And what its calls do.
use Rattle.std.specs.Prelude.{ℕ, ◌≡◌, ◌≤◌, ◌+◌, ◌-◌, ◌⊎◌, Bool, true, false, ⊤, List, [], ◌∷◌, ◌++◌, length, Option, Some, None, option_map, option_and_then, IfSome, Result, Ok, Err, map}
use Rattle.outside_io.specs.declared.host.Unit as unit
use Rattle.outside_io.specs.declared.host.Unit.TheVariants as units
use Rattle.outside_io.specs.World.{World, Seen}
use Rattle.card_code.specs.Break.{Break, Empty, JamsAt}
use Rattle.card_code.specs.declared.Card.{Card}
use Rattle.card_code.specs.declared.lines.Lines.{Lines}
use Rattle.card_code.specs.declared.lines.More.{More}
use Rattle.card_code.specs.declared.lines.More.TheVariants as more
use Rattle.card_code.specs.{Entry, Text, Long, Taken, hopper_of, behind, has_none_left, next_card, text_as_card, entries_left, HasNone}
use Rattle.card_code.specs.Feed.{Feed, Stays, Lacks, FailsToTake, TakesNext}
use Rattle.card_code.specs.Reader as lines
use Rattle.card_code.specs.declared.tally.ReadAs.TheVariants as how
use Rattle.card_code.specs.declared.tally.Tally.{Tally}
use Rattle.card_code.specs.Readings.{Reading, AreNumbered, no_lines, lines_after, all_bad, tally_of, entry_read}
use Rattle.card_unit.specs.declared.counts.CardsRead.{CardsRead}
use Rattle.card_unit.specs.Counts.{last_card_number, counted_cards}
use Rattle.card_unit.specs.declared.hopper.Hopper.{Hopper}
use Rattle.card_unit.specs.declared.hopper.CardAnswer.{CardAnswer}
use Rattle.card_unit.specs.declared.hopper.CardAnswer.TheVariants as answer
use Rattle.card_unit.specs.declared.front.Held.{Held}
use Rattle.card_unit.specs.declared.front.Held.TheVariants as held
use Rattle.card_unit.specs.declared.front.Front.{Front}
use Rattle.card_unit.specs.declared.pile.Pile.{Pile}
use Rattle.card_unit.specs.Front.{front_text}
use Rattle.card_unit.specs.Pile.{pile_left, pile_cards, IsPileAhead, IsPileInTurn, is_card_unit, LooksAt}

-- the front, the pile and the data one after another, if the host reveals pile and data
abbrev pub entries_in_order : List Entry → Option (List Entry) → Option (List Entry) → Option (List Entry)
entries_in_order front deck rest = option_and_then (λ d. option_map (λ r. front ++ (d ++ r)) rest) deck

-- the entry at the front, if a card or the text of a line is there
abbrev pub front_left : Option Front → List Entry
front_left None = []
front_left (Some front) = Text (front_text front) ∷ []

-- all entries that are left, if the host reveals them
abbrev pub hopper_left : Hopper → World → Option (List Entry)
hopper_left h w = entries_in_order (front_left h.front) (pile_left h.pile w) (entries_left h.data w)

-- the texts of cards
abbrev pub card_texts : List Card → List (List ℕ)
card_texts cards = map (λ card. card.0) cards

-- these cards and then the cards that Data has left, if the host reveals them
abbrev pub cards_and_data : List (List ℕ) → World → Option (List Entry)
cards_and_data cards w = option_map (hopper_of cards []) (w.left units.Data)

-- the cards that Deck has left and then the cards that Data has left, if the host reveals both
abbrev pub deck_and_data : World → Option (List Entry)
deck_and_data w = option_and_then (λ deck. option_map (hopper_of [] deck) (w.left units.Data)) (w.left units.Deck)

-- all cards that were put into its pile, taken or not; None if its pile is the lines of Deck
abbrev pub own_cards : Hopper → Option (List (List ℕ))
own_cards h = pile_cards h.pile

-- the entries that follow the front, if the host reveals them
abbrev pub behind_left : Hopper → World → Option (List Entry)
behind_left h w = entries_in_order [] (pile_left h.pile w) (entries_left h.data w)

-- bytes of the hopper's units may be taken, and nothing else outside changed
abbrev pub LooksAtHopper : Seen → Seen → Type 0
LooksAtHopper before after = LooksAt is_card_unit before after

-- how cards are taken from a hopper
abbrev pub hopper_feed : Feed Hopper Taken
hopper_feed = record { left = hopper_left; Looks = LooksAtHopper; next = next_card }

-- how the taking of a card ended; None if the host failed
abbrev pub card_ending : CardAnswer → Option (Result Taken Break)
card_ending (answer.Card card last) = Some (Ok (record { text = card.0; last = last }))
card_ending answer.Empty = Some (Err Empty)
card_ending (answer.Jam u n) = Some (Err (JamsAt u n))
card_ending answer.Failed = None

-- what the taking of a card does
abbrev pub NextCard : Hopper → Hopper → Seen → Seen → CardAnswer → Type 0
NextCard old new before after got = TakesNext hopper_feed old new before after (card_ending got)

-- how the holding of the next card ends, by its answer
abbrev pub Holds : Hopper → Hopper → Seen → Seen → Held → Type 0
Holds old new before after held.AtFront = Stays hopper_feed old new before after
Holds old new before after held.Empty = Lacks hopper_feed old new before after Empty
Holds old new before after (held.Jam u n) = Lacks hopper_feed old new before after (JamsAt u n)
Holds old new before after held.Failed = FailsToTake hopper_feed old new before after

-- the hopper stays, and `none` is whether nothing follows the front
pub record SaysBehind (old new : Hopper) (before after : Seen) (none : Bool) : Type 0 where
  pub stays : Stays hopper_feed old new before after
  pub front : new.front ≡ old.front
  pub says : IfSome (behind_left new after.world) (λ es. has_none_left es ≡ none)

-- whether anything follows the front, by the answer of the look
abbrev pub HasBehind : Hopper → Hopper → Seen → Seen → More → Type 0
HasBehind old new before after more.Yes = SaysBehind old new before after false
HasBehind old new before after more.No = SaysBehind old new before after true
HasBehind old new before after more.Failed = FailsToTake hopper_feed old new before after

-- The deck: the entries before the cards of Data.

-- the entries of the deck, if the host reveals them: the front and the pile
abbrev pub deck_left : Hopper → World → Option (List Entry)
deck_left h w = option_map (λ d. front_left h.front ++ d) (pile_left h.pile w)

-- the host reveals at least n entries
abbrev pub TellsAtLeast : ℕ → Option (List Entry) → Type 0
TellsAtLeast n None = ⊥
TellsAtLeast n (Some es) = n ≤ length es

-- the host reveals at least n entries of the deck
abbrev pub HasInDeck : ℕ → Hopper → Seen → Type 0
HasInDeck n h s = TellsAtLeast n (deck_left h s.world)

-- no byte of Data is taken, and Data isn't asked
pub record DataStays (before after : Seen) : Type 0 where
  pub left : after.world.left units.Data ≡ before.world.left units.Data
  pub asked : after.world.asked units.Data ≡ before.world.asked units.Data

-- Data isn't asked if the host reveals at least n entries of the deck
abbrev pub LeavesData : ℕ → Hopper → Seen → Seen → Type 0
LeavesData n old before after = HasInDeck n old before → DataStays before after

-- the deck stays as it is
abbrev pub DeckStays : Hopper → Hopper → Seen → Seen → Type 0
DeckStays old new before after = deck_left new after.world ≡ deck_left old before.world

-- this entry is the first of some entries, if there are any
abbrev pub FrontIs : Entry → List Entry → Type 0
FrontIs first [] = ⊤
FrontIs first (e ∷ es) = e ≡ first

-- this card is the first of some entries, if there are any; it isn't the last if another entry follows it
abbrev pub CardIs : List ℕ → Bool → List Entry → Type 0
CardIs text last [] = ⊤
CardIs text last (Text t ∷ es) = (text ≡ text_as_card t) × (has_none_left es ≡ false → last ≡ false)
CardIs text last (Long u n ∷ es) = ⊥

-- the deck's first card is taken, or a card of Data if the deck is empty
pub record DeckGives (old new : Hopper) (before after : Seen) (text : List ℕ) (last : Bool) : Type 0 where
  pub left : deck_left new after.world ≡ option_map behind (deck_left old before.world)
  pub first : IfSome (deck_left old before.world) (CardIs text last)

-- no card is taken, and IsSo holds for the deck, if the host reveals it
pub record DeckLacks (old new : Hopper) (before after : Seen) (IsSo : List Entry → Type 0) : Type 0 where
  pub stays : DeckStays old new before after
  pub so : IfSome (deck_left old before.world) IsSo

-- what the taking of a card does to the deck; if the host fails and the deck is empty, a card of Data may have come to the front
abbrev pub NextOfDeck : Hopper → Hopper → Seen → Seen → CardAnswer → Type 0
NextOfDeck old new before after (answer.Card card last) = DeckGives old new before after card.0 last
NextOfDeck old new before after answer.Empty = DeckLacks old new before after (λ es. es ≡ [])
NextOfDeck old new before after (answer.Jam u n) = DeckLacks old new before after (FrontIs (Long u n))
NextOfDeck old new before after answer.Failed = HasInDeck 1 old before → DeckStays old new before after

-- the front is the deck's first entry, if there is any, and the pile has the entries after it
pub record DeckHolds (old new : Hopper) (before after : Seen) : Type 0 where
  pub held : Front
  pub front : new.front ≡ Some held
  pub left : pile_left new.pile after.world ≡ option_map behind (deck_left old before.world)
  pub first : IfSome (deck_left old before.world) (FrontIs (Text (front_text held)))

-- what the holding of the next card does to the deck
abbrev pub HoldsOfDeck : Hopper → Hopper → Seen → Seen → Held → Type 0
HoldsOfDeck old new before after held.AtFront = DeckHolds old new before after
HoldsOfDeck old new before after held.Empty = DeckLacks old new before after (λ es. es ≡ [])
HoldsOfDeck old new before after (held.Jam u n) = DeckLacks old new before after (FrontIs (Long u n))
HoldsOfDeck old new before after held.Failed = DeckStays old new before after

-- the look after the front leaves the deck as it is, and Data too if the host reveals an entry of the pile
pub record LooksBehind (old new : Hopper) (before after : Seen) (got : More) : Type 0 where
  pub front : new.front ≡ old.front
  pub left : pile_left new.pile after.world ≡ pile_left old.pile before.world
  pub none : got ≡ more.No → HasNone (pile_left old.pile before.world)
  pub alone : TellsAtLeast 1 (pile_left old.pile before.world) → DataStays before after

-- Cards that are asked for one ahead: the look for the last-card indicator.

-- the pile's lines are one ahead at most, and in turn if a card is at the front, since the look after this card is still to come
abbrev pub IsPileReady : Option Front → Pile → World → Type 0
IsPileReady None pile w = IsPileAhead pile w
IsPileReady (Some front) pile w = IsPileInTurn pile w

-- Data is in turn while the pile has a card or a card is at the front: no look at Data was made yet
abbrev pub IsDataLater : Option Front → Lines → World → List Entry → Type 0
IsDataLater front reader w left = lines.IsInTurn reader w ⊎ ((left ≡ []) × (front ≡ None))

-- A HOPPER ONE AHEAD: no card was asked for early. Deck and Data were asked only when the cards taken or the next card needed bytes,
-- and once after each card taken: the look whether a byte is left. If the host failed in this look, the card is still at the front,
-- and is taken next. If the host reveals the pile, no look was made at Data while the pile had another card.
pub record IsHopperAhead (h : Hopper) (w : World) : Type 0 where
  pub pile : IsPileReady h.front h.pile w
  pub reader : lines.IsOneAhead h.data w
  pub later : IfSome (pile_left h.pile w) (IsDataLater h.front h.data w)

-- a hopper that is one ahead stays one ahead
abbrev pub KeepsAhead : Hopper → Hopper → Seen → Seen → Type 0
KeepsAhead old new before after = IsHopperAhead old before.world → IsHopperAhead new after.world

-- after the look, the hopper is one ahead: without its front card, or with it if the host failed
abbrev pub IsAheadBehind : Hopper → World → More → Type 0
IsAheadBehind h w more.Failed = IsHopperAhead h w
IsAheadBehind h w got = IsHopperAhead (record h { front = None }) w

-- What was read.

-- the cards that were read, of the pile and of Data
abbrev pub cards_read : Hopper → CardsRead
cards_read h = h.read

-- the tally of the bad characters of these cards
abbrev pub bad_cards : Hopper → Tally
bad_cards h = h.bad

-- the number in its unit of the card that was read last
abbrev pub line_read : Hopper → ℕ
line_read h = last_card_number h.from h.read

-- the entries of a hopper when it was made, if the host revealed them: the entries of its pile, and all entries
pub record Start : Type 0 where
  pub pile : List Entry
  pub all : List Entry

-- the unit of a card: Data, or Deck, also for a list of cards
abbrev pub IsOfCards : unit.Unit → Type 0
IsOfCards u = (u ≡ units.Deck) ⊎ (u ≡ units.Data)

-- `to_come` cards of the pile are still to be read: the `left` cards in it, and one more if a card of the pile is at the front;
-- none if a card of Data is at the front
abbrev pub AreToCome : Option Front → unit.Unit → ℕ → ℕ → Type 0
AreToCome None u left to_come = left ≡ to_come
AreToCome (Some front) units.Data left to_come = (left ≡ 0) × (to_come ≡ 0)
AreToCome (Some front) u left to_come = left + 1 ≡ to_come

-- WHAT A HOPPER HAS READ since it was made: the readings of its cards, in their order. They are numbered as the cards of their units,
-- and the tally has their bad characters that were stored. If the host reveals the cards, the cards read and the cards left are all
-- that the hopper had. No card was asked for early.
pub record HasReadCardsBy (start : Start) (readings : List Reading) (h : Hopper) (w : World) : Type 0 where
  pub ahead : IsHopperAhead h w
  pub numbered : AreNumbered readings no_lines
  pub of_deck : h.read.of_deck ≡ lines_after readings no_lines units.Deck
  pub of_data : h.read.of_data ≡ lines_after readings no_lines units.Data
  pub tallied : h.bad ≡ tally_of (all_bad readings)
  pub all : IfSome (hopper_left h w) (λ left. start.all ≡ map entry_read readings ++ left)
  pub count : IfSome (hopper_left h w) (λ left. h.read ≡ counted_cards (length start.pile) (length readings))
  -- the unit of the card that came to the front last, and how many cards of the pile are still to be read
  pub from : IsOfCards h.from
  pub to_come : IfSome (pile_left h.pile w) (λ left. AreToCome h.front h.from (length left) (length start.pile - length readings))

-- a hopper has read some cards
pub record HasReadCards (start : Start) (h : Hopper) (w : World) : Type 0 where
  pub readings : List Reading
  pub by : HasReadCardsBy start readings h w

-- the readings of a hopper stay
abbrev pub ReadsNoCard : Hopper → Hopper → Seen → Seen → Type 0
ReadsNoCard old new before after =
    (start : Start) (readings : List Reading) → HasReadCardsBy start readings old before.world → HasReadCardsBy start readings new after.world

-- the reading of the card that was taken last, before any of it is stored
abbrev pub reading_of : Hopper → List ℕ → Reading
reading_of h text = record { unit = h.from; line = line_read h; text = text; how = how.Digit; room = 0 }

-- one card more was read; its text, filled with blanks, is the card
pub record ReadsOneMore (start : Start) (readings : List Reading) (h : Hopper) (w : World) (card : List ℕ) : Type 0 where
  pub text : List ℕ
  pub filled : card ≡ text_as_card text
  pub by : HasReadCardsBy start (readings ++ reading_of h text ∷ []) h w

-- the taking of a card adds that card to the readings; if no card is taken, they stay
abbrev pub AddsCard : Start → List Reading → Hopper → World → CardAnswer → Type 0
AddsCard start readings h w (answer.Card card last) = ReadsOneMore start readings h w card.0
AddsCard start readings h w got = HasReadCardsBy start readings h w

abbrev pub ReadsNext : Hopper → Hopper → Seen → Seen → CardAnswer → Type 0
ReadsNext old new before after got =
    (start : Start) (readings : List Reading) → HasReadCardsBy start readings old before.world → AddsCard start readings new after.world got

-- the counts, the tally and the unit of the front card stay as they are
pub record HasSameRead (old new : Hopper) : Type 0 where
  pub from : new.from ≡ old.from
  pub read : new.read ≡ old.read
  pub bad : new.bad ≡ old.bad

-- if the hopper had read some cards before, it has read some cards after
abbrev pub GoesOnReadingCards : Hopper → Hopper → Seen → Seen → Type 0
GoesOnReadingCards old new before after = (start : Start) → HasReadCards start old before.world → HasReadCards start new after.world

-- a hopper that has read nothing yet
abbrev pub IsNewHopper : Hopper → Type 0
IsNewHopper h = (start : Start) (w : World) → IfSome (deck_left h w) (λ left. start.pile ≡ left) → IfSome (hopper_left h w) (λ left. start.all ≡ left)
    → HasReadCards start h w
