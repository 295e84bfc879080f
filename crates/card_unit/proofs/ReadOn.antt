-- What a hopper has read: none more, or one card more.
use Rattle.std.proofs.Common.{◌≡◌, ℕ, ◌+◌, ◌-◌, ◌<◌, ◌≤◌, min, List, [], ◌∷◌, ◌++◌, length, map, refl, sym, ◌∙◌, ap, subst, inl, inr, arith, append_assoc, length-append}
use Rattle.std.proofs.lemmas.List.{map-append}
use Rattle.std.proofs.lemmas.Option.{IfSome_then}
use Rattle.std.specs.Prelude.{Option, Some, None, option_map, IfSome}
use Rattle.outside_io.specs.declared.host.Unit as unit
use Rattle.outside_io.specs.declared.host.Unit.TheVariants as units
use Rattle.outside_io.specs.World.{World, one_more}
use Rattle.card_code.specs.declared.lines.Lines.{Lines}
use Rattle.card_code.specs.Entries.{Entry, Text, behind}
use Rattle.card_code.specs.Reader as lines
use Rattle.card_code.specs.Readings.{Reading, bad_from, bad_in, counted, no_bad, no_lines, with_line, lines_after, AreNumbered, entry_read}
use Rattle.card_code.proofs.OneMore.{counted_more, tally_same, lines_after_more, numbered_more}
use Rattle.card_unit.specs.declared.counts.CardsRead.{CardsRead}
use Rattle.card_unit.specs.declared.front.Front.{Front}
use Rattle.card_unit.specs.declared.pile.Pile.{Pile}
use Rattle.card_unit.specs.declared.hopper.Hopper.{Hopper}
use Rattle.card_unit.specs.Counts.{one_more_read, last_card_number, counted_cards}
use Rattle.card_unit.specs.Front.{front_text}
use Rattle.card_unit.specs.Pile.{pile_left, IsPileInTurn}
use Rattle.card_unit.specs.Hopper.{entries_in_order, front_left, hopper_left, IsPileReady, IsDataLater, IsHopperAhead, Start, IsOfCards, AreToCome, HasReadCardsBy, HasSameRead, reading_of, IsNewHopper}
use Rattle.card_unit.proofs.Ahead.{always, turn_ahead}

-- entries, where they are told
abbrev Told : Type 0
Told = Option (List Entry)

-- Nothing was read yet.

-- all cards of the pile are still to come
all_to_come : (u : unit.Unit) (all : List Entry) (pile : Told) → IfSome (option_map (λ d. [] ++ d) pile) (λ left. all ≡ left) → IfSome pile (λ left. AreToCome None u (length left) (length all - 0))
all_to_come u all None is = tt
all_to_come u all (Some es) is = let same : length all ≡ length es = ap length is in omega (arith, same)

none_of : (pile : ℕ) → record { of_deck = 0; of_data = 0 } ≡ counted_cards pile 0
none_of pile =
    let a : min 0 pile ≡ 0 = omega arith in
    let b : 0 - pile ≡ 0 = omega arith in
    rw (a, b) refl

-- so it is with a hopper that is made
pub begins : (h : Hopper) → h.front ≡ None → h.from ≡ units.Deck → h.read ≡ record { of_deck = 0; of_data = 0 } → h.bad ≡ no_bad → ((w : World) → IsPileInTurn h.pile w) → ((w : World) → lines.IsInTurn h.data w) → IsNewHopper h
unfolding AreNumbered lines_after
begins h front from read bad pile turn = λ start w told_deck told. record {
  readings = [];
  by = record {
    ahead = turn_ahead h w (pile w) (turn w);
    numbered = tt;
    of_deck = ap (λ (r : CardsRead). r.of_deck) read;
    of_data = ap (λ (r : CardsRead). r.of_data) read;
    tallied = bad;
    all = told;
    count = always (hopper_left h w) (λ left. h.read ≡ counted_cards (length start.pile) 0) (λ es. read ∙ none_of (length start.pile));
    from = inl from;
    to_come = subst (λ (f : Option Front). IfSome (pile_left h.pile w) (λ left. AreToCome f h.from (length left) (length start.pile - 0))) (sym front)
        (all_to_come h.from start.pile (pile_left h.pile w) (subst (λ (f : Option Front). IfSome (option_map (λ d. front_left f ++ d) (pile_left h.pile w)) (λ left. start.pile ≡ left)) front told_deck));
  };
}

-- None more was read.
module _ (start : Start) (readings : List Reading) where
  -- so many cards of the pile are still to be read
  abbrev to_come : ℕ
  to_come = length start.pile - length readings

  -- a hopper that has left what it had has read the same
  pub same_read : (old new : Hopper) (v w : World) → HasReadCardsBy start readings old v → IsHopperAhead new w → new.read ≡ old.read → new.bad ≡ old.bad → hopper_left new w ≡ hopper_left old v → IsOfCards new.from
      → IfSome (pile_left new.pile w) (λ left. AreToCome new.front new.from (length left) to_come) → HasReadCardsBy start readings new w
  same_read old new v w had ahead read bad left from come = record {
    ahead = ahead;
    numbered = had.numbered;
    of_deck = ap (λ (r : CardsRead). r.of_deck) read ∙ had.of_deck;
    of_data = ap (λ (r : CardsRead). r.of_data) read ∙ had.of_data;
    tallied = bad ∙ had.tallied;
    all = subst (λ (told : Told). IfSome told (λ left. start.all ≡ map entry_read readings ++ left)) (sym left) had.all;
    count = subst (λ (told : Told). IfSome told (λ left. new.read ≡ counted_cards (length start.pile) (length readings))) (sym left) (IfSome_then (hopper_left old v) had.count (λ es is. read ∙ is));
    from = from;
    to_come = come;
  }

  module _ (old new : Hopper) (v w : World) (had : HasReadCardsBy start readings old v) (ahead : IsHopperAhead new w) (read : new.read ≡ old.read) (bad : new.bad ≡ old.bad) (left : hopper_left new w ≡ hopper_left old v) where
    -- nothing came to the front
    pub none_came : new.front ≡ old.front → new.from ≡ old.from → pile_left new.pile w ≡ pile_left old.pile v → HasReadCardsBy start readings new w
    none_came front from pile =
        same_read old new v w had ahead read bad left (subst IsOfCards (sym from) had.from)
        (subst (λ (f : Option Front). IfSome (pile_left new.pile w) (λ left. AreToCome f new.from (length left) to_come)) (sym front)
        (subst (λ (u : unit.Unit). IfSome (pile_left new.pile w) (λ left. AreToCome old.front u (length left) to_come)) (sym from)
        (subst (λ (told : Told). IfSome told (λ left. AreToCome old.front old.from (length left) to_come)) (sym pile) had.to_come)))

-- One card more.

-- what is said of front, pile and data alone holds of another hopper with these
pub ahead_like : (old new : Hopper) (w : World) → new.front ≡ old.front → new.pile ≡ old.pile → new.data ≡ old.data → IsHopperAhead old w → IsHopperAhead new w
ahead_like old new w front pile rest ahead = record {
  pile = subst (λ (f : Option Front). IsPileReady f new.pile w) (sym front) (subst (λ (p : Pile). IsPileReady old.front p w) (sym pile) ahead.pile);
  reader = subst (λ (reader : Lines). lines.IsOneAhead reader w) (sym rest) ahead.reader;
  later = subst (λ (f : Option Front). IfSome (pile_left new.pile w) (IsDataLater f new.data w)) (sym front)
      (subst (λ (reader : Lines). IfSome (pile_left new.pile w) (IsDataLater old.front reader w)) (sym rest)
      (subst (λ (p : Pile). IfSome (pile_left p w) (IsDataLater old.front old.data w)) (sym pile) ahead.later));
}

-- the counts of two units
abbrev counts : ℕ → ℕ → CardsRead
counts deck rest = record { of_deck = deck; of_data = rest }

both : (a b c d : ℕ) → a ≡ b → c ≡ d → counts a c ≡ counts b d
both a b c d e f = ap (λ (n : ℕ). counts n c) e ∙ ap (counts b) f

-- a card more of the pile, while it has some, and then of the data
deck_more : (pile taken : ℕ) → taken < pile → one_more_read units.Deck (counted_cards pile taken) ≡ counted_cards pile (taken + 1)
deck_more pile taken some = both _ _ _ _ (counted_more (min taken pile) ∙ ap counted (omega arith)) (ap counted (omega arith))

data_more : (pile taken : ℕ) → pile ≤ taken → one_more_read units.Data (counted_cards pile taken) ≡ counted_cards pile (taken + 1)
data_more pile taken over = both _ _ _ _ (ap counted (omega arith)) (counted_more (taken - pile) ∙ ap counted (omega arith))

module _ (front : Front) (pile taken left : ℕ) where
  -- the front is taken, and counted as a card of its unit
  read_on : (u : unit.Unit) (read : CardsRead) → IsOfCards u → AreToCome (Some front) u left (pile - taken) → read ≡ counted_cards pile taken → one_more_read u read ≡ counted_cards pile (taken + 1)
  read_on u read (inl deck) come is =
      let here : AreToCome (Some front) units.Deck left (pile - taken) = subst (λ (u : unit.Unit). AreToCome (Some front) u left (pile - taken)) deck come in
      ap (λ (u : unit.Unit). one_more_read u read) deck ∙ ap (one_more_read units.Deck) is ∙ deck_more pile taken (omega (arith, here))
  read_on u read (inr rest) come is =
      let here : AreToCome (Some front) units.Data left (pile - taken) = subst (λ (u : unit.Unit). AreToCome (Some front) u left (pile - taken)) rest come in
      ap (λ (u : unit.Unit). one_more_read u read) rest ∙ ap (one_more_read units.Data) is ∙ data_more pile taken (omega (arith, here.1))

  -- so many are still to come behind it
  come_on : (u : unit.Unit) → IsOfCards u → AreToCome (Some front) u left (pile - taken) → left ≡ pile - (taken + 1)
  come_on u (inl deck) come =
      let here : AreToCome (Some front) units.Deck left (pile - taken) = subst (λ (u : unit.Unit). AreToCome (Some front) u left (pile - taken)) deck come in
      omega (arith, here)
  come_on u (inr rest) come =
      let here : AreToCome (Some front) units.Data left (pile - taken) = subst (λ (u : unit.Unit). AreToCome (Some front) u left (pile - taken)) rest come in
      omega (arith, here.0, here.1)

-- it is numbered as the next of its unit
module _ (read : CardsRead) (gone : unit.Unit → ℕ) (deck : read.of_deck ≡ gone units.Deck) (rest : read.of_data ≡ gone units.Data) where
  deck_on : (u : unit.Unit) → IsOfCards u → (one_more_read u read).of_deck ≡ with_line u gone units.Deck
  deck_on u (inl is) = subst (λ (u : unit.Unit). (one_more_read u read).of_deck ≡ with_line u gone units.Deck) (sym is) (ap one_more deck)
  deck_on u (inr is) = subst (λ (u : unit.Unit). (one_more_read u read).of_deck ≡ with_line u gone units.Deck) (sym is) deck

  data_on : (u : unit.Unit) → IsOfCards u → (one_more_read u read).of_data ≡ with_line u gone units.Data
  data_on u (inl is) = subst (λ (u : unit.Unit). (one_more_read u read).of_data ≡ with_line u gone units.Data) (sym is) rest
  data_on u (inr is) = subst (λ (u : unit.Unit). (one_more_read u read).of_data ≡ with_line u gone units.Data) (sym is) (ap one_more rest)

  line_on : (u : unit.Unit) → IsOfCards u → last_card_number u (one_more_read u read) ≡ one_more (gone u)
  line_on u (inl is) = subst (λ (u : unit.Unit). last_card_number u (one_more_read u read) ≡ one_more (gone u)) (sym is) (ap one_more deck)
  line_on u (inr is) = subst (λ (u : unit.Unit). last_card_number u (one_more_read u read) ≡ one_more (gone u)) (sym is) (ap one_more rest)

-- what was read and what is left are all still
all_on : (read all : List Entry) (text : List ℕ) (pile rest : Told) → IfSome (entries_in_order (Text text ∷ []) pile rest) (λ left. all ≡ read ++ left)
    → IfSome (option_map behind (entries_in_order (Text text ∷ []) pile rest)) (λ left. all ≡ (read ++ Text text ∷ []) ++ left)
all_on read all text None rest is = tt
all_on read all text (Some es) None is = tt
all_on read all text (Some es) (Some fs) is = is ∙ sym (append_assoc read (Text text ∷ []) (es ++ fs))

-- what follows from what is said of the pile and of all
count_on : (front : List Entry) (pile rest : Told) (Before After : Type 0) (Come : ℕ → Type 0) → IfSome (entries_in_order front pile rest) (λ left. Before) → IfSome pile (λ left. Come (length left)) → ((n : ℕ) → Come n → Before → After)
    → IfSome (option_map behind (entries_in_order front pile rest)) (λ left. After)
count_on front None rest Before After Come is come then = tt
count_on front (Some es) None Before After Come is come then = tt
count_on front (Some es) (Some fs) Before After Come is come then = then (length es) come is

-- nothing of it was stored
pub none_stored : (h : Hopper) (text : List ℕ) → bad_in (reading_of h text) ≡ []
unfolding bad_from
none_stored h text = refl

pub one_longer : (readings : List Reading) (r : Reading) → length (readings ++ r ∷ []) ≡ length readings + 1
one_longer readings r = length-append readings (r ∷ [])

-- The card at the front is taken.
module _ (start : Start) (readings : List Reading) (mid end new : Hopper) (v w : World) (front : Front) (is : mid.front ≡ Some front) (had : HasReadCardsBy start readings mid v)
    (pile : pile_left end.pile w ≡ pile_left mid.pile v) (same : HasSameRead mid end) (gone : new.front ≡ None) (new_pile : new.pile ≡ end.pile) (new_rest : new.data ≡ end.data) (new_from : new.from ≡ end.from) (new_bad : new.bad ≡ end.bad)
    (new_read : new.read ≡ one_more_read end.from end.read) (left : hopper_left new w ≡ option_map behind (hopper_left mid v)) where
  abbrev card : Reading
  card = reading_of new (front_text front)

  abbrev longer : List Reading
  longer = readings ++ card ∷ []

  from_same : new.from ≡ mid.from
  from_same = new_from ∙ same.from

  from_cards : IsOfCards new.from
  from_cards = subst IsOfCards (sym from_same) had.from

  read_one : new.read ≡ one_more_read new.from mid.read
  read_one = new_read ∙ ap (one_more_read end.from) same.read ∙ ap (λ (u : unit.Unit). one_more_read u mid.read) (sym new_from)

  whole : hopper_left mid v ≡ entries_in_order (Text (front_text front) ∷ []) (pile_left mid.pile v) (lines.entries_left mid.data v)
  whole = ap (λ (f : Option Front). entries_in_order (front_left f) (pile_left mid.pile v) (lines.entries_left mid.data v)) is

  left_whole : hopper_left new w ≡ option_map behind (entries_in_order (Text (front_text front) ∷ []) (pile_left mid.pile v) (lines.entries_left mid.data v))
  left_whole = left ∙ ap (option_map behind) whole

  come_some : IfSome (pile_left mid.pile v) (λ left. AreToCome (Some front) new.from (length left) (length start.pile - length readings))
  come_some = subst (λ (u : unit.Unit). IfSome (pile_left mid.pile v) (λ left. AreToCome (Some front) u (length left) (length start.pile - length readings))) (sym from_same)
      (subst (λ (f : Option Front). IfSome (pile_left mid.pile v) (λ left. AreToCome f mid.from (length left) (length start.pile - length readings))) is had.to_come)

  all_more : IfSome (hopper_left new w) (λ left. start.all ≡ map entry_read longer ++ left)
  all_more = subst (λ (read : List Entry). IfSome (hopper_left new w) (λ left. start.all ≡ read ++ left)) (sym (map-append entry_read readings (card ∷ [])))
      (subst (λ (told : Told). IfSome told (λ left. start.all ≡ (map entry_read readings ++ Text (front_text front) ∷ []) ++ left)) (sym left_whole)
      (all_on (map entry_read readings) start.all (front_text front) (pile_left mid.pile v) (lines.entries_left mid.data v)
      (subst (λ (told : Told). IfSome told (λ left. start.all ≡ map entry_read readings ++ left)) whole had.all)))

  count_more : IfSome (hopper_left new w) (λ left. new.read ≡ counted_cards (length start.pile) (length longer))
  count_more = subst (λ (told : Told). IfSome told (λ left. new.read ≡ counted_cards (length start.pile) (length longer))) (sym left_whole)
      (count_on (Text (front_text front) ∷ []) (pile_left mid.pile v) (lines.entries_left mid.data v) (mid.read ≡ counted_cards (length start.pile) (length readings)) (new.read ≡ counted_cards (length start.pile) (length longer))
      (λ n. AreToCome (Some front) new.from n (length start.pile - length readings))
      (subst (λ (told : Told). IfSome told (λ left. mid.read ≡ counted_cards (length start.pile) (length readings))) whole had.count) come_some
      (λ n come before. read_one ∙ read_on front (length start.pile) (length readings) n new.from mid.read from_cards come before ∙ ap (counted_cards (length start.pile)) (sym (one_longer readings card))))

  come_more : IfSome (pile_left new.pile w) (λ left. AreToCome new.front new.from (length left) (length start.pile - length longer))
  come_more = subst (λ (f : Option Front). IfSome (pile_left new.pile w) (λ left. AreToCome f new.from (length left) (length start.pile - length longer))) (sym gone)
      (subst (λ (told : Told). IfSome told (λ left. length left ≡ length start.pile - length longer)) (sym (ap (λ (p : Pile). pile_left p w) new_pile ∙ pile))
      (IfSome_then (pile_left mid.pile v) come_some (λ es come. come_on front (length start.pile) (length readings) (length es) new.from from_cards come ∙ ap (λ (n : ℕ). length start.pile - n) (sym (one_longer readings card)))))

  -- it is one reading more
  pub card_more : IsHopperAhead (record end { front = None }) w → HasReadCardsBy start longer new w
  card_more ahead = record {
    ahead = ahead_like (record end { front = None }) new w gone new_pile new_rest ahead;
    numbered = numbered_more readings card no_lines had.numbered (ap (last_card_number new.from) read_one ∙ line_on mid.read (lines_after readings no_lines) had.of_deck had.of_data new.from from_cards);
    of_deck = ap (λ (r : CardsRead). r.of_deck) read_one ∙ deck_on mid.read (lines_after readings no_lines) had.of_deck had.of_data new.from from_cards ∙ sym (lines_after_more readings card no_lines units.Deck);
    of_data = ap (λ (r : CardsRead). r.of_data) read_one ∙ data_on mid.read (lines_after readings no_lines) had.of_deck had.of_data new.from from_cards ∙ sym (lines_after_more readings card no_lines units.Data);
    tallied = new_bad ∙ same.bad ∙ had.tallied ∙ tally_same readings card (none_stored new (front_text front));
    all = all_more;
    count = count_more;
    from = from_cards;
    to_come = come_more;
  }
