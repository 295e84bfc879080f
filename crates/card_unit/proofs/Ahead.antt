-- That a hopper stays one ahead.
use Rattle.std.proofs.Common.{◌≡◌, List, refl, sym, ◌∙◌, ap, subst, inl, inr}
use Rattle.std.proofs.lemmas.Option.{IfSome_then}
use Rattle.std.specs.Prelude.{Option, Some, None, IfSome}
use Rattle.outside_io.specs.declared.host.Unit as unit
use Rattle.outside_io.specs.declared.host.Unit.TheVariants as units
use Rattle.outside_io.specs.World.{World, Asked, Seen, same_unit}
use Rattle.card_code.specs.declared.lines.Lines.{Lines}
use Rattle.card_code.specs.declared.lines.More.{More}
use Rattle.card_code.specs.declared.lines.More.TheVariants as more
use Rattle.card_code.specs.Entries.{Entry}
use Rattle.card_code.specs.Reader as lines
use Rattle.card_code.specs.Reader.{unit_of, bytes_held, AsksInTurn, AsksOneAhead, HasNone}
use Rattle.card_code.proofs.InTurn.{is_ahead}
use Rattle.card_unit.specs.declared.front.Front.{Front}
use Rattle.card_unit.specs.declared.pile.Pile.{Pile}
use Rattle.card_unit.specs.declared.pile.Pile.TheVariants as pile
use Rattle.card_unit.specs.declared.hopper.Hopper.{Hopper}
use Rattle.card_unit.specs.Pile.{pile_left, pile_unit, IsPileAhead, IsPileInTurn, LooksAt}
use Rattle.card_unit.specs.Hopper.{IsPileReady, IsDataLater, IsHopperAhead, KeepsAhead, IsAheadBehind}
use Rattle.card_unit.proofs.Hoppers.{pile_same, pile_apart}

-- A unit is asked as it was.
module _ (u : unit.Unit) (v w : World) (asked : w.asked u ≡ v.asked u) where
  asked_same : (reader : Lines) → unit_of reader ≡ u → w.asked (unit_of reader) ≡ v.asked (unit_of reader)
  asked_same reader is = ap (λ (u : unit.Unit). w.asked u) is ∙ asked ∙ sym (ap (λ (u : unit.Unit). v.asked u) is)

  -- so its reader stays in turn, or one ahead
  reader_turn : (reader : Lines) → unit_of reader ≡ u → lines.IsInTurn reader v → lines.IsInTurn reader w
  reader_turn reader is turn = subst (λ (o : Option Asked). IfSome o (AsksInTurn (bytes_held reader))) (sym (asked_same reader is)) turn

  reader_ahead : (reader : Lines) → unit_of reader ≡ u → lines.IsOneAhead reader v → lines.IsOneAhead reader w
  reader_ahead reader is ahead = subst (λ (o : Option Asked). IfSome o (AsksOneAhead (bytes_held reader))) (sym (asked_same reader is)) ahead

  -- and so does the pile of its lines
  pile_turn : (p : Pile) → pile_unit p ≡ u → IsPileInTurn p v → IsPileInTurn p w
  pile_turn (pile.Cards cards gone) is turn = tt
  pile_turn (pile.Deck reader) is turn = reader_turn reader is turn

  pile_ahead : (p : Pile) → pile_unit p ≡ u → IsPileAhead p v → IsPileAhead p w
  pile_ahead (pile.Cards cards gone) is ahead = tt
  pile_ahead (pile.Deck reader) is ahead = reader_ahead reader is ahead

  pile_ready : (front : Option Front) (p : Pile) → pile_unit p ≡ u → IsPileReady front p v → IsPileReady front p w
  pile_ready None p is ready = pile_ahead p is ready
  pile_ready (Some front) p is ready = pile_turn p is ready

  -- it is still not asked before its turn
  data_later : (front : Option Front) (reader : Lines) (left : List Entry) → unit_of reader ≡ u → IsDataLater front reader v left → IsDataLater front reader w left
  data_later front reader left is (inl turn) = inl (reader_turn reader is turn)
  data_later front reader left is (inr none) = inr none

-- a hopper stays one ahead where its units are asked as they were
pub ahead_same : (h : Hopper) (v w : World) → w.left units.Deck ≡ v.left units.Deck → w.asked units.Deck ≡ v.asked units.Deck → w.asked units.Data ≡ v.asked units.Data → IsHopperAhead h v → IsHopperAhead h w
ahead_same h v w left deck later ahead = record {
  pile = pile_ready units.Deck v w deck h.front h.pile h.pile_is ahead.pile;
  reader = reader_ahead units.Data v w later h.data h.data_is ahead.reader;
  later = subst (λ (told : Option (List Entry)). IfSome told (IsDataLater h.front h.data w)) (sym (pile_same h.pile v w h.pile_is left))
      (IfSome_then (pile_left h.pile v) ahead.later (λ es. data_later units.Data v w later h.front h.data es h.data_is));
}

-- so it does over a call that leaves it as it was
pub ahead_kept : (old new : Hopper) (before after : Seen) → new ≡ old → after.world.left units.Deck ≡ before.world.left units.Deck → after.world.asked units.Deck ≡ before.world.asked units.Deck → after.world.asked units.Data ≡ before.world.asked units.Data → KeepsAhead old new before after
ahead_kept old new before after same left deck later ahead = subst (λ (h : Hopper). IsHopperAhead h after.world) (sym same) (ahead_same old before.world after.world left deck later ahead)

-- a pile in turn is so whatever stands at the front
any_ready : (front : Option Front) (p : Pile) (w : World) → IsPileInTurn p w → IsPileReady front p w
any_ready None (pile.Cards cards gone) w turn = tt
any_ready None (pile.Deck reader) w turn = is_ahead reader w turn
any_ready (Some front) p w turn = turn

-- what holds of all entries holds of those that are told
pub always : (told : Option (List Entry)) (P : List Entry → Type 0) → ((es : List Entry) → P es) → IfSome told P
always None P holds = tt
always (Some es) P holds = holds es

-- a hopper is one ahead where its pile and its data are in turn
pub turn_ahead : (h : Hopper) (w : World) → IsPileInTurn h.pile w → lines.IsInTurn h.data w → IsHopperAhead h w
turn_ahead h w pile turn = record {
  pile = any_ready h.front h.pile w pile;
  reader = is_ahead h.data w turn;
  later = always (pile_left h.pile w) (IsDataLater h.front h.data w) (λ es. inl turn);
}

-- The pile was asked for its next card and has ended, and the data were asked for their next line.
pub data_ahead : (old new : Hopper) (mid : Pile) (before between after : Seen) → old.front ≡ None → new.pile ≡ mid → LooksAt (same_unit units.Deck) before between → (IsPileAhead old.pile before.world → IsPileInTurn mid between.world)
    → LooksAt (same_unit units.Data) between after → (lines.IsOneAhead old.data between.world → lines.IsInTurn new.data after.world) → KeepsAhead old new before after
data_ahead old new mid before between after none same looks turn looks_rest turn_rest ahead =
    let pile : IsPileInTurn new.pile between.world =
    subst (λ (p : Pile). IsPileInTurn p between.world) (sym same) (turn (subst (λ (front : Option Front). IsPileReady front old.pile before.world) none ahead.pile)) in
    turn_ahead new after.world (pile_turn units.Deck between.world after.world (looks_rest.keeps.asked units.Deck refl) new.pile new.pile_is pile)
    (turn_rest (reader_ahead units.Data before.world between.world (looks.keeps.asked units.Data refl) old.data old.data_is ahead.reader))

-- so they are where a card stands at the front
front_later : (front : Front) (told : Option (List Entry)) (reader : Lines) (w : World) → IfSome told (IsDataLater (Some front) reader w) → IfSome told (λ es. lines.IsInTurn reader w)
front_later front None reader w later = tt
front_later front (Some es) reader w (inl turn) = turn
front_later front (Some es) reader w (inr none) = cc

-- and they need not be where no entry is left, and none stands at the front
none_later : (told : Option (List Entry)) (reader : Lines) (w : World) → HasNone told → IfSome told (IsDataLater None reader w)
none_later None reader w none = tt
none_later (Some es) reader w none = inr (none, refl)

-- The pile was looked at behind a card at the front.
module _ (old new : Hopper) (before after : Seen) (front : Front) (some : old.front ≡ Some front) (looks : LooksAt (same_unit units.Deck) before after) (ahead : IsHopperAhead old before.world) where
  pile_front : IsPileInTurn old.pile before.world
  pile_front = subst (λ (front : Option Front). IsPileReady front old.pile before.world) some ahead.pile

  reader_front : lines.IsOneAhead old.data after.world
  reader_front = reader_ahead units.Data before.world after.world (looks.keeps.asked units.Data refl) old.data old.data_is ahead.reader

  later_front : IfSome (pile_left old.pile before.world) (λ es. lines.IsInTurn old.data after.world)
  later_front =
      let later : IfSome (pile_left old.pile before.world) (λ es. lines.IsInTurn old.data before.world) =
      front_later front (pile_left old.pile before.world) old.data before.world (subst (λ (front : Option Front). IfSome (pile_left old.pile before.world) (IsDataLater front old.data before.world)) some ahead.later) in
      IfSome_then (pile_left old.pile before.world) later (λ es. reader_turn units.Data before.world after.world (looks.keeps.asked units.Data refl) old.data old.data_is)

  -- it stays as it was but for its readings
  looked_ahead : new.data ≡ old.data → pile_left new.pile after.world ≡ pile_left old.pile before.world → IsPileReady new.front new.pile after.world → IsHopperAhead new after.world
  looked_ahead rest left ready = record {
    pile = ready;
    reader = subst (λ (reader : Lines). lines.IsOneAhead reader after.world) (sym rest) reader_front;
    later = subst (λ (reader : Lines). IfSome (pile_left new.pile after.world) (IsDataLater new.front reader after.world)) (sym rest)
        (subst (λ (told : Option (List Entry)). IfSome told (IsDataLater new.front old.data after.world)) (sym left) (IfSome_then (pile_left old.pile before.world) later_front (λ es turn. inl turn)));
  }

  -- an entry is left in it, and the card at the front is taken
  pub some_ahead : new.front ≡ None → new.data ≡ old.data → pile_left new.pile after.world ≡ pile_left old.pile before.world → (IsPileAhead old.pile before.world → IsPileAhead new.pile after.world) → IsHopperAhead new after.world
  some_ahead gone rest left stays = looked_ahead rest left (subst (λ (front : Option Front). IsPileReady front new.pile after.world) (sym gone) (stays (any_ready None old.pile before.world pile_front)))

  -- the host failed
  pub failed_ahead : new.data ≡ old.data → pile_left new.pile after.world ≡ pile_left old.pile before.world → (IsPileInTurn old.pile before.world → IsPileInTurn new.pile after.world) → IsHopperAhead new after.world
  failed_ahead rest left turn = looked_ahead rest left (any_ready new.front new.pile after.world (turn pile_front))

-- None is left in it, and the data were looked at too.
module _ (old new : Hopper) (mid : Pile) (before between after : Seen) (front : Front) (some : old.front ≡ Some front) (looks : LooksAt (same_unit units.Deck) before between) (ahead : IsHopperAhead old before.world)
    (same : new.pile ≡ mid) (left : pile_left mid between.world ≡ pile_left old.pile before.world) (turn : IsPileInTurn old.pile before.world → IsPileInTurn mid between.world)
    (looks_rest : LooksAt (same_unit units.Data) between after) (stays : lines.IsOneAhead old.data between.world → lines.IsOneAhead new.data after.world) where
  pile_over : IsPileInTurn new.pile after.world
  pile_over = pile_turn units.Deck between.world after.world (looks_rest.keeps.asked units.Deck refl) new.pile new.pile_is
      (subst (λ (p : Pile). IsPileInTurn p between.world) (sym same) (turn (pile_front old old before between front some looks ahead)))

  left_over : pile_left new.pile after.world ≡ pile_left old.pile before.world
  left_over = pile_apart new.pile between after new.pile_is looks_rest ∙ ap (λ (p : Pile). pile_left p between.world) same ∙ left

  reader_over : lines.IsOneAhead new.data after.world
  reader_over = stays (reader_front old old before between front some looks ahead)

  over_ahead : HasNone (pile_left old.pile before.world) → IsAheadBehind new after.world more.No
  over_ahead none = record {
    pile = any_ready None new.pile after.world pile_over;
    reader = reader_over;
    later = none_later (pile_left new.pile after.world) new.data after.world (subst HasNone (sym left_over) none);
  }

  -- whatever that look found
  pub rest_ahead : (got : More) → HasNone (pile_left old.pile before.world) → ((got ≡ more.Yes → ⊥) → lines.IsInTurn old.data between.world → lines.IsInTurn new.data after.world) → IsAheadBehind new after.world got
  rest_ahead more.Yes none turn_rest = over_ahead none
  rest_ahead more.No none turn_rest = over_ahead none
  rest_ahead more.Failed none turn_rest = record {
    pile = any_ready new.front new.pile after.world pile_over;
    reader = reader_over;
    later = subst (λ (told : Option (List Entry)). IfSome told (IsDataLater new.front new.data after.world)) (sym left_over)
        (IfSome_then (pile_left old.pile before.world) (later_front old old before between front some looks ahead) (λ es turn_old. inl (turn_rest (λ is. cc) turn_old)));
  }
