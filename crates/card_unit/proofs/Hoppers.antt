-- A hopper whose pile and whose data are asked, one after the other.
use Rattle.std.proofs.Common.{◌≡◌, ℕ, Bool, true, false, List, [], ◌∷◌, ◌++◌, refl, sym, ◌∙◌, ap, subst, arith}
use Rattle.std.specs.Prelude.{Option, Some, None, option_map, ◌||◌, Ok, Err}
use Rattle.outside_io.specs.declared.host.Unit as unit
use Rattle.outside_io.specs.declared.host.Unit.TheVariants as units
use Rattle.outside_io.specs.World.{World, Seen, same_unit}
use Rattle.outside_io.specs.Frame.{ToldValue, Keeps}
use Rattle.outside_io.proofs.Frames.{keeps_on, keeps_taken}
use Rattle.card_code.specs.Break.{Empty, JamsAt}
use Rattle.card_code.specs.declared.lines.Lines.{Lines}
use Rattle.card_code.specs.declared.lines.More.{More}
use Rattle.card_code.specs.declared.lines.More.TheVariants as more
use Rattle.card_code.specs.Entries.{Entry, Text, Long, entries_of_unit, behind, text_as_card, next_card}
use Rattle.card_code.specs.Reader.{unit_of, lines_handed_out, bytes_held, entries_left, AsksUnit, Fronts, HasNone, HasSome, MoreEntries}
use Rattle.card_unit.specs.declared.front.Front.{Front}
use Rattle.card_unit.specs.declared.front.Held.{Held}
use Rattle.card_unit.specs.declared.front.Held.TheVariants as held
use Rattle.card_unit.specs.Front.{front_text, HoldsNext}
use Rattle.card_unit.specs.declared.pile.Pile.{Pile}
use Rattle.card_unit.specs.declared.pile.Pile.TheVariants as pile
use Rattle.card_unit.specs.declared.hopper.Hopper.{Hopper}
use Rattle.card_unit.specs.Pile.{pile_left, pile_unit, no_unit, is_card_unit, LooksAt}
use Rattle.card_unit.specs.Hopper.{entries_in_order, front_left, hopper_left, hopper_feed, LooksAtHopper, Holds, SaysBehind, HasBehind, TellsAtLeast, DataStays}
use Rattle.card_code.specs.Feed.{Stays, GivesEntry, Lacks}
use Rattle.card_unit.proofs.HopperOrder.{given_none, none_after, some_after, jam_pile, jam_data, given_long, given_card, behind_front}

-- what looks at one unit looks at fewer than what looks at more
looks_wide : (reads more : unit.Unit → Bool) (before after : Seen) → ((u : unit.Unit) → more u ≡ false → reads u ≡ false) → LooksAt reads before after → LooksAt more before after
looks_wide reads more before after fewer looks = record {
  later = looks.later;
  keeps = record { file = looks.keeps.file; in_use = looks.keeps.in_use; names = looks.keeps.names; sectors = looks.keeps.sectors; left = λ u other. looks.keeps.left u (fewer u other); written = looks.keeps.written; asked = λ u other. looks.keeps.asked u (fewer u other); room = looks.keeps.room };
}

-- neither of two tests holds
or_false : (a b : Bool) → (a || b) ≡ false → (a ≡ false) × (b ≡ false)
or_false true b none = cc
or_false false b none = (refl, none)

-- a look at the pile, or at the data, is a look at the hopper
pub looks_pile : (before after : Seen) → LooksAt (same_unit units.Deck) before after → LooksAtHopper before after
looks_pile before after looks = looks_wide (same_unit units.Deck) is_card_unit before after (λ u other. (or_false (same_unit units.Deck u) (same_unit units.Data u) other).0) looks

pub looks_data : (before after : Seen) → LooksAt (same_unit units.Data) before after → LooksAtHopper before after
looks_data before after looks = looks_wide (same_unit units.Data) is_card_unit before after (λ u other. (or_false (same_unit units.Deck u) (same_unit units.Data u) other).1) looks

-- one look after another
pub looks_on : (before mid after : Seen) → LooksAtHopper before mid → LooksAtHopper mid after → LooksAtHopper before after
looks_on before mid after first second = record { later = omega (arith, first.later, second.later); keeps = keeps_on is_card_unit no_unit false before.world mid.world after.world first.keeps second.keeps }

-- a reader that takes bytes looks at its unit
pub looks_moved : (u : unit.Unit) (old new : Lines) (before after : Seen) → unit_of old ≡ u → AsksUnit old new before after → LooksAt (same_unit u) before after
looks_moved u old new before after is moves = record {
  later = moves.goes.later;
  keeps = subst (λ (v : unit.Unit). Keeps (same_unit v) no_unit false before.world after.world) is
      (subst (λ (w : World). Keeps (same_unit (unit_of old)) no_unit false before.world w) (sym moves.goes.world) (keeps_taken (same_unit (unit_of old)) no_unit false (unit_of old) moves.taken before.world (λ v same. same)));
}

-- a look at another unit leaves the entries of a reader
lines_apart : (reads : unit.Unit → Bool) (lines : Lines) (before after : Seen) → reads (unit_of lines) ≡ false → LooksAt reads before after → entries_left lines after.world ≡ entries_left lines before.world
lines_apart reads lines before after other looks =
    ap (λ (left : Option (List ℕ)). option_map (entries_of_unit (unit_of lines) (lines_handed_out lines)) (option_map (λ l. bytes_held lines ++ l) left)) (looks.keeps.left (unit_of lines) other)

-- a look at the pile leaves the data
rest_apart : (h : Hopper) (before after : Seen) → LooksAt (same_unit units.Deck) before after → entries_left h.data after.world ≡ entries_left h.data before.world
rest_apart h before after looks = lines_apart (same_unit units.Deck) h.data before after (ap (λ (u : unit.Unit). same_unit units.Deck u) h.data_is) looks

-- the entries of a reader stay where the bytes of its unit do
pub lines_same : (reader : Lines) (u : unit.Unit) (v w : World) → unit_of reader ≡ u → w.left u ≡ v.left u → entries_left reader w ≡ entries_left reader v
lines_same reader u v w is left =
    let same : w.left (unit_of reader) ≡ v.left (unit_of reader) = ap (λ (u : unit.Unit). w.left u) is ∙ left ∙ sym (ap (λ (u : unit.Unit). v.left u) is) in
    ap (λ (told : Option (List ℕ)). option_map (entries_of_unit (unit_of reader) (lines_handed_out reader)) (option_map (λ l. bytes_held reader ++ l) told)) same

-- and those of a pile, where the bytes of Deck do
pub pile_same : (p : Pile) (v w : World) → pile_unit p ≡ units.Deck → w.left units.Deck ≡ v.left units.Deck → pile_left p w ≡ pile_left p v
pile_same (pile.Cards cards gone) v w is left = refl
pile_same (pile.Deck reader) v w is left = lines_same reader units.Deck v w is left

-- a look at the data leaves the pile
pub pile_apart : (p : Pile) (before after : Seen) → pile_unit p ≡ units.Deck → LooksAt (same_unit units.Data) before after → pile_left p after.world ≡ pile_left p before.world
pile_apart p before after is looks = pile_same p before.world after.world is (looks.keeps.left units.Deck refl)

-- what is the same in each part is the same in all
same_joined : (front front_new : List Entry) (pile pile_new rest rest_new : Option (List Entry)) → front_new ≡ front → pile_new ≡ pile → rest_new ≡ rest → entries_in_order front_new pile_new rest_new ≡ entries_in_order front pile rest
same_joined front front_new pile pile_new rest rest_new a b c =
    ap (λ (es : List Entry). entries_in_order es pile_new rest_new) a ∙ ap (λ (told : Option (List Entry)). entries_in_order front told rest_new) b ∙ ap (λ (told : Option (List Entry)). entries_in_order front pile told) c

-- The pile was asked.
module _ (old new : Hopper) (before after : Seen) (front : new.front ≡ old.front) (rest : new.data ≡ old.data) (looks : LooksAt (same_unit units.Deck) before after) (left : pile_left new.pile after.world ≡ pile_left old.pile before.world) where
  -- nothing of the meaning changed
  pile_stays : Stays hopper_feed old new before after
  pile_stays = record {
    looks = looks_pile before after looks;
    left = same_joined _ _ _ _ _ _ (ap front_left front) left (ap (λ (lines : Lines). entries_left lines after.world) rest ∙ rest_apart old before after looks);
  }

  -- its front line is too long
  pile_jams : (u : unit.Unit) (n : ℕ) → old.front ≡ None → Fronts (Long u n) (pile_left old.pile before.world) → Lacks hopper_feed old new before after (JamsAt u n)
  pile_jams u n none long = record {
    stays = pile_stays;
    given = given_long u n (hopper_left old before.world)
        (subst (λ (es : List Entry). Fronts (Long u n) (entries_in_order es (pile_left old.pile before.world) (entries_left old.data before.world))) (sym (ap front_left none)) (jam_pile u n _ (entries_left old.data before.world) long));
  }

-- where nothing came to the front, the front and the entries are as they were
pub none_held : (front new_front : Option Front) (old new : Option (List Entry)) (before after : Seen) (got : Held) → (got ≡ held.AtFront → ⊥) → HoldsNext front new_front old new before after got → (new_front ≡ front) × (new ≡ old)
none_held front new_front old new before after held.AtFront other holds = absurd (other refl)
none_held front new_front old new before after held.Empty other holds = (holds.0, holds.1)
none_held front new_front old new before after (held.Jam u n) other holds = (holds.0, holds.1)
none_held front new_front old new before after held.Failed other holds = (holds.0, holds.1)

-- the pile answers for the hopper where it jams, or where the host failed
pub pile_lacks : (old new : Hopper) (before after : Seen) → old.front ≡ None → new.data ≡ old.data → LooksAt (same_unit units.Deck) before after → (got : Held) → (got ≡ held.AtFront → ⊥) → (got ≡ held.Empty → ⊥)
    → HoldsNext old.front new.front (pile_left old.pile before.world) (pile_left new.pile after.world) before after got → Holds old new before after got
pile_lacks old new before after none rest looks held.AtFront other some holds = absurd (other refl)
pile_lacks old new before after none rest looks held.Empty other some holds = absurd (some refl)
pile_lacks old new before after none rest looks (held.Jam u n) other some holds = pile_jams old new before after holds.0 rest looks holds.1 u n none holds.2
pile_lacks old new before after none rest looks held.Failed other some holds = record { stays = pile_stays old new before after holds.0 rest looks holds.1; rose = holds.2 }

-- a look ahead leaves the entries
pub more_same : (old new : Option (List Entry)) (before after : Seen) (got : More) → MoreEntries old new before after got → new ≡ old
more_same old new before after more.Yes entry = entry.0
more_same old new before after more.No entry = entry.0
more_same old new before after more.Failed entry = entry.0

-- The pile was asked and has ended, and then the data were asked.
module _ (old new : Hopper) (mid : Pile) (before between after : Seen) (looks : LooksAt (same_unit units.Deck) before between) (left : pile_left mid between.world ≡ pile_left old.pile before.world)
    (front : new.front ≡ old.front) (pile : new.pile ≡ mid) (looks_rest : LooksAt (same_unit units.Data) between after) (left_rest : entries_left new.data after.world ≡ entries_left old.data between.world) where
  -- nothing of the meaning changed
  rest_stays : Stays hopper_feed old new before after
  rest_stays = record {
    looks = looks_on before between after (looks_pile before between looks) (looks_data between after looks_rest);
    left = same_joined _ _ _ _ _ _ (ap front_left front) (pile_apart new.pile between after new.pile_is looks_rest ∙ ap (λ (p : Pile). pile_left p between.world) pile ∙ left) (left_rest ∙ rest_apart old before between looks);
  }

  -- the data's front line is too long
  rest_jams : (u : unit.Unit) (n : ℕ) → old.front ≡ None → HasNone (pile_left old.pile before.world) → Fronts (Long u n) (entries_left old.data between.world) → Lacks hopper_feed old new before after (JamsAt u n)
  rest_jams u n none over long = record {
    stays = rest_stays;
    given = given_long u n (hopper_left old before.world)
        (subst (λ (es : List Entry). Fronts (Long u n) (entries_in_order es (pile_left old.pile before.world) (entries_left old.data before.world))) (sym (ap front_left none))
        (jam_data u n _ _ over (subst (λ (told : Option (List Entry)). Fronts (Long u n) told) (rest_apart old before between looks) long)));
  }

  -- nothing is left
  rest_empty : old.front ≡ None → HasNone (pile_left old.pile before.world) → HasNone (entries_left old.data between.world) → Lacks hopper_feed old new before after Empty
  rest_empty none over end =
      let end_rest : HasNone (entries_left old.data before.world) = subst HasNone (rest_apart old before between looks) end in
      record {
        stays = rest_stays;
        given = subst (λ (es : List Entry). ToldValue (entries_in_order es (pile_left old.pile before.world) (entries_left old.data before.world)) (λ es. next_card es ≡ Err Empty)) (sym (ap front_left none))
            (given_none (pile_left old.pile before.world) (entries_left old.data before.world) over end_rest);
      }

  pile_over : HasNone (pile_left old.pile before.world) → HasNone (pile_left new.pile after.world)
  pile_over over = subst HasNone (sym (pile_apart new.pile between after new.pile_is looks_rest ∙ ap (λ (p : Pile). pile_left p between.world) pile ∙ left)) over

  -- whether the data have an entry is whether one is behind the front
  pub rest_behind : (got : More) → HasNone (pile_left old.pile before.world) → MoreEntries (entries_left old.data between.world) (entries_left new.data after.world) between after got → HasBehind old new before after got
  rest_behind more.Yes over entry = record { stays = rest_stays; front = front; says = some_after (pile_left new.pile after.world) (entries_left new.data after.world) (subst HasSome (sym entry.0) entry.1) }
  rest_behind more.No over entry = record { stays = rest_stays; front = front; says = none_after (pile_left new.pile after.world) (entries_left new.data after.world) (pile_over over) (subst HasNone (sym entry.0) entry.1) }
  rest_behind more.Failed over entry = record { stays = rest_stays; rose = omega (arith, looks.later, entry.1) }

-- the data answer for the hopper behind a pile that has none left
pub rest_lacks : (old new : Hopper) (mid : Pile) (before between after : Seen) → old.front ≡ None → LooksAt (same_unit units.Deck) before between → pile_left mid between.world ≡ pile_left old.pile before.world → HasNone (pile_left old.pile before.world)
    → new.pile ≡ mid → LooksAt (same_unit units.Data) between after → (got : Held) → (got ≡ held.AtFront → ⊥) → HoldsNext old.front new.front (entries_left old.data between.world) (entries_left new.data after.world) between after got
    → Holds old new before after got
rest_lacks old new mid before between after none looks left over pile looks_rest held.AtFront other holds = absurd (other refl)
rest_lacks old new mid before between after none looks left over pile looks_rest held.Empty other holds = rest_empty old new mid before between after looks left holds.0 pile looks_rest holds.1 none over holds.2
rest_lacks old new mid before between after none looks left over pile looks_rest (held.Jam u n) other holds = rest_jams old new mid before between after looks left holds.0 pile looks_rest holds.1 u n none over holds.2
rest_lacks old new mid before between after none looks left over pile looks_rest held.Failed other holds = record { stays = rest_stays old new mid before between after looks left holds.0 pile looks_rest holds.1; rose = omega (arith, looks.later, holds.2) }

-- whatever comes of it, nothing of the meaning changed
pub held_stays : (old new : Hopper) (before after : Seen) (got : Held) → Holds old new before after got → Stays hopper_feed old new before after
held_stays old new before after held.AtFront holds = holds
held_stays old new before after held.Empty holds = holds.stays
held_stays old new before after (held.Jam u n) holds = holds.stays
held_stays old new before after held.Failed holds = holds.stays

-- What stands at the front is taken as a card.
pub front_taken : (old mid end new : Hopper) (before between after : Seen) (front : Front) (last : Bool) (text : List ℕ) → Stays hopper_feed old mid before between → mid.front ≡ Some front → SaysBehind mid end between after last
    → new.front ≡ None → new.pile ≡ end.pile → new.data ≡ end.data → text ≡ text_as_card (front_text front) → GivesEntry hopper_feed old new before after (record { text = text; last = last })
front_taken old mid end new before between after front last text stays holds says none pile rest is =
    let whole : entries_in_order (Text (front_text front) ∷ []) (pile_left end.pile after.world) (entries_left end.data after.world) ≡ hopper_left old before.world =
    sym (ap (λ f. entries_in_order (front_left f) (pile_left end.pile after.world) (entries_left end.data after.world)) (says.front ∙ holds)) ∙ says.stays.left ∙ stays.left in
    let given = given_card (front_text front) last (pile_left end.pile after.world) (entries_left end.data after.world) says.says in
    record {
      looks = looks_on before between after stays.looks says.stays.looks;
      left = same_joined _ _ _ _ _ _ (ap front_left none) (ap (λ (p : Pile). pile_left p after.world) pile) (ap (λ (lines : Lines). entries_left lines after.world) rest)
          ∙ behind_front (front_text front) (pile_left end.pile after.world) (entries_left end.data after.world) ∙ ap (λ (told : Option (List Entry)). option_map behind told) whole;
      given = subst (λ (t : List ℕ). ToldValue (hopper_left old before.world) (λ es. next_card es ≡ Ok (record { text = t; last = last }))) (sym is)
          (subst (λ (told : Option (List Entry)). ToldValue told (λ es. next_card es ≡ Ok (record { text = text_as_card (front_text front); last = last }))) whole given);
    }

-- two entries at least in the deck are one at least there, and one behind it
pub one_of_two : (told : Option (List Entry)) → TellsAtLeast 2 told → TellsAtLeast 1 told × TellsAtLeast 1 (option_map behind told)
one_of_two None two = absurd two
one_of_two (Some []) two = absurd (omega (arith, two))
one_of_two (Some (e ∷ es)) two = (omega (arith, two), omega (arith, two))

-- Data that stay twice stay
pub stay_on : (before mid after : Seen) → DataStays before mid → DataStays mid after → DataStays before after
stay_on before mid after first second = record { left = second.left ∙ first.left; asked = second.asked ∙ first.asked }
