-- The front of a hopper: a card, or the text of a line. And how the next entry moves to the front.
use Rattle.std.specs.Prelude.{ℕ, ◌≡◌, List, Option, Some, option_map}
use Rattle.outside_io.specs.World.{Seen, Rose}
use Rattle.card_code.specs.{Entry, Text, Long, behind, text_of_line, HasNone}
use Rattle.card_code.specs.Reader.{Fronts}
use Rattle.card_unit.specs.declared.front.Front.{Front}
use Rattle.card_unit.specs.declared.front.Front.TheVariants as front
use Rattle.card_unit.specs.declared.front.Held.{Held}
use Rattle.card_unit.specs.declared.front.Held.TheVariants as held

-- the text of the front
abbrev pub front_text : Front → List ℕ
front_text (front.Card card) = card.0
front_text (front.Line line) = text_of_line line

-- the next of some entries, if the host reveals them, moves to the front, or all stays
abbrev pub HoldsNext : Option Front → Option Front → Option (List Entry) → Option (List Entry) → Seen → Seen → Held → Type 0
HoldsNext front new_front old new before after held.AtFront =
    (f : Front) × (new_front ≡ Some f) × (new ≡ option_map behind old) × Fronts (Text (front_text f)) old
HoldsNext front new_front old new before after held.Empty = (new_front ≡ front) × (new ≡ old) × HasNone old
HoldsNext front new_front old new before after (held.Jam u number) = (new_front ≡ front) × (new ≡ old) × Fronts (Long u number) old
HoldsNext front new_front old new before after held.Failed = (new_front ≡ front) × (new ≡ old) × Rose before.faults after.faults
