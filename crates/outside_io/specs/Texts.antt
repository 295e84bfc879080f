-- The meaning of texts in memory.
use Rattle.std.specs.Prelude.{◌≡◌, ℕ, zero, suc, ◌-◌, ◌≤◌, Bool, List, [], ◌∷◌, ◌++◌, length, take, if◌then◌else◌, ◌==◌}
use Rattle.outside_io.specs.declared.host.Unit as unit
use Rattle.outside_io.specs.declared.in_memory.texts.OutputText.{OutputText}
use Rattle.outside_io.specs.declared.in_memory.texts.OutputTexts.{OutputTexts}
use Rattle.outside_io.specs.World.{place, same_unit}
use Rattle.outside_io.specs.Rooms.{unit_room}

-- the text at a place of the list, none past its end
abbrev pub output_at : List OutputText → ℕ → List ℕ
output_at [] i = []
output_at (o ∷ os) zero = o.text.items
output_at (o ∷ os) (suc i) = output_at os i

-- a measure of the text at a place of the list, 0 past its end
abbrev pub measure_at : (OutputText → ℕ) → List OutputText → ℕ → ℕ
measure_at measure [] i = 0
measure_at measure (o ∷ os) zero = measure o
measure_at measure (o ∷ os) (suc i) = measure_at measure os i

-- the room of a text, and how much of it is left
abbrev pub whole_room : OutputText → ℕ
whole_room o = o.room

abbrev pub spare_room : OutputText → ℕ
spare_room o = o.spare

-- the text of a unit
abbrev pub unit_text : OutputTexts → unit.Unit → List ℕ
unit_text texts u = output_at texts.outputs.items (place u)

-- the room of a unit
abbrev pub room_of : OutputTexts → unit.Unit → ℕ
room_of texts u = measure_at whole_room texts.outputs.items (place u)

-- how many more bytes go into the unit's text
abbrev pub spare_of : OutputTexts → unit.Unit → ℕ
spare_of texts u = measure_at spare_room texts.outputs.items (place u)

-- no more bytes go into the unit's text
abbrev pub is_full : OutputTexts → unit.Unit → Bool
is_full texts u = spare_of texts u == 0

-- no byte is written, and each output has room for `size` bytes, all of it left
pub record AreEmpty (size : ℕ) (texts : OutputTexts) : Type 0 where
  pub text : (u : unit.Unit) → unit_text texts u ≡ []
  pub room : (u : unit.Unit) → room_of texts u ≡ unit_room size u
  pub spare : (u : unit.Unit) → spare_of texts u ≡ unit_room size u

-- one text is emptied, and the room that its bytes took does not come back
pub record Clears (old new : OutputTexts) (u : unit.Unit) : Type 0 where
  pub text : (v : unit.Unit) → unit_text new v ≡ (if same_unit u v then [] else unit_text old v)
  pub room : (v : unit.Unit) → room_of new v ≡ room_of old v
  pub spare : (v : unit.Unit) → spare_of new v ≡ spare_of old v

-- the first n bytes of the piece go to one text; none go if it is full
pub record Grows (old new : OutputTexts) (u : unit.Unit) (piece : List ℕ) (n : ℕ) : Type 0 where
  pub fits : n ≤ length piece
  pub full : (n == 0) ≡ is_full old u
  pub text : (v : unit.Unit) → unit_text new v ≡ (if same_unit u v then unit_text old v ++ take n piece else unit_text old v)
  pub room : (v : unit.Unit) → room_of new v ≡ room_of old v
  pub spare : (v : unit.Unit) → spare_of new v ≡ (if same_unit u v then spare_of old v - n else spare_of old v)
