-- The events outside the program, one after another.
use Rattle.std.specs.Prelude.{ℕ, suc, ◌+◌, ◌≡◌, List, [], ◌∷◌, ◌++◌, map, if◌then◌else◌}
use Rattle.outside_io.specs.declared.host.Unit as unit
use Rattle.outside_io.specs.World.{World, same_unit, world_after_binding, world_after_put, with_sector_written}

-- a file is bound to a unit, a byte is written on an output, or a sector on the pack; or a card is taken from a reader's hopper, or a line of
-- Keys
pub data Event : Type 0 where
  BindFile : (u : unit.Unit) (name : List ℕ) → Event
  WriteByte : (u : unit.Unit) (byte : ℕ) → Event
  WriteSector : (a : ℕ) (bytes : List ℕ) → Event
  TakeCard : Event
  TakeLine : Event

-- the world after an event, and after all events. What the inputs have left and how they were read is not followed: only these
-- change if a card or a line is taken
abbrev pub after_event : World → Event → World
after_event w (BindFile u name) = world_after_binding u name w
after_event w (WriteByte u byte) = world_after_put u (byte ∷ []) w
after_event w (WriteSector a bytes) = with_sector_written a bytes w
after_event w TakeCard = w
after_event w TakeLine = w

abbrev pub after_events : World → List Event → World
after_events w [] = w
after_events w (d ∷ ds) = after_events (after_event w d) ds

-- how many cards are taken
abbrev pub cards_in : List Event → ℕ
cards_in [] = 0
cards_in (TakeCard ∷ ds) = suc (cards_in ds)
cards_in (d ∷ ds) = cards_in ds

-- how many lines of Keys are taken
abbrev pub lines_in : List Event → ℕ
lines_in [] = 0
lines_in (TakeLine ∷ ds) = suc (lines_in ds)
lines_in (d ∷ ds) = lines_in ds

-- how many bytes are written on a unit
abbrev pub bytes_written : unit.Unit → List Event → ℕ
bytes_written u [] = 0
bytes_written u (WriteByte v byte ∷ ds) = (if same_unit v u then 1 else 0) + bytes_written u ds
bytes_written u (d ∷ ds) = bytes_written u ds

-- a text is written, byte by byte
abbrev pub text_events : unit.Unit → List ℕ → List Event
text_events u text = map (WriteByte u) text

-- a first part of the events
abbrev pub IsFirstPart : List Event → List Event → Type 0
IsFirstPart ds all = (rest : List Event) × (ds ++ rest ≡ all)

-- the same files, and the same units in use, bound to the same names, with the same texts, sectors and limits; the bytes that
-- inputs have left may differ, and how they were read
pub record SameOutside (w v : World) : Type 0 where
  pub file : w.file ≡ v.file
  pub in_use : w.in_use ≡ v.in_use
  pub names : w.names ≡ v.names
  pub written : w.written ≡ v.written
  pub sectors : w.sectors ≡ v.sectors
  pub limits : w.limits ≡ v.limits

-- all of these events, and no others, happened between two worlds
abbrev pub DidAll : List Event → World → World → Type 0
DidAll ds old new = SameOutside new (after_events old ds)

-- a first part of these events, and no others, happened between two worlds
pub record DidPart (all : List Event) (old new : World) : Type 0 where
  pub done : List Event
  pub part : IsFirstPart done all
  pub did : DidAll done old new
