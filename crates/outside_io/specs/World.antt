-- The world that a host reveals, and the effects of its calls.
use Rattle.std.specs.Prelude.{◌≡◌, ℕ, ◌+◌, ◌-◌, ◌*◌, ◌≤◌, min, Bool, true, false, not, List, [], ◌∷◌, ◌++◌, length, take, drop, replicate, codes, Option, Some, None, option_map, option_and_then, unwrap_or, slice_index_or, IfSome, if◌then◌else◌, ◌==◌, nat_le, bytes_eq}
use Rattle.std.specs.Option.{option_or}
use Rattle.outside_io.specs.declared.host.Unit as unit
use Rattle.outside_io.specs.declared.host.Unit.TheVariants.{Source, Object, Image, Deck, Data, Keys, Script, Commands, Pack, Punched, Typed, Listing, Made, Report}
use Rattle.outside_io.specs.declared.host.Bound.{Bound}
use Rattle.outside_io.specs.declared.host.Bound.TheVariants as bound
use Rattle.outside_io.specs.declared.host.Take.{Take}
use Rattle.outside_io.specs.declared.host.Take.TheVariants as took
use Rattle.outside_io.specs.declared.host.Put.{Put}
use Rattle.outside_io.specs.declared.host.Put.TheVariants as put
use Rattle.outside_io.specs.declared.host.Drive.{Drive}
use Rattle.outside_io.specs.declared.host.Drive.TheVariants as drive
use Rattle.outside_io.specs.declared.host.TheConstants.{SECTOR_LENGTH, LONGEST_NAME}

-- the units in their order
abbrev pub all_units : List unit.Unit
all_units =
    Source ∷ Object ∷ Image ∷ Deck ∷ Data ∷ Keys ∷ Script ∷ Commands ∷ Pack ∷ Punched ∷ Typed ∷ Listing ∷ Made ∷
    Report ∷ []

-- the unit's place in that order
abbrev pub place : unit.Unit → ℕ
place Source = 0
place Object = 1
place Image = 2
place Deck = 3
place Data = 4
place Keys = 5
place Script = 6
place Commands = 7
place Pack = 8
place Punched = 9
place Typed = 10
place Listing = 11
place Made = 12
place Report = 13

-- no unit is marked, in a list of marks by the units' places
abbrev pub IsUnmarked : List Bool → Type 0
IsUnmarked marks = (u : unit.Unit) → slice_index_or marks (place u) false ≡ false

-- the unit's word, its name in small letters
abbrev pub unit_word : unit.Unit → List ℕ
unit_word Source = codes "source"
unit_word Object = codes "object"
unit_word Image = codes "image"
unit_word Deck = codes "deck"
unit_word Data = codes "data"
unit_word Keys = codes "keys"
unit_word Script = codes "script"
unit_word Commands = codes "commands"
unit_word Pack = codes "pack"
unit_word Punched = codes "punched"
unit_word Typed = codes "typed"
unit_word Listing = codes "listing"
unit_word Made = codes "made"
unit_word Report = codes "report"

-- the same unit
abbrev pub same_unit : unit.Unit → unit.Unit → Bool
same_unit a b = place a == place b

-- the greatest count of faults
abbrev pub most_faults : ℕ
most_faults = 18446744073709551615

-- the next number, at most `most_faults`
abbrev pub one_more : ℕ → ℕ
one_more n = min (n + 1) most_faults

-- the count rose in between, or is at its greatest
abbrev pub Rose : ℕ → ℕ → Type 0
Rose before now = one_more before ≤ now

-- a name as a host keeps it; None if it has over 255 bytes
abbrev pub kept_name : List ℕ → Option (List ℕ)
kept_name name = if nat_le (length name) LONGEST_NAME then Some name else None

-- how an input was read: how many bytes the last reading that did not fail gave, 0 if it found no more; and how many
-- readings found no more, at most `most_faults`
pub record Asked : Type 0 where
  pub last : ℕ
  pub ends : ℕ

-- readings of an input, one after another: the bytes that they gave; how many the last reading gave, None if there was no
-- reading; and how many readings found no more
pub record Readings : Type 0 where
  pub bytes : List ℕ
  pub last : Option ℕ
  pub ends : ℕ

-- no readings
abbrev pub no_readings : Readings
no_readings = record { bytes = []; last = None; ends = 0 }

-- one reading that gave these bytes, or found no more if the list is empty
abbrev pub one_reading : List ℕ → Readings
one_reading bytes = record { bytes = bytes; last = Some (length bytes); ends = if length bytes == 0 then 1 else 0 }

-- some readings, and then others
abbrev pub both_readings : Readings → Readings → Readings
both_readings a b = record { bytes = a.bytes ++ b.bytes; last = option_or b.last a.last; ends = a.ends + b.ends }

-- how an input was read, after these further readings
abbrev pub asked_after : Readings → Asked → Asked
asked_after r a = record { last = unwrap_or r.last a.last; ends = a.ends + min r.ends (most_faults - a.ends) }

-- the limits of a host: the numbers of the calls that are to fail, and how many more bytes each output takes
pub record Limits : Type 0 where
  pub failing : List ℕ
  pub room : unit.Unit → ℕ

-- the files and units as a host reveals them, with None for each part that it does not reveal
pub record World : Type 0 where
  pub in_use : unit.Unit → Bool
  -- the name that each unit was bound to, None if it isn't bound or the name isn't kept; every host reveals the names
  pub names : unit.Unit → Option (List ℕ)
  pub file : List ℕ → Option (List ℕ)
  pub left : unit.Unit → Option (List ℕ)
  pub written : unit.Unit → Option (List ℕ)
  -- the bytes that the pack has of each sector, at most 100: the bytes last written to it, or the file's
  pub sectors : Option (ℕ → List ℕ)
  -- how each input was read
  pub asked : unit.Unit → Option Asked
  -- when its calls fail
  pub limits : Option Limits

-- the count of faults, and the revealed world
pub record Seen : Type 0 where
  pub faults : ℕ
  pub world : World

-- the units that are read
abbrev pub is_input : unit.Unit → Bool
is_input Source = true
is_input Deck = true
is_input Data = true
is_input Keys = true
is_input Script = true
is_input Commands = true
is_input u = false

-- the units that are written
abbrev pub is_output : unit.Unit → Bool
is_output Pack = false
is_output u = not (is_input u)

-- the value of one unit is changed, and all others stay
abbrev pub at : {A : Type 0} → unit.Unit → (A → A) → (unit.Unit → A) → unit.Unit → A
at u change told = λ v. if same_unit u v then change (told v) else told v

-- the disk pack
abbrev pub is_pack : unit.Unit → Bool
is_pack Pack = true
is_pack u = false

-- the character 0
abbrev pub zero_character : ℕ
zero_character = 48

-- a text with zeros for its missing bytes
abbrev pub with_zeros : ℕ → List ℕ → List ℕ
with_zeros n text = text ++ replicate (n - length text) zero_character

-- the bytes that a file has of each sector: 100, or fewer if the file ends before
abbrev pub sectors_of : List ℕ → ℕ → List ℕ
sectors_of bytes a = take SECTOR_LENGTH (drop (SECTOR_LENGTH * a) bytes)

-- the text of a sector, as it reads: missing bytes are the character 0
abbrev pub pack_sector_text : (ℕ → List ℕ) → ℕ → List ℕ
pack_sector_text sectors a = with_zeros SECTOR_LENGTH (sectors a)

-- a pack on which nothing was ever written has no bytes
abbrev pub empty_pack : ℕ → List ℕ
empty_pack a = []

-- the sectors of an empty pack read as zeros
abbrev pub blank_pack : ℕ → List ℕ
blank_pack a = pack_sector_text empty_pack a

-- the sectors after the pack's file is bound; a host that reveals no sectors still reveals none
abbrev pub sectors_after_binding : Option (List ℕ) → Option (ℕ → List ℕ) → Option (ℕ → List ℕ)
sectors_after_binding file sectors = option_and_then (λ old. option_map sectors_of file) sectors

-- a file is bound: its name is kept, an input's bytes or the pack's sectors are the file's, an output's text is empty; the
-- room that the text took does not come back
abbrev pub world_after_binding : unit.Unit → List ℕ → World → World
world_after_binding u name w = record {
  in_use = λ v. if same_unit u v then true else w.in_use v;
  names = λ v. if same_unit u v then kept_name name else w.names v;
  file = w.file;
  left = if is_input u then at u (λ _. w.file name) w.left else w.left;
  written = if is_output u then at u (option_map (λ _. [])) w.written else w.written;
  sectors = if is_pack u then sectors_after_binding (w.file name) w.sectors else w.sectors;
  asked = w.asked;
  limits = w.limits;
}

-- the bytes that these readings gave are gone from the unit, and the readings are counted
abbrev pub world_after_take : unit.Unit → Readings → World → World
world_after_take u r w = record w {
  left = at u (option_map (drop (length r.bytes))) w.left;
  asked = at u (option_map (asked_after r)) w.asked;
}

-- the room that bytes leave of an output's room; the room stays if the host does not reveal the output's text
abbrev pub room_after : List ℕ → Option (List ℕ) → ℕ → ℕ
room_after bytes None room = room
room_after bytes (Some text) room = room - length bytes

-- the bytes take room of the unit
abbrev pub limits_after_put : unit.Unit → List ℕ → (unit.Unit → Option (List ℕ)) → Limits → Limits
limits_after_put u bytes written l = record l { room = λ v. if same_unit u v then room_after bytes (written v) (l.room v) else l.room v }

-- these bytes are added to the unit
abbrev pub world_after_put : unit.Unit → List ℕ → World → World
world_after_put u bytes w = record w {
  written = at u (option_map (λ text. text ++ bytes)) w.written;
  limits = option_map (limits_after_put u bytes w.written) w.limits;
}

-- the unit's bytes begin with these
abbrev pub BeginsWith : List ℕ → Option (List ℕ) → Type 0
BeginsWith bytes text = IfSome text (λ all. all ≡ bytes ++ drop (length bytes) all)

-- the call changed the world to `to`, and the count of faults did not fall
pub record Goes (old new : Seen) (to : World) : Type 0 where
  pub later : old.faults ≤ new.faults
  pub world : new.world ≡ to

-- the call failed: the count of faults rose, and nothing else changed
pub record Fails (old new : Seen) : Type 0 where
  pub rose : Rose old.faults new.faults
  pub later : old.faults ≤ new.faults
  pub world : new.world ≡ old.world

-- the effect of a binding
abbrev pub Binds : Seen → Seen → unit.Unit → List ℕ → Bound → Type 0
Binds old new u name bound.Yes = Goes old new (world_after_binding u name old.world)
Binds old new u name bound.Failed = Fails old new

-- the first n bytes of `buf` were the unit's next bytes
pub record Gets (old new : Seen) (u : unit.Unit) (buf : List ℕ) (n : ℕ) : Type 0 where
  pub some : 1 ≤ n
  pub fits : n ≤ length buf
  pub bytes : BeginsWith (take n buf) (old.world.left u)
  pub goes : Goes old new (world_after_take u (one_reading (take n buf)) old.world)

-- the unit has no more bytes
pub record Ends (old new : Seen) (u : unit.Unit) : Type 0 where
  pub empty : IfSome (old.world.left u) (λ all. all ≡ [])
  pub goes : Goes old new (world_after_take u (one_reading []) old.world)

-- the effect of a reading, which leaves `buf` in the buffer
abbrev pub Takes : Seen → Seen → unit.Unit → List ℕ → Take → Type 0
Takes old new u buf (took.Got n) = Gets old new u buf n
Takes old new u buf took.End = Ends old new u
Takes old new u buf took.Failed = Fails old new

-- the first n bytes of the piece are written
pub record Adds (old new : Seen) (u : unit.Unit) (piece : List ℕ) (n : ℕ) : Type 0 where
  pub some : 1 ≤ n
  pub fits : n ≤ length piece
  pub goes : Goes old new (world_after_put u (take n piece) old.world)

-- the effect of a writing
abbrev pub Puts : Seen → Seen → unit.Unit → List ℕ → Put → Type 0
Puts old new u piece (put.Taken n) = Adds old new u piece n
Puts old new u piece put.Failed = Fails old new

-- one sector has these bytes, and all others stay
abbrev pub with_sector : ℕ → List ℕ → (ℕ → List ℕ) → ℕ → List ℕ
with_sector a bytes sectors b = if a == b then bytes else sectors b

-- a sector is written; zeros that fill up a shorter file before it are not revealed
abbrev pub with_sector_written : ℕ → List ℕ → World → World
with_sector_written a bytes w = record w { sectors = option_map (with_sector a bytes) w.sectors }

-- the bytes are the sector's text, and the world stays
pub record GetsSector (old new : Seen) (a : ℕ) (bytes : List ℕ) : Type 0 where
  pub bytes_are : IfSome old.world.sectors (λ sectors. bytes ≡ pack_sector_text sectors a)
  pub goes : Goes old new old.world

-- the effect of reading a sector, which leaves `bytes` in the buffer
abbrev pub ReadsSector : Seen → Seen → ℕ → List ℕ → Drive → Type 0
ReadsSector old new a bytes drive.Done = GetsSector old new a bytes
ReadsSector old new a bytes drive.Failed = Fails old new

-- the effect of writing a sector
abbrev pub WritesSector : Seen → Seen → ℕ → List ℕ → Drive → Type 0
WritesSector old new a bytes drive.Done = Goes old new (with_sector_written a bytes old.world)
WritesSector old new a bytes drive.Failed = Fails old new

-- a file of this name is added, or replaces the file that had the name
abbrev pub with_file : List ℕ → List ℕ → World → World
with_file name bytes w = record w { file = λ other. if bytes_eq name other then Some bytes else w.file other }

-- the world that a host reveals has gained a file of this name with these bytes, and nothing else changed
abbrev pub GainsFile : {H : Type 0} → (H → World) → H → H → List ℕ → List ℕ → Type 0
GainsFile world old new name bytes = world new ≡ with_file name bytes (world old)

-- the text of a sector, if the sectors are revealed
abbrev pub sector_in : World → ℕ → Option (List ℕ)
sector_in w a = option_map (λ sectors. pack_sector_text sectors a) w.sectors

-- no unit has a name
abbrev pub IsUnnamed : World → Type 0
IsUnnamed w = (u : unit.Unit) → w.names u ≡ None

-- no unit is in use
abbrev pub IsFree : World → Type 0
IsFree w = (u : unit.Unit) → w.in_use u ≡ false

-- no revealed text has a byte
abbrev pub HasNoText : World → Type 0
HasNoText w = (u : unit.Unit) → IfSome (w.written u) (λ text. text ≡ [])

-- as the program wants its host: no unit in use, no byte written
pub record IsFresh (w : World) : Type 0 where
  pub free : IsFree w
  pub empty : HasNoText w

-- the world without files and limits; its texts and its pack are empty if they are revealed, and no input was read
abbrev pub no_files : Bool → World
no_files tells = record {
  in_use = λ u. false;
  names = λ u. None;
  file = λ name. Some [];
  left = λ u. Some [];
  written = λ u. if tells then Some [] else None;
  sectors = if tells then Some empty_pack else None;
  asked = λ u. Some (record { last = 0; ends = 0 });
  limits = None;
}

-- the answers that are a failure
abbrev pub bind_failed : Bound → Bool
bind_failed bound.Yes = false
bind_failed bound.Failed = true

abbrev pub take_failed : Take → Bool
take_failed (took.Got n) = false
take_failed took.End = false
take_failed took.Failed = true

abbrev pub put_failed : Put → Bool
put_failed (put.Taken n) = false
put_failed put.Failed = true

abbrev pub drive_failed : Drive → Bool
drive_failed drive.Done = false
drive_failed drive.Failed = true
