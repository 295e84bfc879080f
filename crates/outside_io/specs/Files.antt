-- The meaning of files in memory.
use Rattle.std.specs.Prelude.{◌≡◌, ℕ, zero, suc, ◌≤◌, Bool, true, false, List, [], ◌∷◌, length, take, drop, Option, Some, slice_index_or, string_bytes, bytes_eq, if◌then◌else◌}
use Rattle.outside_io.specs.declared.host.Unit as unit
use Rattle.outside_io.specs.declared.in_memory.files.NamedFile.{NamedFile}
use Rattle.outside_io.specs.declared.in_memory.files.Files.{Files}
use Rattle.outside_io.specs.declared.host.Unit.TheVariants.{Pack}
use Rattle.outside_io.specs.World.{World, Limits, Asked, one_reading, asked_after, place, same_unit, is_input, is_pack, sectors_of, empty_pack}
use Rattle.outside_io.specs.Names.{name_of, KeepsName}

-- the name that is kept for the unit, if any
abbrev pub name_of_unit : Files → unit.Unit → Option (List ℕ)
name_of_unit files u = name_of files.names u

-- the bytes of the file at a place of the list, none past its end
abbrev pub bytes_at : List NamedFile → ℕ → List ℕ
bytes_at [] i = []
bytes_at (f ∷ fs) zero = f.bytes.items
bytes_at (f ∷ fs) (suc i) = bytes_at fs i

-- the bytes of the first file of this name, or none
abbrev pub bytes_named : List NamedFile → List ℕ → List ℕ
bytes_named [] name = []
bytes_named (f ∷ fs) name = if bytes_eq (string_bytes f.name) name then f.bytes.items else bytes_named fs name

-- the bytes of the file of this name
abbrev pub file_bytes : Files → List ℕ → List ℕ
file_bytes files name = bytes_named files.named.items name

-- whether the unit is in use
abbrev pub flag_of : Files → unit.Unit → Bool
flag_of files u = slice_index_or files.bound (place u) false

-- the same flags, and this unit in use
abbrev pub with_in_use : unit.Unit → (unit.Unit → Bool) → unit.Unit → Bool
with_in_use u flags v = if same_unit u v then true else flags v

-- the bytes of the file that was opened for the unit
abbrev pub opened_bytes : Files → unit.Unit → List ℕ
opened_bytes files u = bytes_at files.named.items (slice_index_or files.opened (place u) 0)

-- the bytes of its file that the unit has not read
abbrev pub unread_bytes : Files → unit.Unit → List ℕ
unread_bytes files u = drop (slice_index_or files.position (place u) 0) (opened_bytes files u)

-- the unread bytes; none if the unit is not in use
abbrev pub rest_in_use : Files → unit.Unit → List ℕ
rest_in_use files u = if flag_of files u then unread_bytes files u else []

-- the bytes that the unit has left; only an input has any
abbrev pub rest_of : Files → unit.Unit → List ℕ
rest_of files u = if is_input u then rest_in_use files u else []

-- the bytes that the pack has of each sector: its file's, or none
abbrev pub sectors_from : Bool → List ℕ → ℕ → List ℕ
sectors_from true bytes = sectors_of bytes
sectors_from false bytes = empty_pack

-- the bytes that the pack has of each sector, by the unit Pack
abbrev pub pack_of : Files → ℕ → List ℕ
pack_of files = sectors_from (flag_of files Pack) (opened_bytes files Pack)

-- how the unit was read
abbrev pub asked_of : Files → unit.Unit → Asked
asked_of files u = record { last = slice_index_or files.last (place u) 0; ends = slice_index_or files.ends (place u) 0 }

-- how each unit was read, after one of them gave these bytes
abbrev pub with_reading : unit.Unit → List ℕ → (unit.Unit → Asked) → unit.Unit → Asked
with_reading u bytes asked v = if same_unit u v then asked_after (one_reading bytes) (asked v) else asked v

-- the first n bytes of the buffer were the unit's next bytes
pub record Gives (old new : Files) (u : unit.Unit) (buf : List ℕ) (n : ℕ) : Type 0 where
  pub fits : n ≤ length buf
  pub copied : take n buf ≡ take n (rest_of old u)
  pub within : n ≤ length (rest_of old u)
  pub none : n ≡ 0 → rest_of old u ≡ []
  pub left : (v : unit.Unit) → rest_of new v ≡ (if same_unit u v then drop n (rest_of old v) else rest_of old v)
  pub flags : flag_of new ≡ flag_of old
  pub names : name_of_unit new ≡ name_of_unit old
  pub bytes : file_bytes new ≡ file_bytes old
  pub pack : pack_of new ≡ pack_of old
  pub asked : (v : unit.Unit) → asked_of new v ≡ with_reading u (take n buf) (asked_of old) v

-- the bytes that a unit has left after a file of these bytes is opened for it: all of them for an input
abbrev pub rest_once_opened : unit.Unit → List ℕ → List ℕ → List ℕ
rest_once_opened u bytes rest = if is_input u then bytes else rest

-- the bytes that each unit has left after this file is opened for one of them
abbrev pub with_rest : unit.Unit → List ℕ → (unit.Unit → List ℕ) → unit.Unit → List ℕ
with_rest u bytes rests v = if same_unit u v then rest_once_opened u bytes (rests v) else rests v

-- the unit keeps the name of a file, and reads that file from its start
pub record Opens (old new : Files) (u : unit.Unit) (name : List ℕ) : Type 0 where
  pub flags : (v : unit.Unit) → flag_of new v ≡ with_in_use u (flag_of old) v
  pub names : KeepsName old.names new.names u name
  pub left : (v : unit.Unit) → rest_of new v ≡ with_rest u (file_bytes old name) (rest_of old) v
  pub bytes : file_bytes new ≡ file_bytes old
  pub pack : pack_of new ≡ (if is_pack u then sectors_of (file_bytes old name) else pack_of old)
  pub asked : asked_of new ≡ asked_of old

-- no unit is in use
abbrev pub IsIdle : Files → Type 0
IsIdle files = (u : unit.Unit) → flag_of files u ≡ false

-- no unit was read
abbrev pub IsUnasked : Files → Type 0
IsUnasked files = (u : unit.Unit) → asked_of files u ≡ record { last = 0; ends = 0 }

-- the file of this name has these bytes, and nothing else changes
pub record AddsFile (old new : Files) (name bytes : List ℕ) : Type 0 where
  pub added : (other : List ℕ) → file_bytes new other ≡ (if bytes_eq name other then bytes else file_bytes old other)
  pub left : (v : unit.Unit) → rest_of new v ≡ rest_of old v
  pub flags : flag_of new ≡ flag_of old
  pub names : name_of_unit new ≡ name_of_unit old
  pub pack : pack_of new ≡ pack_of old
  pub asked : asked_of new ≡ asked_of old

-- the world with these files, these texts, these sectors and these limits
abbrev pub world_of : Files → (unit.Unit → Option (List ℕ)) → Option (ℕ → List ℕ) → Option Limits → World
world_of files written sectors limits = record {
  in_use = flag_of files;
  names = name_of_unit files;
  file = λ name. Some (file_bytes files name);
  left = λ u. Some (rest_of files u);
  written = written;
  sectors = sectors;
  asked = λ u. Some (asked_of files u);
  limits = limits;
}

-- nothing changed, except perhaps the reserved memory
pub record SameFiles (old new : Files) : Type 0 where
  pub named : new.named.items ≡ old.named.items
  pub bound : new.bound ≡ old.bound
  pub names : new.names ≡ old.names
  pub opened : new.opened ≡ old.opened
  pub position : new.position ≡ old.position
  pub last : new.last ≡ old.last
  pub ends : new.ends ≡ old.ends
