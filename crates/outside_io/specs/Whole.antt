-- The effects of a whole write and a whole read.
use Rattle.std.specs.Prelude.{◌≡◌, ℕ, ◌+◌, ◌≤◌, ◌<◌, List, ◌++◌, length, Option, Some, IfSome, Result, Ok, Err, Vec}
use Rattle.outside_io.specs.declared.host.Unit as unit
use Rattle.std.specs.declared.alloc.Global.{Global}
use Rattle.outside_io.specs.declared.whole.ReadAll.{ReadAll}
use Rattle.outside_io.specs.declared.whole.ReadAll.TheVariants as read
use Rattle.outside_io.specs.declared.whole.Sent.{Sent}
use Rattle.outside_io.specs.declared.whole.Sent.TheVariants as sent
use Rattle.outside_io.specs.World.{Seen, Rose, Goes, Readings, world_after_put, world_after_take, BeginsWith}

-- a first part of the piece is written, then the host failed
pub record Stops (old new : Seen) (u : unit.Unit) (piece : List ℕ) : Type 0 where
  pub written : List ℕ
  pub rest : List ℕ
  pub parts : written ++ rest ≡ piece
  pub rose : Rose old.faults new.faults
  pub goes : Goes old new (world_after_put u written old.world)

-- the effect of writing a whole piece
abbrev pub Sends : Seen → Seen → unit.Unit → List ℕ → Sent → Type 0
Sends old new u piece sent.Done = Goes old new (world_after_put u piece old.world)
Sends old new u piece sent.Failed = Stops old new u piece

-- readings that gave these bytes, and a last one that found no more
abbrev pub whole_readings : List ℕ → Readings
whole_readings text = record { bytes = text; last = Some 0; ends = 1 }

-- all the unit's bytes are read, and one more reading found no more
pub record ReadsWhole (old new : Seen) (u : unit.Unit) (limit : ℕ) (text : List ℕ) : Type 0 where
  pub fits : length text ≤ limit
  pub whole : IfSome (old.world.left u) (λ all. all ≡ text)
  pub goes : Goes old new (world_after_take u (whole_readings text) old.world)

-- `least` to `most` of the unit's first bytes are gone, and each reading gave some
pub record ReadsPart (old new : Seen) (u : unit.Unit) (least most : ℕ) : Type 0 where
  pub gone : Readings
  pub enough : least ≤ length gone.bytes
  pub fits : length gone.bytes ≤ most
  pub some : gone.ends ≡ 0
  pub begins : BeginsWith gone.bytes (old.world.left u)
  pub goes : Goes old new (world_after_take u gone old.world)

-- the text has more bytes than the limit, if it is revealed
abbrev pub IsOverLimit : ℕ → Option (List ℕ) → Type 0
IsOverLimit limit text = IfSome text (λ all. limit < length all)

-- the effect of reading a whole unit: at most one byte over the limit is taken, and memory can lack only after some were
abbrev pub Reads : Seen → Seen → unit.Unit → ℕ → Result (Vec ℕ Global) ReadAll → Type 0
Reads old new u limit (Ok text) = ReadsWhole old new u limit text.items
Reads old new u limit (Err read.TooLong) = ReadsPart old new u (limit + 1) (limit + 1) × IsOverLimit limit (old.world.left u)
Reads old new u limit (Err read.Failed) = ReadsPart old new u 0 limit × Rose old.faults new.faults
Reads old new u limit (Err read.Memory) = ReadsPart old new u 1 limit
