-- The world that a host in memory reveals, and when it fails.
use Rattle.std.specs.Prelude.{◌≡◌, ℕ, ◌≤◌, Bool, true, List, [], ◌∷◌, ◌++◌, length, Option, Some, IfSome, option_map}
use Rattle.outside_io.specs.declared.host.Unit as unit
use Rattle.outside_io.specs.declared.in_memory.mem.MemHost.{MemHost}
use Rattle.outside_io.specs.World.{World, Limits, Seen, one_more, is_output, no_files}
use Rattle.outside_io.specs.CallCounts.{next_fails, limits_of}
use Rattle.outside_io.specs.Rooms.{unit_room}
use Rattle.outside_io.specs.Files.{world_of, pack_of}
use Rattle.outside_io.specs.Pack.{sectors_over}
use Rattle.outside_io.specs.Texts as texts

-- the bytes written to each unit
abbrev pub written_texts : MemHost → unit.Unit → Option (List ℕ)
written_texts host u = Some (texts.unit_text host.texts u)

-- the pack: its written sectors over its file's
abbrev pub pack_of_host : MemHost → ℕ → List ℕ
pack_of_host host = sectors_over host.sectors (pack_of host.files)

-- a host in memory reveals everything
abbrev pub mem_world : MemHost → World
mem_world host = world_of host.files (written_texts host) (Some (pack_of_host host)) (Some (limits_of host.texts host.calls))

-- the count of faults, and the world
abbrev pub mem_seen : MemHost → Seen
mem_seen host = record { faults = host.calls.faults; world = mem_world host }

-- a new host: no file, no byte written, no call that is to fail, the room of each output, and no fault
abbrev pub first_seen : ℕ → Seen
first_seen size = record { faults = 0; world = record (no_files true) { limits = Some (record { failing = []; room = unit_room size }) } }

-- the call of this number is to fail too, and all else stays
abbrev pub with_failing_call : ℕ → Seen → Seen
with_failing_call call seen = record seen { world = record seen.world { limits = option_map {T = Limits} (λ l. record l { failing = l.failing ++ call ∷ [] }) seen.world.limits } }

-- the numbers of the calls that are to fail
abbrev pub failing_calls : MemHost → List ℕ
failing_calls host = host.calls.failing.items

-- how many calls of the trait were made
abbrev pub calls_made : MemHost → ℕ
calls_made host = host.calls.made

-- how many bytes an output takes
abbrev pub room_of_unit : MemHost → unit.Unit → ℕ
room_of_unit host u = texts.room_of host.texts u

-- each output has been given no more bytes than its room
pub record IsWithinRoom (host : MemHost) : Type 0 where
  pub each : (u : unit.Unit) → IfSome ((mem_world host).written u) (λ text. length text ≤ room_of_unit host u)

-- each output has this room
pub record HasRoom (room : ℕ) (host : MemHost) : Type 0 where
  pub each : (u : unit.Unit) → is_output u ≡ true → room_of_unit host u ≡ room

-- the next call is to fail
abbrev pub is_listed : MemHost → Bool
is_listed host = next_fails host.calls

-- the faults, the failing calls, the count of calls and the room stay
pub record KeepsCalls (old new : MemHost) : Type 0 where
  pub faults : new.calls.faults ≡ old.calls.faults
  pub failing : failing_calls new ≡ failing_calls old
  pub calls : calls_made new ≡ calls_made old
  pub room : (u : unit.Unit) → room_of_unit new u ≡ room_of_unit old u

-- the count of faults stays
abbrev pub KeepsFaults : MemHost → MemHost → Type 0
KeepsFaults old new = (mem_seen new).faults ≡ (mem_seen old).faults

-- no more bytes go into the output
abbrev pub is_unit_full : MemHost → unit.Unit → Bool
is_unit_full host u = texts.is_full host.texts u

-- one more call is counted, and the failing calls and the room stay
pub record Counts (old new : MemHost) : Type 0 where
  pub calls : calls_made new ≡ one_more (calls_made old)
  pub failing : failing_calls new ≡ failing_calls old
  pub room : (u : unit.Unit) → room_of_unit new u ≡ room_of_unit old u
