-- What is typed.
-- Source: CPU manual, write numerically, write alphamerically, dump numerically and typewriter control; the bytes, what
-- a bad pair is typed as, the end of a dump, and the order, are this project's own. Like every call that types, a dump
-- reads no key, so it answers neither NoKeys nor Jam.
use Rattle.std.specs.Prelude.{ℕ, ◌+◌, ◌-◌, Bool, ◌==◌, ◌||◌, List, [], ◌∷◌, drop, if◌then◌else◌, Ok, Err, ⊤, ◌≡◌}
use Rattle.digit_core.specs.Cell.{read_cell}
use Rattle.digit_core.specs.declared.TheConstants.{RECORD_MARK}
use Rattle.indicators.specs.declared.Panel.{Panel}
use Rattle.outside_io.specs.declared.host.Unit.TheVariants as units
use Rattle.outside_io.specs.World.{Seen}
use Rattle.addr_indirect.specs.declared.Stop.{Stop}
use Rattle.addr_indirect.specs.declared.Stop.TheVariants.{Address}
use Rattle.addr_indirect.specs.Reading.{or_stop}
use Rattle.traces.specs.Trace.{Trace, ends, does, ◌>>=◌, does_all}
use Rattle.card_code.specs.{object_char, Output, WritesByte, with_pair, pair_char, WrotePairs, WroteFirstPairs}
pub use Rattle.card_code.specs.Written.{Wrote, WroteFirst}
use Rattle.typewriter.specs.declared.typing.TypeIo.{TypeIo}
use Rattle.typewriter.specs.declared.typing.TypeIo.TheVariants as io

-- the cells from a upwards are typed up to a record mark, which isn't typed
unfoldable pub type_cells : ℕ → List ℕ → Trace ℕ ⊤ Stop
type_cells a [] = ends (Err Address)
type_cells a (c ∷ cs) = do
  d ← or_stop a (read_cell c)
  if d.value == RECORD_MARK then ends (Ok tt) else does (object_char d) (type_cells (a + 1) cs)

-- WN on the typewriter: the digits from P
abbrev pub write_numeric : List ℕ → ℕ → Trace ℕ ⊤ Stop
write_numeric core p = type_cells p (drop p core)

-- the pairs from a upwards are typed up to one whose second digit is a record mark, which isn't typed
unfoldable pub type_pairs : ℕ → List ℕ → Trace Output ⊤ Stop
type_pairs a [] = ends (Err Address)
type_pairs a (z ∷ []) = do
  zone ← or_stop a (read_cell z)
  ends (Err Address)
type_pairs a (z ∷ c ∷ cs) = do
  zone ← or_stop a (read_cell z)
  number ← or_stop (a + 1) (read_cell c)
  if number.value == RECORD_MARK
      then ends (Ok tt)
      else with_pair (pair_char zone number) (λ char. does (WritesByte char) (type_pairs (a + 2) cs))

-- WA on the typewriter: the pairs from P-1 and P
abbrev pub write_alphameric : List ℕ → ℕ → Trace Output ⊤ Stop
write_alphameric core p = type_pairs (p - 1) (drop (p - 1) core)

-- the cells from a upwards are typed to the end of core
unfoldable pub dump_cells : ℕ → List ℕ → Trace ℕ ⊤ Stop
dump_cells a [] = ends (Ok tt)
dump_cells a (c ∷ cs) = do
  d ← or_stop a (read_cell c)
  does (object_char d) (dump_cells (a + 1) cs)

-- DN on the typewriter: the cells from P to the end of core
abbrev pub write_dump : List ℕ → ℕ → Trace ℕ ⊤ Stop
write_dump core p = dump_cells p (drop p core)

-- the typing, and the dump, of the cells from a upwards begin with these characters of ten cells
abbrev pub TypesTen : List ℕ → ℕ → List ℕ → Type 0
TypesTen core a chars = write_numeric core a ≡ does_all chars (write_numeric core (a + 10))

abbrev pub DumpsTen : List ℕ → ℕ → List ℕ → Type 0
DumpsTen core a chars = write_dump core a ≡ does_all chars (write_dump core (a + 10))

-- the digits that control the typewriter
abbrev pub is_control : ℕ → Bool
is_control digit = digit == 1 || digit == 2 || digit == 8

-- 1 types a blank, 2 a LF, 8 a tab
abbrev pub control_char : ℕ → ℕ
control_char digit = if digit == 1 then 32 else if digit == 2 then 10 else 9

-- K on the typewriter
abbrev pub control : ℕ → Trace ℕ ⊤ Stop
control digit = does (control_char digit) (ends (Ok tt))

-- what the typing of these bytes does; it reads no key, so it answers neither NoKeys nor Jam
abbrev pub Types : Trace ℕ ⊤ Stop → Seen → Seen → TypeIo → Type 0
Types t before after io.Done = Wrote units.Typed t before after (Ok tt)
Types t before after (io.Stop s) = Wrote units.Typed t before after (Err s)
Types t before after io.NoKeys = ⊥
Types t before after (io.Jam n) = ⊥
Types t before after io.Failed = WroteFirst units.Typed t before after

-- what the typing of these pairs does, also to the panel; it answers neither NoKeys nor Jam
abbrev pub TypesPairs : Trace Output ⊤ Stop → Panel → Seen → Panel → Seen → TypeIo → Type 0
TypesPairs t panel before new_panel after io.Done = WrotePairs units.Typed t panel before new_panel after (Ok tt)
TypesPairs t panel before new_panel after (io.Stop s) = WrotePairs units.Typed t panel before new_panel after (Err s)
TypesPairs t panel before new_panel after io.NoKeys = ⊥
TypesPairs t panel before new_panel after (io.Jam n) = ⊥
TypesPairs t panel before new_panel after io.Failed = WroteFirstPairs units.Typed t panel before new_panel after
