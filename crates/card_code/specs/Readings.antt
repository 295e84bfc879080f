-- The cards and keyboard lines that were read, and their bad characters.
-- Source: 1622 manual, numerical reading and alphameric reading, for which characters are bad; that they are tallied is this project's own.
use Rattle.std.specs.Prelude.{ℕ, ◌≡◌, ◌+◌, min, ⊤, Bool, is_none, List, [], ◌∷◌, length, take, Option, Some, None, unwrap_or, if◌then◌else◌}
use Rattle.std.specs.List.{flat_map}
use Rattle.outside_io.specs.declared.host.Unit as unit
use Rattle.outside_io.specs.World.{one_more, most_faults, same_unit}
use Rattle.card_code.specs.Characters.{num_of}
use Rattle.card_code.specs.Pairs.{alpha_of}
use Rattle.card_code.specs.Entries.{Entry, Text}
use Rattle.card_code.specs.declared.tally.ReadAs.{ReadAs}
use Rattle.card_code.specs.declared.tally.ReadAs.TheVariants.{Digit, Pair}
use Rattle.card_code.specs.declared.tally.BadCharacter.{BadCharacter}
use Rattle.card_code.specs.declared.tally.Tally.{Tally}

-- a character that has no digit, or no pair, as it is read
abbrev pub is_bad : ReadAs → ℕ → Bool
is_bad Digit c = is_none (num_of c)
is_bad Pair c = is_none (alpha_of c)

-- the bad ones of some characters of a unit's line, as `how` reads them; the first character is in this column
unfoldable pub bad_from : unit.Unit → ℕ → ReadAs → ℕ → List ℕ → List BadCharacter
bad_from u line how column [] = []
bad_from u line how column (c ∷ cs) =
    if is_bad how c then (record { unit = u; line = line; column = column; byte = c }) ∷ bad_from u line how (column + 1) cs
    else bad_from u line how (column + 1) cs

-- the first of some bad characters
abbrev pub first_of : List BadCharacter → Option BadCharacter
first_of [] = None
first_of (bad ∷ more) = Some bad

-- a count of n, or the highest count if n is over it
abbrev pub counted : ℕ → ℕ
counted n = min n most_faults

-- A TALLY of some bad characters, in the order in which they were read: the first, and how many they are
abbrev pub tally_of : List BadCharacter → Tally
tally_of bad = record { first = first_of bad; count = counted (length bad) }

abbrev pub no_bad : Tally
no_bad = tally_of []

-- a tally with one bad character more, and with some more, one after another
abbrev pub with_one : BadCharacter → Tally → Tally
with_one bad t = record { first = Some (unwrap_or t.first bad); count = one_more t.count }

unfoldable pub with_bad : List BadCharacter → Tally → Tally
with_bad [] t = t
with_bad (bad ∷ more) t = with_bad more (with_one bad t)

-- A CARD OR A LINE THAT WAS READ: its unit, its number there counted from 1, its text, how it was read, and for how many of its characters
-- there was room in core
pub record Reading : Type 0 where
  pub unit : unit.Unit
  pub line : ℕ
  pub text : List ℕ
  pub how : ReadAs
  pub room : ℕ

-- the characters of a reading that were stored, and the bad ones among them
abbrev pub stored_of : Reading → List ℕ
stored_of r = take r.room r.text

abbrev pub bad_in : Reading → List BadCharacter
bad_in r = bad_from r.unit r.line r.how 1 (stored_of r)

-- the bad characters of some readings, in their order
abbrev pub all_bad : List Reading → List BadCharacter
all_bad readings = flat_map bad_in readings

-- the entry that was read
abbrev pub entry_read : Reading → Entry
entry_read r = Text r.text

-- how many lines of each unit were read: none; one more of a unit; and one more for each of some readings
abbrev pub no_lines : unit.Unit → ℕ
no_lines u = 0

abbrev pub with_line : unit.Unit → (unit.Unit → ℕ) → unit.Unit → ℕ
with_line v gone u = if same_unit v u then one_more (gone u) else gone u

unfoldable pub lines_after : List Reading → (unit.Unit → ℕ) → unit.Unit → ℕ
lines_after [] gone = gone
lines_after (r ∷ more) gone = lines_after more (with_line r.unit gone)

-- readings are numbered as the lines of their units
unfoldable pub AreNumbered : List Reading → (unit.Unit → ℕ) → Type 0
AreNumbered [] gone = ⊤
AreNumbered (r ∷ more) gone = (r.line ≡ one_more (gone r.unit)) × AreNumbered more (with_line r.unit gone)
