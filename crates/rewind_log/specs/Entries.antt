-- How kept places are held: the core of the newest place, and for each place the words in which the place before it differed.
use Rattle.std.specs.Prelude.{ℕ, ⊤, ◌≡◌, ◌+◌, ◌-◌, ◌*◌, ◌≤◌, ◌==◌, List, [], ◌∷◌, ◌++◌, length, take, if◌then◌else◌}
use Rattle.std.specs.List.{All}
use Rattle.digit_core.specs.{IsSize, core_mixture}
use Rattle.circular_buffer.specs.Buffer.{Buffer}
use Rattle.rewind_log.specs.declared.LogEntry.{LogEntry}
use Rattle.rewind_log.specs.Kept.{Kept, most_places}

-- the place of an entry, with this core
abbrev pub place_of_entry : (m : ℕ) → List ℕ → LogEntry m → Kept
place_of_entry m core e = record { core = core; regs = e.regs; panel = e.panel; arms = e.arms; mode = e.mode; steps = e.steps }

-- the core of the place before the place of an entry
abbrev pub core_before : (m : ℕ) → List ℕ → LogEntry m → List ℕ
core_before m core e = core_mixture core e.old (10 * e.from) (10 * e.to)

-- the places of some entries, the oldest place first; the newest entry comes first and has this core
unfoldable pub places_of_entries : (m : ℕ) → List ℕ → List (LogEntry m) → List Kept
places_of_entries m core [] = []
places_of_entries m core (e ∷ es) = places_of_entries m (core_before m core e) es ++ place_of_entry m core e ∷ []

-- the entries without the oldest, if there is no room for one more
abbrev pub oldest_dropped : (m : ℕ) → List (LogEntry m) → List (LogEntry m)
oldest_dropped m es = if length es == most_places then take (length es - 1) es else es

-- the words of an entry lie in core
pub record IsEntryWithin (m : ℕ) (e : LogEntry m) : Type 0 where
  pub order : e.from ≤ e.to
  pub room : e.to ≤ m * 2000

-- what always holds of the fields: each of the `most_places` places has its entry, or spare room for its core
pub record IsHeld (m : ℕ) (latest : List ℕ) (entries : Buffer (LogEntry m)) (spare : List ⊤) : Type 0 where
  pub is_size : IsSize m
  pub capacity : entries.capacity ≡ most_places
  pub all : length entries.items + length spare ≡ most_places
  pub within : All (IsEntryWithin m) entries.items
