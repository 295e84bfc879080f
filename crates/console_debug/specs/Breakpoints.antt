-- The breakpoints that are set, and the room for them.
use Rattle.std.specs.Prelude.{ℕ, suc, ◌≡◌, ◌≤◌, ◌<◌, Bool, ◌==◌, nat_le, List, [], ◌∷◌, length, slice_index_or, count_by, vec_capacity, if◌then◌else◌}
use Rattle.sps_pass_one.specs.Layout.{most_statements}
use Rattle.sps_pass_two.specs.Assembled.{PlacedText}
use Rattle.console_debug.specs.declared.breaks.Breaks.{Breaks}
use Rattle.console_debug.specs.Lines.{statement_number}
use Rattle.console_debug.specs.Places.{statement_address, is_at}

-- the number of the first log entry that can count for a statement
abbrev pub since_of : List ℕ → ℕ → ℕ
since_of since s = slice_index_or since s 0

-- the log entry with this number, of this statement, counts
abbrev pub is_set : (ℕ → ℕ) → ℕ → ℕ → Bool
is_set since number s = nat_le (since s) number

-- the entries that count, from a list whose first entry has this number
unfoldable pub set_from : (ℕ → ℕ) → ℕ → List ℕ → List ℕ
set_from since number [] = []
set_from since number (s ∷ ss) =
    if is_set since number s then s ∷ set_from since (suc number) ss else set_from since (suc number) ss

-- THE BREAKPOINTS THAT ARE SET while a session goes on: the statements of the entries that count
abbrev pub set_now : Breaks → List ℕ
set_now breaks = set_from (since_of breaks.since.items) 0 breaks.log.items

-- how many of some breakpoints belong to a statement, and how many to a statement at an address
abbrev pub times_set : ℕ → List ℕ → ℕ
times_set s breaks = count_by (λ b. b == s) breaks

abbrev pub count_at : List PlacedText → ℕ → List ℕ → ℕ
count_at placed address breaks = count_by (λ b. is_at address (statement_address placed b)) breaks

-- by address, the number of the last instruction there, or 0 without an instruction
abbrev pub AreNumbersByAddress : List PlacedText → List ℕ → Type 0
AreNumbersByAddress placed numbers = (a : ℕ) → a < length numbers → slice_index_or numbers a 0 ≡ statement_number placed a

-- the tables match the breakpoints that are set, over these statements
pub record HasTables (placed : List PlacedText) (breaks : Breaks) : Type 0 where
  pub since_reach : length placed < length breaks.since.items
  pub times_reach : length placed < length breaks.times.items
  pub logged : (s : ℕ) → since_of breaks.since.items s ≤ length breaks.log.items
  pub times : (s : ℕ) → s < length breaks.times.items → slice_index_or breaks.times.items s 0 ≡ times_set s (set_now breaks)
  pub counts : (a : ℕ) → a < length breaks.counts.items
      → slice_index_or breaks.counts.items a 0 ≡ count_at placed a (set_now breaks)
  pub numbers : AreNumbersByAddress placed breaks.numbers.items

-- there is room for n breakpoints, and the tables by statement are long enough
abbrev pub HasRoomIn : ℕ → Breaks → Type 0
HasRoomIn n breaks =
    (n ≤ vec_capacity breaks.statements) × (n ≤ vec_capacity breaks.log)
    × (most_statements < length breaks.since.items) × (most_statements < length breaks.times.items)

-- there is as much room as before
abbrev pub HasSameRoom : Breaks → Breaks → Type 0
HasSameRoom old new =
    (vec_capacity new.statements ≡ vec_capacity old.statements)
    × (vec_capacity new.log ≡ vec_capacity old.log)
    × (length new.since.items ≡ length old.since.items)
    × (length new.times.items ≡ length old.times.items)
