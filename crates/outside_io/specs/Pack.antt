-- The written sectors, which replace a file's sectors.
use Rattle.std.specs.Prelude.{◌≡◌, ℕ, List, Option, None, unwrap_or, slice_index_or}
use Rattle.outside_io.specs.declared.in_memory.pack.Sectors.{Sectors}
use Rattle.outside_io.specs.World.{with_sector}

-- a pack over a base: each sector is the written one, or the base's if none was written
abbrev pub pack_over : List (Option (List ℕ)) → (ℕ → List ℕ) → ℕ → List ℕ
pack_over written base a = unwrap_or (slice_index_or written a None) (base a)

-- the written sectors over a base
abbrev pub sectors_over : Sectors → (ℕ → List ℕ) → ℕ → List ℕ
sectors_over sectors base = pack_over sectors.written.items base

-- no sector is written
abbrev pub IsUnwritten : Sectors → Type 0
IsUnwritten sectors = (a : ℕ) → slice_index_or sectors.written.items a None ≡ None

-- one sector is written, and all others stay
abbrev pub Writes : Sectors → Sectors → ℕ → List ℕ → Type 0
Writes old new a text = (base : ℕ → List ℕ) → sectors_over new base ≡ with_sector a text (sectors_over old base)
