-- Symbols as contracts see them.
use Rattle.std.specs.Prelude.{◌≡◌, ℕ, ◌<◌, List, [], ◌∷◌, length, slice_index, Option, Some, None, bytes_eq, nat_le, if◌then◌else◌}
use Rattle.std.specs.BTreeMap.{get_by}
use Rattle.std.specs.Cmp.Lexicographic.{slice_cmp}
use Rattle.std.specs.Int.{w64, from_be_bytes}
use Rattle.std.specs.Ordering.{nat_cmp}
use Rattle.sps_expr.specs.declared.by_name.PlacesByName.{PlacesByName}
use Rattle.sps_expr.specs.declared.symbols.Symbol.{Symbol}
use Rattle.sps_expr.specs.Symbol.{SymbolEntry, place_of_name}

-- a symbol as an entry
abbrev pub entry_of : Symbol → SymbolEntry
entry_of s = record { name = s.name.items; value = s.value; statement = s.statement }

-- symbols as entries, in the same order
abbrev pub entries_of_symbols : List Symbol → List SymbolEntry
entries_of_symbols [] = []
entries_of_symbols (s ∷ ss) = entry_of s ∷ entries_of_symbols ss

-- each element is a byte
abbrev pub AreBytes : List ℕ → Type 0
AreBytes name = (k : ℕ) → slice_index name k < 256

-- the first seven bytes of a name, zeros after its end, and its length
abbrev pub key_bytes : List ℕ → List ℕ
key_bytes name =
    slice_index name 0 ∷ slice_index name 1 ∷ slice_index name 2 ∷ slice_index name 3
    ∷ slice_index name 4 ∷ slice_index name 5 ∷ slice_index name 6 ∷ length name ∷ []

-- a name of at most seven bytes as a number
abbrev pub short_key : List ℕ → ℕ
short_key name = from_be_bytes w64 (key_bytes name)

-- the place of a name in the maps: a name of at most seven bytes by its number, a longer name by the order of its bytes
unfoldable pub place_in_maps : PlacesByName → List ℕ → Option ℕ
place_in_maps places name =
    if nat_le (length name) 7 then get_by (nat_cmp (short_key name)) places.short
    else get_by (λ key. slice_cmp nat_cmp name key.items) places.long

-- no name has a place
abbrev pub HasNoPlace : PlacesByName → Type 0
HasNoPlace places = (name : List ℕ) → place_in_maps places name ≡ None

-- each name keeps its place
abbrev pub HasPlacesAsIn : PlacesByName → PlacesByName → Type 0
HasPlacesAsIn old new = (name : List ℕ) → place_in_maps new name ≡ place_in_maps old name

-- one name has this place, and each other name keeps its place
abbrev pub HasPlaceMore : PlacesByName → PlacesByName → List ℕ → ℕ → Type 0
HasPlaceMore old new added place =
    (name : List ℕ) → AreBytes name → place_in_maps new name ≡ (if bytes_eq name added then Some place else place_in_maps old name)

-- the maps have the place of each entry by its name, and no other name
abbrev pub HasPlacesOf : PlacesByName → List SymbolEntry → Type 0
HasPlacesOf places entries = (name : List ℕ) → AreBytes name → place_in_maps places name ≡ place_of_name name entries
