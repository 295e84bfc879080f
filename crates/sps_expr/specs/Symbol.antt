-- A list of symbols.
-- Source: SPS manual, labels and HEAD; that the first definition of a name counts is this project's own.
use Rattle.std.specs.Prelude.{◌≡◌, ℕ, ◌+◌, ℤ, Bool, true, ◌&&◌, List, [], ◌∷◌, ◌++◌, Contains, Option, Some, None, IfSome, is_none, if◌then◌else◌, bytes_eq, length, nat_le}
use Rattle.std.specs.Option.{option_map}

-- A symbol is a name with or without a head; it is spelled `h$name`, or `name` without a head.

-- the symbol of a head and a name
abbrev pub with_head : Option ℕ → List ℕ → List ℕ
with_head None name = name
with_head (Some h) name = h ∷ 36 ∷ name

-- the symbol of a label or of a name without a `$`: one to five characters get the head in force, six characters get no head
abbrev pub symbol_of : Option ℕ → List ℕ → List ℕ
symbol_of head name = if nat_le (length name) 5 then with_head head name else name

-- a symbol as it is spelled, its value, and the statement that has it as its label
pub record SymbolEntry : Type 0 where
  pub name : List ℕ
  pub value : ℤ
  pub statement : ℕ

-- an entry in one line
abbrev pub entry_with : List ℕ → ℤ → ℕ → SymbolEntry
entry_with name value statement = record { name = name; value = value; statement = statement }

-- the value and the statement of the first entry with a name
unfoldable pub find : List ℕ → List SymbolEntry → Option (ℤ × ℕ)
find name [] = None
find name (e ∷ es) = if bytes_eq name e.name then Some (e.value, e.statement) else find name es

-- the place of the first entry with a name, counted from 0
unfoldable pub place_of_name : List ℕ → List SymbolEntry → Option ℕ
place_of_name name [] = None
place_of_name name (e ∷ es) = if bytes_eq name e.name then Some 0 else option_map (λ k. k + 1) (place_of_name name es)

-- the value and the statement that were found are the name's entry
abbrev pub HasEntryOf : List SymbolEntry → List ℕ → Option (ℤ × ℕ) → Type 0
HasEntryOf symbols name found = IfSome found (λ s. Contains symbols (entry_with name s.0 s.1))

-- each entry of the name has the value and the statement that were found
abbrev pub EachEntryHas : List SymbolEntry → List ℕ → Option (ℤ × ℕ) → Type 0
EachEntryHas symbols name found = (e : SymbolEntry) → Contains symbols e → e.name ≡ name → found ≡ Some (e.value, e.statement)

-- the symbols, with the entry after them if it is new
abbrev pub with_new : Bool → List SymbolEntry → SymbolEntry → List SymbolEntry
with_new is_new symbols e = if is_new then symbols ++ e ∷ [] else symbols

-- no name occurs twice
unfoldable pub has_no_name_twice : List SymbolEntry → Bool
has_no_name_twice [] = true
has_no_name_twice (e ∷ es) = is_none (find e.name es) && has_no_name_twice es
