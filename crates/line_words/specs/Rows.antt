-- Tables of names and their values.
use Rattle.std.specs.Prelude.{◌≡◌, ℕ, List, [], ◌∷◌, Contains, map, bytes_eq, codes, Option, Some, None, if◌then◌else◌}
use Rattle.std.specs.Borrow.{Bor}
use Prim.Native.String.{String}

-- a name and its value
pub record NameRow (A : Type 0) : Type 0 where
  pub name : List ℕ
  pub value : A

-- a row as a table shows it
abbrev pub row : {A : Type 0} → String → A → NameRow A
row name value = record { name = codes name; value = value }

-- a row of the program
abbrev pub row_from_table : {A : Type 0} → (Bor (List ℕ) × A) → NameRow A
row_from_table p = record { name = p.0.now; value = p.1 }

-- the same names, each with a value made from its value
abbrev pub with_values : {A B : Type 0} → (A → B) → List (NameRow A) → List (NameRow B)
with_values f rows = map (λ r. record { name = r.name; value = f r.value }) rows

-- the value of the first row with a name
unfoldable pub value_by_name : {A : Type 0} → List (NameRow A) → List ℕ → Option A
value_by_name [] name = None
value_by_name (r ∷ rs) name = if bytes_eq name r.name then Some r.value else value_by_name rs name

-- each row with the name has the value that was found
abbrev pub EachRowStandsFor : {A : Type 0} → List (NameRow A) → List ℕ → Option A → Type 0
EachRowStandsFor {A} rows name found = (r : NameRow A) → Contains rows r → r.name ≡ name → found ≡ Some r.value

-- one of the program's rows has the name, and the value v
abbrev pub HasRow : {A : Type 0} → List (Bor (List ℕ) × A) → List ℕ → A → Type 0
HasRow {A} rows name v = Contains (map row_from_table rows) (record { name = name; value = v })
