-- No name stands twice in the table, so each row is the one of its name.
use Rattle.std.proofs.Common.{◌≡◌, ◌∙◌, ℕ, zero, suc, ◌<◌, Bool, true, false, ◌&&◌, ◌==◌, List, [], ◌∷◌, ◌++◌, length, slice_index_or, Option, Some, None, is_none, bytes_eq, if◌then◌else◌, Contains, refl, sym, ap, map, arith}
use Rattle.std.specs.Borrow.{Bor}
use Rattle.std.proofs.lemmas.Bool.Decides.{nat_tests}
use Rattle.std.proofs.lemmas.Slice.Eq.{bytes_eq-Decides}
use Rattle.std.proofs.lemmas.List.Elements.{Contains-append_left, Contains-append_right}
use Rattle.instruction_table.specs.declared.InstructionRow.{InstructionRow}
use Rattle.sps_ops.specs.declared.operation.Operation.{Operation}
use Rattle.sps_ops.specs.declared.operation.Declarative.{Declarative}
use Rattle.line_words.specs.Rows.{NameRow, row_from_table, value_by_name, with_values}
use Rattle.sps_ops.specs.Operations.{operations, opcodes, by_digits, mnemonics, unique_mnemonics, declaratives, plain_operation, whole, declared}

-- each name stands once
abbrev pub names_once : {A : Type 0} → List (NameRow A) → Bool
names_once [] = true
names_once (r ∷ rs) = is_none (value_by_name rs r.name) && names_once rs

-- in the table of operations each name stands once
pub operations_once : names_once operations ≡ true
unfolding value_by_name
operations_once = refl

both : (a b : Bool) → (a && b) ≡ true → (a ≡ true) × (b ≡ true)
both true b h = (refl, h)
both false b h = cc

-- a name that has no value is not that of a row with one
other_name : {A : Type 0} (o : Option A) (v : A) (x : Option A) → is_none o ≡ true → o ≡ Some v → x ≡ Some v
other_name o v x none some = let k = rw some at none in cc

-- where each name stands once, a row's name stands for its value
row_found : {A : Type 0} (rows : List (NameRow A)) (r : NameRow A) (k : ℕ) → names_once rows ≡ true → k < length rows → slice_index_or rows k r ≡ r → value_by_name rows r.name ≡ Some r.value
unfolding value_by_name
row_found [] r k once inside is = absurd (omega arith)
row_found (s ∷ ss) r zero once inside is = rw (is, (bytes_eq-Decides r.name r.name).1 refl)
row_found (s ∷ ss) r (suc k) once inside is =
    let parts = both (is_none (value_by_name ss s.name)) (names_once ss) once in
    let below = row_found ss r k parts.1 (omega arith) is in
    let step = elim (bytes_eq r.name s.name) as (λ t. bytes_eq r.name s.name ≡ t → (if t then Some s.value else value_by_name ss r.name) ≡ Some r.value) [
      | true ↦ λ same. other_name (value_by_name ss s.name) r.value (Some s.value) parts.0 (ap (value_by_name ss) (sym ((bytes_eq-Decides r.name s.name).0 same)) ∙ below)
      | false ↦ λ same. below
    ] in
    step refl

-- an operation's row is found by its name
pub operation_found : (r : NameRow Operation) → Contains operations r → value_by_name operations r.name ≡ Some r.value
operation_found r row = row_found operations r row.0 operations_once row.1 row.2

-- no operation has an empty name
pub nothing_unnamed : (name : List ℕ) → (length name == 0) ≡ true → value_by_name operations name ≡ None
unfolding value_by_name
nothing_unnamed [] empty = refl
nothing_unnamed (b ∷ bs) empty = let none : length (b ∷ bs) ≡ 0 = grind (arith, nat_tests) in absurd (omega arith)

-- a row of a table is one of what is made of its values
made_at : {A B : Type 0} (f : A → B) (rows : List (NameRow A)) (r : NameRow A) (k : ℕ) → k < length rows → slice_index_or rows k r ≡ r → Contains (with_values f rows) (record { name = r.name; value = f r.value })
made_at f [] r k inside is = absurd (omega arith)
made_at {A} {B} f (s ∷ ss) r zero inside is = (0, omega arith, ap (λ (x : NameRow A). record { name = x.name; value = f x.value }) is)
made_at f (s ∷ ss) r (suc k) inside is = let c = made_at f ss r k (omega arith) is in (suc c.0, omega (arith, c.1), c.2)

made : {A B : Type 0} (f : A → B) (rows : List (NameRow A)) (r : NameRow A) → Contains rows r → Contains (with_values f rows) (record { name = r.name; value = f r.value })
made f rows r c = made_at f rows r c.0 c.1 c.2

-- the table of operations has three parts
abbrev by_opcode : List (NameRow Operation)
by_opcode = with_values plain_operation opcodes

abbrev by_whole : List (NameRow Operation)
by_whole = with_values whole unique_mnemonics

abbrev by_declared : List (NameRow Operation)
by_declared = with_values declared declaratives

-- the operation of a mnemonic
pub by_mnemonic : (name : List ℕ) (i : InstructionRow) → Contains mnemonics (record { name = name; value = i }) → value_by_name operations name ≡ Some (plain_operation i)
by_mnemonic name i c =
    let r : NameRow Operation = record { name = name; value = plain_operation i } in
    operation_found r (Contains-append_left by_opcode (by_whole ++ by_declared) r
    (made plain_operation opcodes (record { name = name; value = i })
    (Contains-append_left mnemonics (map by_digits mnemonics) (record { name = name; value = i }) c)))

-- of a unique mnemonic
pub by_unique : (name : List ℕ) (u : ℕ × ℕ) → Contains unique_mnemonics (record { name = name; value = u }) → value_by_name operations name ≡ Some (whole u)
by_unique name u c =
    let r : NameRow Operation = record { name = name; value = whole u } in
    operation_found r (Contains-append_right by_opcode (by_whole ++ by_declared) r
    (Contains-append_left by_whole by_declared r
    (made whole unique_mnemonics (record { name = name; value = u }) c)))

-- of a declarative
pub by_declarative : (name : List ℕ) (d : Declarative) → Contains declaratives (record { name = name; value = d }) → value_by_name operations name ≡ Some (declared d)
by_declarative name d c =
    let r : NameRow Operation = record { name = name; value = declared d } in
    operation_found r (Contains-append_right by_opcode (by_whole ++ by_declared) r
    (Contains-append_right by_whole by_declared r
    (made declared declaratives (record { name = name; value = d }) c)))

pub ruleset by_row = (by_mnemonic, by_unique, by_declarative)

-- row k of the program's is one of a table's
pub row_there : {A : Type 0} (rows : List (Bor (List ℕ) × A)) (k : ℕ) (p : Bor (List ℕ) × A) → k < length rows → slice_index_or rows k p ≡ p → Contains (map row_from_table rows) (row_from_table p)
row_there [] k p inside is = absurd (omega arith)
row_there (s ∷ ss) zero p inside is = (0, omega arith, ap row_from_table is)
row_there (s ∷ ss) (suc k) p inside is = let c = row_there ss k p (omega arith) is in (suc c.0, omega (arith, c.1), c.2)
