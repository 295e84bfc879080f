-- Tables one behind another, and tables of other values.
use Rattle.std.proofs.Common.{◌≡◌, ◌∙◌, ℕ, true, false, List, [], ◌∷◌, ◌++◌, map, Some, bytes_eq, if◌then◌else◌, refl}
use Rattle.std.specs.Option.{option_map, option_or}
use Rattle.line_words.specs.Rows.{NameRow, value_by_name, with_values}
use Rattle.sps_ops.specs.Operations.{mnemonics, unique_mnemonics, declaratives, by_digits, opcodes, plain_operation, whole, declared, operations}

-- a name is in the first of two tables that has it
value_in-append : {A : Type 0} (xs ys : List (NameRow A)) (name : List ℕ) → value_by_name (xs ++ ys) name ≡ option_or (value_by_name xs name) (value_by_name ys name)
unfolding value_by_name
value_in-append [] ys name = refl
value_in-append (r ∷ rs) ys name = elim (bytes_eq name r.name) as (λ t. (if t then Some r.value else value_by_name (rs ++ ys) name) ≡ option_or (if t then Some r.value else value_by_name rs name) (value_by_name ys name)) [
  | true ↦ refl
  | false ↦ value_in-append rs ys name
]

-- a name stands for what is made of its value
value_in-with_values : {A B : Type 0} (f : A → B) (rows : List (NameRow A)) (name : List ℕ) → value_by_name (with_values f rows) name ≡ option_map f (value_by_name rows name)
unfolding value_by_name
value_in-with_values f [] name = refl
value_in-with_values f (r ∷ rs) name = elim (bytes_eq name r.name) as (λ t. (if t then Some (f r.value) else value_by_name (with_values f rs) name) ≡ option_map f (if t then Some r.value else value_by_name rs name)) [
  | true ↦ refl
  | false ↦ value_in-with_values f rs name
]

-- an instruction is found by its mnemonic, or else by its digits
pub opcode_by_table : (name : List ℕ) → value_by_name opcodes name ≡ option_or (value_by_name mnemonics name) (value_by_name (map by_digits mnemonics) name)
opcode_by_table name = value_in-append mnemonics (map by_digits mnemonics) name

-- an operation is an instruction by its opcode or by a unique mnemonic, or else a declarative
pub operation_by_table : (name : List ℕ) → value_by_name operations name ≡ option_or (option_map plain_operation (value_by_name opcodes name)) (option_or (option_map whole (value_by_name unique_mnemonics name)) (option_map declared (value_by_name declaratives name)))
operation_by_table name =
    value_in-append (with_values plain_operation opcodes) (with_values whole unique_mnemonics ++ with_values declared declaratives) name
    ∙ rw (value_in-append (with_values whole unique_mnemonics) (with_values declared declaratives) name, value_in-with_values plain_operation opcodes name, value_in-with_values whole unique_mnemonics name, value_in-with_values declared declaratives name)
