-- Where a statement puts its label and its digits, and where the next statement begins.
-- Source: SPS manual, declarative operations and location counter; the exact lengths and labels of declaratives, and
-- what a broken statement takes, are this project's own.
use Rattle.std.specs.Prelude.{ℕ, suc, ◌+◌, ◌-◌, ◌*◌, ◌%◌, Bool, true, false, ◌==◌, List, [], ◌∷◌, Option, Some, None, if◌then◌else◌}
use Rattle.sps_ops.specs.declared.operation.Operation.{Operation}
use Rattle.sps_ops.specs.declared.operation.Operation.TheVariants.{Instruction, Declare}
use Rattle.sps_ops.specs.declared.operation.Declarative.{Declarative}
use Rattle.sps_ops.specs.declared.operation.Declarative.TheVariants.{Ds, Dss, Das, Dc, Dsc, Dac, Dsa, Dsb, Dnb, Dgm, Dda, Dorg, Dend, Head}
use Rattle.sps_scan.specs.Columns.{is_blank}
use Rattle.sps_scan.specs.Statement.{StatementText}
use Rattle.sps_expr.specs.Value.{Scope}
use Rattle.sps_pass_one.specs.declared.place.Placing.{Placing}
use Rattle.sps_pass_one.specs.Measure.{Measure, measure, form_of}
use Rattle.sps_expr.specs.Grammar.{is_nothing}

-- how many addresses a DSA lists: its list ends at the first empty part
abbrev pub listed_count : List (List ℕ) → ℕ
listed_count [] = 0
listed_count (part ∷ parts) = if is_blank part then 0 else suc (listed_count parts)

-- how many digits a disk instruction's control field has: the drive, a sector of five, a count of three, and an address of five
abbrev pub control_digits : ℕ
control_digits = 14

-- THE TABLE: how many positions the field of a declarative has
abbrev pub field_size : Declarative → ℕ → ℕ → ℕ
field_size Ds n k = n
field_size Dss n k = n
field_size Das n k = 2 * n
field_size Dc n k = n
field_size Dsc n k = n
field_size Dac n k = 2 * n
field_size Dsa n k = 5 * n
field_size Dsb n k = n * k
field_size Dnb n k = n
field_size Dgm n k = 1
field_size Dda n k = control_digits
field_size Dorg n k = 0
field_size Dend n k = 0
field_size Head n k = 0

-- how many positions of a declarative's field lie before the position that its label addresses
abbrev pub label_place : Declarative → ℕ → ℕ
label_place Ds n = n - 1
label_place Dss n = 0
label_place Das n = 1
label_place Dc n = n - 1
label_place Dsc n = 0
label_place Dac n = 1
label_place Dsa n = if n == 0 then 0 else 4
label_place Dsb n = n - 1
label_place Dnb n = n - 1
label_place Dgm n = 0
label_place Dda n = 0
label_place Dorg n = 0
label_place Dend n = 0
label_place Head n = 0

-- a declarative declares the positions of its field: their digits enter the image
abbrev pub declares : Declarative → Bool
declares Ds = false
declares Dss = false
declares Das = false
declares Dc = true
declares Dsc = true
declares Dac = true
declares Dsa = true
declares Dsb = false
declares Dnb = true
declares Dgm = true
declares Dda = true
declares Dorg = false
declares Dend = false
declares Head = false

-- a declarative's field begins at an even address
abbrev pub begins_even : Declarative → Bool
begins_even Das = true
begins_even Dac = true
begins_even d = false

-- a declarative sets where the next digits go
abbrev pub moves_origin : Declarative → Bool
moves_origin Dorg = true
moves_origin d = false

-- the first even address from an address on
abbrev pub even_up : ℕ → ℕ
even_up at = at + at % 2

-- the placing of a statement that takes no digits
abbrev pub nothing_at : ℕ → Placing
nothing_at at = record { label = at; digits = 0; next = at }

abbrev pub declared_size : Declarative → ℕ → ℕ → ℕ
declared_size d n k = if declares d then field_size d n k else 0

-- where a field without an explicit address begins
abbrev pub field_begin : Declarative → ℕ → ℕ
field_begin d at = if begins_even d then even_up at else at

-- without an address the field lies at the location, which moves past it; with an address the label is that address, and the
-- field lies around it; then the location stays, except that DORG moves it to the address
abbrev pub field_placing : Declarative → ℕ → ℕ → ℕ → Option ℕ → Placing
field_placing d at n k None = record {
  label = field_begin d at + label_place d n;
  digits = declared_size d n k;
  next = field_begin d at + field_size d n k;
}
field_placing d at n k (Some a) = record {
  label = a;
  digits = declared_size d n k;
  next = if moves_origin d then a else at;
}

-- the length of a declarative, or the number of addresses that a DSA lists
abbrev pub count_of : Declarative → StatementText → ℕ → ℕ
count_of Dsa s n = listed_count s.parts
count_of d s n = n

-- a declarative whose layout is broken takes no digits, and its label has the location before it as its value
abbrev pub declared_placing : Declarative → ℕ → StatementText → Measure → Placing
declared_placing d at s m = if is_nothing m.faults then field_placing d at (count_of d s m.n) m.k m.a else nothing_at at

-- an instruction takes twelve digits from the next even address
abbrev pub instruction_placing : ℕ → Placing
instruction_placing at = record { label = even_up at; digits = 12; next = even_up at + 12 }

-- the placing of a statement by its operation; with an unknown operation it takes no digits
abbrev pub placing_of : Scope → ℕ → StatementText → Option Operation → Placing
placing_of scope at s None = nothing_at at
placing_of scope at s (Some (Instruction opcode q immediate)) = instruction_placing at
placing_of scope at s (Some (Declare d)) = declared_placing d at s (measure scope s (form_of d))
