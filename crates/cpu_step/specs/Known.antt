-- Decoded instructions: what the twelve cells of an instruction mean, in any core and at any address.
use Rattle.std.specs.Prelude.{ℕ, ◌≡◌, ◌+◌, ◌*◌, ◌/◌, ◌%◌, ◌^◌, ◌<◌, ◌≤◌, ⊤, true, List, length, slice_index, Result, Ok, Err}
use Rattle.digit_core.specs.{six, size}
use Rattle.addr_indirect.specs.declared.Instr.{Instr}
use Rattle.addr_indirect.specs.declared.Stop.{Stop}
use Rattle.addr_indirect.specs.{digits_in, fetch}
use Rattle.instruction_table.specs.declared.MayStore.{MayStore}
use Rattle.instruction_table.specs.declared.MayStore.TheVariants.{Nothing}
use Rattle.instruction_table.specs.declared.BranchOp.{BranchOp}
use Rattle.instruction_table.specs.declared.BranchOp.TheVariants.{B}
use Rattle.cpu_step.specs.declared.rows.Row.{Row}
use Rattle.cpu_step.specs.declared.rows.Row.TheVariants as row
use Rattle.branch_ops.specs.declared.fields.Uses.{Uses}
use Rattle.branch_ops.specs.declared.fields.Uses.TheVariants.{Neither}
use Rattle.cpu_step.specs.declared.rows.Found.{Found}
use Rattle.branch_ops.specs.declared.fields.Operands.{Operands}
use Rattle.branch_ops.specs.declared.fields.Fields.{Fields}
use Rattle.cpu_step.specs.declared.memo.Known.{Known}
use Rattle.cpu_step.specs.declared.memo.Known.TheVariants as known
use Rattle.cpu_step.specs.Rows.{instruction_row, takes_odd}
use Rattle.cpu_step.specs.Act.{operands}
use Rattle.branch_ops.specs.Fields.{fields_used, fields_operands, fields_at, HoldOperands}

-- the instruction of twelve cells at ir, ten of them in one word and two in another
abbrev pub instr_at : ℕ → ℕ → ℕ → Instr
instr_at ir low high = record { at = ir; cells = digits_in low high }

-- these twelve cells are at ir in a core of size m
pub record AreTwelve (m : ℕ) (core : List ℕ) (ir low high : ℕ) : Type 0 where
  pub long : length core ≡ size m
  pub even : ir % 2 ≡ 0
  pub inside : ir + 12 ≤ length core
  pub low_cells : (j : ℕ) → j < 10 → six low j ≡ slice_index core (ir + j)
  pub high_cells : (j : ℕ) → j < 2 → six high j ≡ slice_index core (ir + 10 + j)

-- fields that give operands without a stop in every core of n cells, at any address of their instruction
pub record AreSettled (n : ℕ) (f : Fields) : Type 0 where
  pub works : (core : List ℕ) (ir : ℕ) → length core ≡ n → fields_operands f core ir ≡ Ok (fields_at ir f)
  pub p_below : f.p < n
  pub q_below : (ir : ℕ) → ir + 12 ≤ n → (fields_at ir f).q < n

-- a found instruction with this row, these operands and these cells that it may store
abbrev pub found_with : Row → Uses → MayStore → Found
found_with row uses stores = record { row = row; uses = uses; stores = stores }

-- the instruction has this row and these fields
pub record IsRow (i : Instr) (row : Row) (f : Fields) : Type 0 where
  pub uses : Uses
  pub row_is : instruction_row i ≡ Ok (found_with row uses f.stores)
  pub fields_are : f ≡ fields_used uses f.stores i

-- the row and the fields of an instruction, or the stop if it has no row
abbrev pub Decodes : Instr → Result (Row × Fields) Stop → Type 0
Decodes i (Ok found) = IsRow i found.0 found.1
Decodes i (Err why) = instruction_row i ≡ Err why

-- B, whatever Q8 Q9 name, and its operand
pub record IsB (i : Instr) (n p : ℕ) : Type 0 where
  pub code : ℕ
  pub f : Fields
  pub is : IsRow i (row.Branch B code) f
  pub settled : AreSettled n f
  pub p_is : p ≡ f.p

-- the decoded instruction agrees with the instruction's digits, in a core of n cells
abbrev pub IsKnown : Instr → ℕ → Known → Type 0
IsKnown i n (known.B p) = IsB i n p
IsKnown i n (known.Row row f) = IsRow i row f × AreSettled n f
IsKnown i n (known.Branch op f code) = IsRow i (row.Branch op code) f × AreSettled n f
IsKnown i n (known.Chained row f) = IsRow i row f
IsKnown i n known.Nothing = ⊤

-- the operands that a found instruction uses
abbrev pub uses_in : Result Found Stop → Uses
uses_in (Ok f) = f.uses
uses_in (Err why) = Neither

abbrev pub uses_at : ℕ → ℕ → ℕ → Uses
uses_at ir low high = uses_in (instruction_row (instr_at ir low high))

-- the instruction at ir has this row and these operands, and may store these cells
pub record ComesToRow (core : List ℕ) (ir low high : ℕ) (row : Row) (stores : MayStore) (o : Operands) : Type 0 where
  pub fetched : fetch core ir ≡ Ok (instr_at ir low high)
  pub row_is : instruction_row (instr_at ir low high) ≡ Ok (found_with row (uses_at ir low high) stores)
  pub operands_are : operands (uses_at ir low high) core ir ≡ Ok o
  pub inside : ir + 12 ≤ length core
  pub p_inside : o.p < length core
  pub q_inside : o.q < length core
  pub odd : takes_odd row ≡ true → o.p % 2 ≡ 1

-- the indicator that a branch's row names
abbrev pub code_of_row : Row → ℕ
code_of_row (row.Branch b code) = code
code_of_row r = 0

abbrev pub code_in : Result Found Stop → ℕ
code_in (Ok f) = code_of_row f.row
code_in (Err why) = 0

-- the instruction at ir is B, and goes to p
abbrev pub ComesToB : List ℕ → ℕ → ℕ → ℕ → ℕ → Type 0
ComesToB core ir low high p =
    ComesToRow core ir low high (row.Branch B (code_in (instruction_row (instr_at ir low high)))) Nothing (record { p = p; q = 0 })

-- the instruction at ir has this row and these fields, whose operands aren't worked out
pub record ComesToChained (core : List ℕ) (ir low high : ℕ) (row : Row) (f : Fields) : Type 0 where
  pub fetched : fetch core ir ≡ Ok (instr_at ir low high)
  pub row_is : instruction_row (instr_at ir low high) ≡ Ok (found_with row (uses_at ir low high) f.stores)
  pub operands_are : HoldOperands (uses_at ir low high) core ir f
  pub inside : ir + 12 ≤ length core
  pub odd : takes_odd row ≡ true → f.odd ≡ true

-- the instruction at ir, which these two words hold, is decoded as k; if k is Nothing, this says nothing
pub record ComesTo (core : List ℕ) (ir low high : ℕ) (k : Known) : Type 0 where
  pub to_b : (p : ℕ) → k ≡ known.B p → ComesToB core ir low high p
  pub to_row : (row : Row) (f : Fields) → k ≡ known.Row row f
      → ComesToRow core ir low high row f.stores (fields_at ir f)
  pub to_branch : (op : BranchOp) (f : Fields) (code : ℕ) → k ≡ known.Branch op f code
      → ComesToRow core ir low high (row.Branch op code) f.stores (fields_at ir f)
  pub to_chained : (row : Row) (f : Fields) → k ≡ known.Chained row f
      → ComesToChained core ir low high row f

-- a fact on the two words alone, in any core: so no store makes it false
abbrev pub AreKnown : ℕ → ℕ → ℕ → Known → Type 0
AreKnown m low high k = (core : List ℕ) (ir : ℕ) → AreTwelve m core ir low high → ComesTo core ir low high k

-- the last two cells of an instruction, which begin at cell number t of a word
abbrev pub two_from : ℕ → ℕ → ℕ
two_from high t = high / 2 ^ (6 * t)

-- an instruction may be at ir in a core of size m; its cells are in word number i, under the low mask, and in the next word,
-- under the high mask
pub record IsPlace (m ir i low_mask high_mask : ℕ) : Type 0 where
  pub even : ir % 2 ≡ 0
  pub inside : ir + 12 ≤ size m
  pub word_is : i ≡ ir / 10
  pub low_named : (j : ℕ) → ir % 10 ≤ j → j < 10 → six low_mask j ≡ 63
  pub high_named : (j : ℕ) → j < ir % 10 + 2 → six high_mask j ≡ 63

-- the instruction at ir is decoded as k, by some two words
pub record Comes (core : List ℕ) (ir : ℕ) (k : Known) : Type 0 where
  pub low : ℕ
  pub high : ℕ
  pub comes : ComesTo core ir low high k
