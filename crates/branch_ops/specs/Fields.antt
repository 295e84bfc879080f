-- The fields of an instruction that hold its operands, and the operands that result from them.
-- Source: CPU manual, instruction format and indirect addressing; that operands are worked out from the instruction's
-- own digits is this project's own.
use Rattle.std.specs.Prelude.{ℕ, ◌≡◌, ◌%◌, ◌+◌, ◌-◌, ◌*◌, ◌==◌, ◌&&◌, ◌||◌, zero, suc, Bool, true, false, nat_lt, nat_le, List, length, slice_index_or, if◌then◌else◌, Option, Some, None, Result, Ok, Err}
use Rattle.digit_core.specs.Cell.{unflagged_digit}
use Rattle.addr_indirect.specs.declared.Stop.{Stop}
use Rattle.addr_indirect.specs.declared.Stop.TheVariants as stop
use Rattle.addr_indirect.specs.declared.Instr.{Instr}
use Rattle.addr_indirect.specs.Steps.{◌>>=◌}
use Rattle.addr_indirect.specs.Fetch.{fetch, part}
use Rattle.addr_indirect.specs.Operand.{further}
use Rattle.addr_indirect.specs.Operands.{immediate_q}
use Rattle.instruction_table.specs.declared.MayStore.{MayStore}
use Rattle.branch_ops.specs.declared.fields.Uses.{Uses}
use Rattle.branch_ops.specs.declared.fields.Uses.TheVariants as uses
use Rattle.branch_ops.specs.declared.fields.Operands.{Operands}
use Rattle.branch_ops.specs.declared.fields.FieldKind.{FieldKind}
use Rattle.branch_ops.specs.declared.fields.FieldKind.TheVariants.{Immediate, Address, Chain, Undecimal}
use Rattle.branch_ops.specs.declared.fields.Fields.{Fields}
use Rattle.branch_ops.specs.Operands.{operands}

-- the value of an instruction's digit, None if it is over 9
abbrev pub decimal_part : Instr → ℕ → Option ℕ
decimal_part i k = if nat_le (part i k) 9 then Some (part i k) else None

-- the number of a digit and of the digits above it
abbrev pub digit_with_above : Option ℕ → Option ℕ → Option ℕ
digit_with_above None above = None
digit_with_above (Some v) None = None
digit_with_above (Some v) (Some above) = Some (v + 10 * above)

-- the number of n of an instruction's digits, from its digit number k downwards
unfoldable pub part_number : Instr → ℕ → ℕ → Option ℕ
part_number i k zero = Some 0
part_number i k (suc n) = digit_with_above (decimal_part i k) (part_number i (k - 1) n)

-- the kind of a field with this number, by whether its units digit has a flag
abbrev pub kind_of : Option ℕ → Bool → FieldKind
kind_of None flag = Undecimal
kind_of (Some v) true = Chain
kind_of (Some v) false = Address

-- a field's number, 0 if it has none
abbrev pub number_or_zero : Option ℕ → ℕ
number_or_zero None = 0
number_or_zero (Some v) = v

-- the field of five digits whose units are an instruction's digit number k: its number, and its kind
abbrev pub field_from : Instr → ℕ → ℕ × FieldKind
field_from i k = (number_or_zero (part_number i k 5), kind_of (part_number i k 5) (slice_index_or i.cells k (unflagged_digit 0)).flag)

-- P's field, whose units are P6, and Q's field, whose units are Q11
abbrev pub both_fields : Instr → Bool → MayStore → Fields
both_fields i odd stores = record {
  p = (field_from i 6).0;
  q = (field_from i 11).0;
  p_kind = (field_from i 6).1;
  q_kind = (field_from i 11).1;
  odd = odd;
  stores = stores;
}

-- P's field alone, and the kind of Q's field
abbrev pub first_field : Instr → FieldKind → Bool → MayStore → Fields
first_field i other odd stores = record { p = (field_from i 6).0; q = 0; p_kind = (field_from i 6).1; q_kind = other; odd = odd; stores = stores }

-- the fields of an instruction that uses these operands, and may store these cells; an operand that isn't used is the address 0
abbrev pub fields_used : Uses → MayStore → Instr → Fields
fields_used uses.Both stores i = both_fields i false stores
fields_used uses.OddBoth stores i = both_fields i true stores
fields_used uses.Immediate stores i = first_field i Immediate false stores
fields_used uses.First stores i = first_field i Address false stores
fields_used uses.OddFirst stores i = first_field i Address true stores
fields_used uses.Neither stores i = record { p = 0; q = 0; p_kind = Address; q_kind = Address; odd = false; stores = stores }

-- a chain begins at a field
abbrev pub is_chain : FieldKind → Bool
is_chain Chain = true
is_chain kind = false

-- a chain begins at one of the fields
abbrev pub is_chained : Fields → Bool
is_chained f = is_chain f.p_kind || is_chain f.q_kind

-- r, if the address v lies in core
abbrev pub if_inside : List ℕ → ℕ → Result ℕ Stop → Result ℕ Stop
if_inside core v r = if nat_lt v (length core) then r else Err stop.Address

-- the operand that a field of this kind with the number v holds, for the instruction at ir
abbrev pub field_operand : List ℕ → ℕ → FieldKind → ℕ → Result ℕ Stop
field_operand core ir Immediate v = Ok (immediate_q ir)
field_operand core ir Address v = if_inside core v (Ok v)
field_operand core ir Chain v = if_inside core v (if nat_lt v 4 then Err stop.Address else further core v)
field_operand core ir Undecimal v = Err stop.Digit

-- the operands that fields hold, for the instruction at ir
abbrev pub fields_operands : Fields → List ℕ → ℕ → Result Operands Stop
fields_operands f core ir = do
  p ← field_operand core ir f.p_kind f.p
  q ← field_operand core ir f.q_kind f.q
  if f.odd && p % 2 == 0 then Err stop.EvenAlpha else Ok (record { p = p; q = q })

-- the field's number; for an immediate Q the instruction's own Q11
abbrev pub number_or_own : ℕ → FieldKind → ℕ → ℕ
number_or_own ir Immediate v = immediate_q ir
number_or_own ir kind v = v

-- the operands of the instruction at ir, if they are its fields' numbers, or an immediate Q
abbrev pub fields_at : ℕ → Fields → Operands
fields_at ir f = record { p = f.p; q = number_or_own ir f.q_kind f.q }

-- the fields hold the operands of the instruction at ir in this core, which uses the operands u
abbrev pub HoldOperands : Uses → List ℕ → ℕ → Fields → Type 0
HoldOperands u core ir f = fields_operands f core ir ≡ operands u core ir

-- the result is the operands of each instruction at ir in this core that has these fields, or their stop
abbrev pub ComeTo : Fields → List ℕ → ℕ → Result Operands Stop → Type 0
ComeTo f core ir result =
    (u : Uses) (stores : MayStore) (i : Instr) → fetch core ir ≡ Ok i → f ≡ fields_used u stores i → result ≡ operands u core ir
