-- Which part of an instruction a check is about, by core at the stop.
-- Source: this project's own, over the CPU manual's instruction format and indirect addressing.
use Rattle.std.specs.Prelude.{ℕ, zero, suc, Bool, true, false, ◌+◌, ◌-◌, ◌%◌, ◌==◌, ◌&&◌, min, nat_le, nat_lt, List, length, if◌then◌else◌, Option, Some, None, Result, Ok, Err, unwrap_or}
use Rattle.std.specs.Option.{option_map_or}
use Rattle.digit_core.specs.declared.Digit.{Digit}
use Rattle.digit_core.specs.Cell.{value_in}
use Rattle.digit_core.specs.Search.{first_down, first_up, flag_below}
use Rattle.addr_indirect.specs.declared.Stop.{Stop}
use Rattle.addr_indirect.specs.declared.Stop.TheVariants.{Parity, Value, Overflow, InOut, Digit as BadDigit}
use Rattle.addr_indirect.specs.declared.Instr.{Instr}
use Rattle.addr_indirect.specs.Steps.{◌>>=◌}
use Rattle.addr_indirect.specs.Reading.{read_at, decimal_at}
use Rattle.addr_indirect.specs.Operand.{number_down}
use Rattle.addr_indirect.specs.Operands.{p_operand, q_operand, immediate_q}
use Rattle.addr_indirect.specs.Fetch.{fetch}
use Rattle.cpu_step.specs.declared.rows.Found.{Found}
use Rattle.cpu_step.specs.declared.rows.Row.{Row}
use Rattle.cpu_step.specs.declared.rows.Row.TheVariants as row
use Rattle.cpu_step.specs.declared.rows.InOutRow.TheVariants as io
use Rattle.branch_ops.specs.declared.fields.Uses.{Uses}
use Rattle.branch_ops.specs.declared.fields.Uses.TheVariants.{Both, OddBoth, Immediate, First, OddFirst, Neither}
use Rattle.branch_ops.specs.declared.fields.Operands.{Operands}
use Rattle.cpu_step.specs.declared.machine.Mode.{Mode}
use Rattle.cpu_step.specs.declared.machine.Mode.TheVariants.{Stopped}
use Rattle.cpu_step.specs.declared.checks.CheckPart.{CheckPart}
use Rattle.cpu_step.specs.declared.checks.CheckPart.TheVariants as part
use Rattle.cpu_step.specs.Rows.{instruction_row}

-- a if its cell can't be read, else `further`
abbrev pub unread_or : ℕ → Result Digit Stop → ℕ → ℕ
unread_or a (Ok d) further = further
unread_or a (Err why) further = a

-- the first of n cells from a upwards that can't be read; no cell past the end of core can be read
unfoldable pub first_unread : List ℕ → ℕ → ℕ → ℕ
first_unread core a zero = a
first_unread core a (suc n) = unread_or a (read_at core a) (first_unread core (a + 1) n)

-- the cell at which an instruction can't be fetched: its first cell if its address is odd
abbrev pub unfetched_cell : List ℕ → ℕ → ℕ
unfetched_cell core ir = if ir % 2 == 1 then ir else first_unread core ir 12

-- the units position to which a field leads on in a core of n cells: its number, if its units digit has a flag and the number may
-- be the units position of a field
abbrev pub way_on : ℕ → Result Digit Stop → Result ℕ Stop → Option ℕ
way_on n (Ok d) (Ok v) = if d.flag && nat_le 4 v && nat_lt v n then Some v else None
way_on n (Ok d) (Err why) = None
way_on n (Err why) v = None

-- the units position to which the field of five digits at u leads on
abbrev pub field_after : List ℕ → ℕ → Option ℕ
field_after core u = way_on (length core) (decimal_at core u) (number_down core u 5)

-- the units position of the last field of a chain from u that leads on at most n times
unfoldable pub chain_end : ℕ → List ℕ → ℕ → ℕ
chain_end zero core u = u
chain_end (suc fields) core u = option_map_or (chain_end fields core) (field_after core u) u

-- the field at which P's chain ends, for the instruction at ir, and the field at which Q's chain ends
abbrev pub p_part : List ℕ → ℕ → CheckPart
p_part core ir = part.P (chain_end (length core) core (ir + 6))

abbrev pub q_part : List ℕ → ℕ → CheckPart
q_part core ir = part.Q (chain_end (length core) core (ir + 11))

-- an operand's address, or the part at which it stops
abbrev pub or_part : CheckPart → Result ℕ Stop → Result ℕ CheckPart
or_part p (Ok a) = Ok a
or_part p (Err why) = Err p

-- P's address, and Q's; 0 if the instruction doesn't use the operand
abbrev pub p_or_part : Uses → List ℕ → ℕ → Result ℕ CheckPart
p_or_part Neither core ir = Ok 0
p_or_part u core ir = or_part (p_part core ir) (p_operand core ir)

abbrev pub q_or_part : Uses → List ℕ → ℕ → Result ℕ CheckPart
q_or_part Both core ir = or_part (q_part core ir) (q_operand core ir)
q_or_part OddBoth core ir = or_part (q_part core ir) (q_operand core ir)
q_or_part Immediate core ir = Ok (immediate_q ir)
q_or_part u core ir = Ok 0

-- P must be odd
abbrev pub wants_odd : Uses → Bool
wants_odd OddBoth = true
wants_odd OddFirst = true
wants_odd u = false

-- the operands of the instruction at ir, or the part at which they stop: P is worked out before Q, and checked to be odd after Q
abbrev pub operands_or_part : Uses → List ℕ → ℕ → Result Operands CheckPart
operands_or_part u core ir = do
  p ← p_or_part u core ir
  q ← q_or_part u core ir
  if wants_odd u && (p % 2 == 0) then Err (p_part core ir) else Ok (record { p = p; q = q })

-- Q's address, if Q is used
abbrev pub q_used : Uses → ℕ → Option ℕ
q_used First q = None
q_used OddFirst q = None
q_used Neither q = None
q_used u q = Some q

-- a cell over 9
abbrev pub is_over_nine : ℕ → Bool
is_over_nine c = nat_lt 9 (value_in c)

-- how many digits the field at p has: from its units down to the first flag below them, or to 00000 if there is no flag
abbrev pub field_length : List ℕ → ℕ → ℕ
field_length core p = p - unwrap_or (flag_below core p) 0 + 1

-- the first cell over 9 of n digits from their units downwards
abbrev pub over_nine_down : List ℕ → ℕ → ℕ → Option ℕ
over_nine_down core a n = first_down is_over_nine core (a + 1) n

-- the nearer to its units of two cells, one in the field at p and one in the field at q; P's cell if both are equally near
abbrev pub nearer : ℕ → ℕ → Option ℕ → Option ℕ → Option ℕ
nearer p q (Some a) (Some b) = if nat_le (p - a) (q - b) then Some a else Some b
nearer p q (Some a) None = Some a
nearer p q None b = b

-- the first cell over 9 of the fields at p and at q, which a sum reads in step from their units on: P's whole field, and at most
-- as many digits of Q's field
abbrev pub over_nine_in_step : List ℕ → ℕ → ℕ → Option ℕ
over_nine_in_step core p q =
    nearer p q (over_nine_down core p (field_length core p))
    (over_nine_down core q (min (field_length core p) (field_length core q)))

-- the first cell over 9 of the disk's control field of 14 digits at p, as far as the field lies in core
abbrev pub over_nine_in_control : List ℕ → ℕ → Option ℕ
over_nine_in_control core p = first_up is_over_nine core p (min 14 (length core - p))

-- the cell over 9 at which a row stops: in a field of a sum or a comparison, not in the add table; or in the disk's control field
abbrev pub cell_over_nine : Row → List ℕ → Operands → Option ℕ
cell_over_nine (row.Sum kind) core o = over_nine_in_step core o.p o.q
cell_over_nine row.Compare core o = over_nine_in_step core o.p o.q
cell_over_nine (row.InOut (io.Disk r)) core o = over_nine_in_control core o.p
cell_over_nine r core o = None

-- the cell that a check of an action is about, if it can be found
abbrev pub action_cell : Stop → Row → List ℕ → Operands → Option ℕ
action_cell (Parity a) r core o = Some a
action_cell (Value a) r core o = Some a
action_cell BadDigit r core o = cell_over_nine r core o
action_cell why r core o = None

-- the action over operands, or the part at which they stop
abbrev pub action_or_part : Stop → Found → List ℕ → Result Operands CheckPart → CheckPart
action_or_part why f core (Ok o) = part.Action o.p (q_used f.uses o.q) (action_cell why f.row core o)
action_or_part why f core (Err p) = p

-- the part of an instruction that was fetched and found
abbrev pub worked_part : Stop → Found → List ℕ → ℕ → CheckPart
worked_part why f core ir = action_or_part why f core (operands_or_part f.uses core ir)

-- the part of an instruction that was fetched; the instruction itself if no operation has its digits
abbrev pub fetched_part : Stop → Result Found Stop → List ℕ → ℕ → CheckPart
fetched_part why (Ok f) core ir = worked_part why f core ir
fetched_part why (Err no_row) core ir = part.Instruction ir

-- the part of the instruction at ir, fetched or not
abbrev pub part_of : Stop → Result Instr Stop → List ℕ → ℕ → CheckPart
part_of why (Ok i) core ir = fetched_part why (instruction_row i) core ir
part_of why (Err unfetched) core ir = part.Instruction (unfetched_cell core ir)

-- a stop by a check switch, which comes after a whole instruction
abbrev pub is_by_switch : Stop → Bool
is_by_switch Overflow = true
is_by_switch InOut = true
is_by_switch why = false

-- WHICH PART OF AN INSTRUCTION a check is about
unfoldable pub check_part : Stop → List ℕ → ℕ → Option CheckPart
check_part why core ir = if is_by_switch why then None else Some (part_of why (fetch core ir) core ir)

-- the part that a check is about, if a check stopped the machine
abbrev pub part_in : Mode → List ℕ → Option CheckPart
part_in (Stopped why at) core = check_part why core at
part_in mode core = None
