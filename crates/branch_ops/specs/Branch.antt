-- The rows of the branches: the address of the next instruction, and IR-2.
-- Source: CPU manual, operation codes and branch instructions; the order of the checks, and that P of 17 and 27 is not
-- 00000, are this project's own.
use Rattle.std.specs.Prelude.{ℕ, Bool, ◌+◌, ◌-◌, ◌==◌, not, List, map, if◌then◌else◌, Option, Some, None, Ok, Err}
use Rattle.digit_core.specs.declared.Digit.{Digit}
use Rattle.digit_core.specs.declared.TheConstants.{RECORD_MARK, GROUP_MARK}
use Rattle.addr_indirect.specs.declared.Stop.{Stop}
use Rattle.addr_indirect.specs.declared.Stop.TheVariants.{Address}
use Rattle.addr_indirect.specs.declared.Instr.{Instr}
use Rattle.addr_indirect.specs.{read_at}
use Rattle.indicators.specs.declared.Panel.{Panel}
use Rattle.indicators.specs.Panel.{on}
use Rattle.indicators.specs.Lamps.{test_lamps}
use Rattle.traces.specs.Trace.{Trace, ends, does_all, ◌>>=◌, lift, with_answer}
use Rattle.traces.specs.Change.{Change, StoresCell, Lights}
use Rattle.field_moves.specs.Move.{move_field}
use Rattle.branch_ops.specs.declared.Regs.{Regs}
use Rattle.branch_ops.specs.Registers.{on_at}
use Rattle.instruction_table.specs.Table.{instruction_of, op_of}
use Rattle.branch_ops.specs.Operands.{operands_used, branch_operands}
use Rattle.branch_ops.specs.declared.rows.BranchOperands.{BranchOperands}
use Rattle.instruction_table.specs.declared.InstructionRow.{InstructionRow}
use Rattle.instruction_table.specs.declared.Op.{Op}
use Rattle.instruction_table.specs.declared.Op.TheVariants.{Branch}
use Rattle.instruction_table.specs.declared.BranchOp.{BranchOp}
use Rattle.instruction_table.specs.declared.BranchOp.TheVariants.{Bt, Bb, Bd, Bnf, Bnr, Bng, Bi, Bni, B}

-- the branch of an opcode: the operation of its row of the table of instructions, if that is a branch
abbrev pub branch_of_op : Op → Option BranchOp
branch_of_op (Branch b) = Some b
branch_of_op o = None

abbrev pub branch_in_row : Option InstructionRow → Option BranchOp
branch_in_row (Some r) = branch_of_op (op_of r)
branch_in_row None = None

abbrev pub branch_of : ℕ → Option BranchOp
branch_of code = branch_in_row (instruction_of code)

-- to the address if the test holds, else on at the next instruction
abbrev pub go_if : Regs → Bool → ℕ → Regs
go_if r test to = on_at r (if test then to else r.ir + 12)

-- BT, BTM: the field at Q moves to P-1, IR-2 keeps the next instruction's address, and the branch goes to P
abbrev pub transmit : List ℕ → Regs → ℕ → ℕ → Trace Change Regs Stop
transmit core r p q =
    if p == 0 then ends (Err Address)
    else with_answer (λ _. record { ir = p; ir2 = r.ir + 12 }) (lift StoresCell (move_field core (p - 1) q))

-- BD, BNF, BNR, BNG: the branch goes to P if the digit at Q passes a test
abbrev pub go_by_digit : List ℕ → Regs → ℕ → ℕ → (Digit → Bool) → Trace Change Regs Stop
go_by_digit core r p q test = do
  d ← read_at core q
  ends (Ok (go_if r (test d) p))

-- BI, BNI: the indicator is tested, and the branch goes to P by its state before
abbrev pub go_by_indicator : Regs → ℕ → ℕ → Bool → Trace Change Regs Stop
go_by_indicator r p code test = does_all (map Lights (test_lamps code)) (ends (Ok (go_if r test p)))

-- the action of each branch over its operands
abbrev pub branch_over : BranchOp → BranchOperands → List ℕ → Regs → Panel → Trace Change Regs Stop
branch_over Bt o core r panel = transmit core r o.p o.q
branch_over Bb o core r panel = ends (Ok (on_at r r.ir2))
branch_over Bd o core r panel = go_by_digit core r o.p o.q (λ d. not (d.value == 0))
branch_over Bnf o core r panel = go_by_digit core r o.p o.q (λ d. not d.flag)
branch_over Bnr o core r panel = go_by_digit core r o.p o.q (λ d. not (d.value == RECORD_MARK))
branch_over Bng o core r panel = go_by_digit core r o.p o.q (λ d. not (d.value == GROUP_MARK))
branch_over Bi o core r panel = go_by_indicator r o.p o.code (on o.code panel)
branch_over Bni o core r panel = go_by_indicator r o.p o.code (not (on o.code panel))
branch_over B o core r panel = ends (Ok (on_at r o.p))

-- the row of each branch: its operands are worked out, whether or not it is taken, and then its action is done
unfoldable pub branch : BranchOp → List ℕ → Regs → Panel → Instr → Trace Change Regs Stop
branch op core r panel i = do
  o ← branch_operands (operands_used i) core r.ir i
  branch_over op o core r panel
