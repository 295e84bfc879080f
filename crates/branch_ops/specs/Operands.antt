-- The operands that the table of instructions names for an instruction, and the operands and the indicator of a branch.
-- Source: CPU manual, instruction descriptions and branch instructions; the order of the checks is this project's own.
use Rattle.std.specs.Prelude.{ℕ, ◌%◌, ◌==◌, List, Option, Some, None, if◌then◌else◌, Result, Ok, Err, unwrap_or}
use Rattle.addr_indirect.specs.declared.Stop.{Stop}
use Rattle.addr_indirect.specs.declared.Stop.TheVariants.{EvenAlpha}
use Rattle.addr_indirect.specs.declared.Instr.{Instr}
use Rattle.addr_indirect.specs.Steps.{◌>>=◌}
use Rattle.addr_indirect.specs.{p_operand, q_operand, immediate_q, q8_q9, opcode}
use Rattle.instruction_table.specs.declared.InstructionRow.{InstructionRow}
use Rattle.instruction_table.specs.declared.OperandUse.{OperandUse}
use Rattle.instruction_table.specs.declared.OperandUse.TheVariants as column
use Rattle.instruction_table.specs.Table.{instruction_of, uses_of}
use Rattle.branch_ops.specs.declared.fields.Uses.{Uses}
use Rattle.branch_ops.specs.declared.fields.Uses.TheVariants.{Both, OddBoth, Immediate, First, OddFirst, Neither}
use Rattle.branch_ops.specs.declared.fields.Operands.{Operands}
use Rattle.branch_ops.specs.declared.rows.BranchOperands.{BranchOperands}

-- the operands that an instruction works out, by its column; by its device if the column leaves them to it
abbrev pub uses_by : OperandUse → Uses → Uses
uses_by column.Both device = Both
uses_by column.OddBoth device = OddBoth
uses_by column.Field device = Immediate
uses_by column.Digit device = Immediate
uses_by column.Indicator device = First
uses_by column.First device = First
uses_by column.OddFirst device = OddFirst
uses_by column.Neither device = Neither
uses_by column.FirstByDevice device = device

-- the operands of the instruction at ir: P is worked out before Q, and then checked to be odd if it is a field of pairs of
-- digits; an operand that isn't used is 0
abbrev pub operands : Uses → List ℕ → ℕ → Result Operands Stop
operands Both core ir = do
  p ← p_operand core ir
  q ← q_operand core ir
  Ok (record { p = p; q = q })
operands OddBoth core ir = do
  p ← p_operand core ir
  q ← q_operand core ir
  if p % 2 == 0 then Err EvenAlpha else Ok (record { p = p; q = q })
operands Immediate core ir = do
  p ← p_operand core ir
  Ok (record { p = p; q = immediate_q ir })
operands First core ir = do
  p ← p_operand core ir
  Ok (record { p = p; q = 0 })
operands OddFirst core ir = do
  p ← p_operand core ir
  if p % 2 == 0 then Err EvenAlpha else Ok (record { p = p; q = 0 })
operands Neither core ir = Ok (record { p = 0; q = 0 })

-- the column of an instruction, by its row of the table of instructions; an opcode without a row uses no operand
abbrev pub column_by : Option InstructionRow → OperandUse
column_by (Some r) = uses_of r
column_by None = column.Neither

abbrev pub column_of : Option ℕ → OperandUse
column_of (Some code) = column_by (instruction_of code)
column_of None = column.Neither

abbrev pub operands_used : Instr → OperandUse
operands_used i = column_of (opcode i)

-- the indicator that Q8 Q9 name; 0, which is no indicator, if one of them is over 9
abbrev pub tested_code : Instr → ℕ
tested_code i = unwrap_or (q8_q9 i) 0

-- the indicator that a branch tests, by its column; 0 if it tests none
abbrev pub code_by : OperandUse → Instr → ℕ
code_by column.Indicator i = tested_code i
code_by u i = 0

-- operands, with the indicator that a branch tests
abbrev pub operands_tested : Operands → ℕ → BranchOperands
operands_tested o code = record { p = o.p; q = o.q; code = code }

-- the operands of the branch i at ir, by its column; no branch leaves them to a device
abbrev pub branch_operands : OperandUse → List ℕ → ℕ → Instr → Result BranchOperands Stop
branch_operands u core ir i = do
  o ← operands (uses_by u Neither) core ir
  Ok (operands_tested o (code_by u i))
