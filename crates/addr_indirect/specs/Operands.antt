-- The operands of an instruction: P's units are at P6, its address plus 6, and Q's units at Q11, its address plus 11.
-- Source: CPU manual, instruction format and immediate instructions.
use Rattle.std.specs.Prelude.{ℕ, ◌+◌, List, Result}
use Rattle.addr_indirect.specs.declared.Stop.{Stop}
use Rattle.addr_indirect.specs.Operand.{operand}

-- P's operand, of the instruction at ir
abbrev pub p_operand : List ℕ → ℕ → Result ℕ Stop
p_operand core ir = operand core (ir + 6)

-- Q's operand
abbrev pub q_operand : List ℕ → ℕ → Result ℕ Stop
q_operand core ir = operand core (ir + 11)

-- an immediate Q is the field at Q11 itself, and no chain is followed from there
abbrev pub immediate_q : ℕ → ℕ
immediate_q ir = ir + 11
