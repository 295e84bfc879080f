-- The states before and after the calls.
use Rattle.std.specs.Prelude.{ℕ, ◌≡◌, List, Option, IfSome, Result, Ok, Err}
use Rattle.std.specs.Option.{option_and_then}
use Rattle.addr_indirect.specs.declared.Stop.{Stop}
use Rattle.addr_indirect.specs.declared.Instr.{Instr}
use Rattle.addr_indirect.specs.Fetch.{opcode}
use Rattle.indicators.specs.declared.Panel.{Panel}
use Rattle.traces.specs.Trace.{Trace, map_answer}
use Rattle.traces.specs.Change.{Change, core_after_changes, panel_after_changes}
use Rattle.branch_ops.specs.declared.Regs.{Regs}
use Rattle.instruction_table.specs.declared.BranchOp.{BranchOp}
use Rattle.branch_ops.specs.declared.rows.BranchOperands.{BranchOperands}
use Rattle.branch_ops.specs.Branch.{branch_of, branch, branch_over, transmit}

-- the branch that an instruction is, by its opcode
abbrev pub branch_in : Instr → Option BranchOp
branch_in i = option_and_then branch_of (opcode i)

-- the registers that a branch leaves: IR-2 as its row gives it, and IR as before; a stop leaves both as before
abbrev pub registers_left : Regs → Result Regs Stop → Regs
registers_left r (Ok next) = record { ir = r.ir; ir2 = next.ir2 }
registers_left r (Err why) = r

-- the address of the next instruction
abbrev pub next_ir : Result Regs Stop → Result ℕ Stop
next_ir answer = map_answer (λ next. next.ir) answer

-- a branch was carried out: what it left, and the address of the next instruction
pub record Branches (core : List ℕ) (panel : Panel) (regs : Regs) (t : Trace Change Regs Stop) (new : List ℕ)
    (new_panel : Panel) (new_regs : Regs) (result : Result ℕ Stop) : Type 0 where
  pub leaves : new ≡ core_after_changes core t.effects
  pub shows : new_panel ≡ panel_after_changes panel t.effects
  pub registers : new_regs ≡ registers_left regs t.answer
  pub answers : result ≡ next_ir t.answer

-- what a branch works on: core, the panel and the registers
pub record Processor : Type 0 where
  pub core : List ℕ
  pub panel : Panel
  pub regs : Regs

abbrev pub processor : List ℕ → Panel → Regs → Processor
processor core panel regs = record { core = core; panel = panel; regs = regs }

-- this branch of an instruction was carried out
abbrev pub Carries : BranchOp → Instr → Processor → Processor → Result ℕ Stop → Type 0
Carries b i old new result =
    Branches old.core old.panel old.regs (branch b old.core old.regs old.panel i) new.core new.panel new.regs result

-- the instruction was carried out, if it is a branch
abbrev pub CarriesOut : Instr → Processor → Processor → Result ℕ Stop → Type 0
CarriesOut i old new result = IfSome (branch_in i) (λ b. Carries b i old new result)

-- BT or BTM was carried out over these operands; the panel, which they don't use, stays
abbrev pub Transmits : List ℕ → Regs → ℕ → ℕ → List ℕ → Regs → Result ℕ Stop → Type 0
Transmits core regs p q new new_regs result =
    (panel : Panel) → Branches core panel regs (transmit core regs p q) new panel new_regs result

-- this branch was carried out over operands that are known
abbrev pub CarriesKnown : BranchOp → BranchOperands → Processor → Processor → Result ℕ Stop → Type 0
CarriesKnown op o old new result =
    Branches old.core old.panel old.regs (branch_over op o old.core old.regs old.panel) new.core new.panel new.regs result

-- a branch by a digit was carried out over P and Q; the panel, which it doesn't use, stays
abbrev pub GoesByDigit : BranchOp → List ℕ → Regs → ℕ → ℕ → Result ℕ Stop → Type 0
GoesByDigit op core r p q result =
    (panel : Panel) → Branches core panel r (branch_over op (record { p = p; q = q; code = 0 }) core r panel) core panel r result

-- a branch by an indicator was carried out over P, and tested the indicator `code`
abbrev pub GoesByTest : BranchOp → List ℕ → Panel → Regs → ℕ → ℕ → Panel → ℕ → Type 0
GoesByTest op core panel r p code new_panel to =
    Branches core panel r (branch_over op (record { p = p; q = 0; code = code }) core r panel) core new_panel r (Ok to)
