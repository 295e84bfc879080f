-- The registers.
-- Source: CPU manual, instruction register and branch back register.
use Rattle.std.specs.Prelude.{ℕ}
use Rattle.branch_ops.specs.declared.Regs.{Regs}

-- on at an address; IR-2 stays
abbrev pub on_at : Regs → ℕ → Regs
on_at r to = record { ir = to; ir2 = r.ir2 }
