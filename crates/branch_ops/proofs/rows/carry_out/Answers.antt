-- The operands stop, or the branch goes on over them.
use Rattle.std.proofs.Common.{refl, sym}
use Rattle.instruction_table.specs.declared.MayStore.TheVariants.{Anywhere}
use Rattle.branch_ops.specs.Branch.{branch}
use Rattle.branch_ops.proofs.KnownOperands.{only_stops}
use Rattle.branch_ops.proofs.rows.carry_out.Goals as goal

pub returns-in-Err-clause-row : goal.returns-in-Err-clause-row
unfolding branch
returns-in-Err-clause-row g c =
    let works = sym (c.in-Err.ensures.is c.uses_by.result Anywhere c.args.i.now c.requires.fetched c.of-fields.ensures) in
    only_stops c.args.core.now c.args.panel.now c.args.regs.now _ _ (rw (← c.operands_used-column.ensures, ← c.uses_by.ensures, works) refl)

pub returns-in-Ok-clause-row : goal.returns-in-Ok-clause-row
unfolding branch
returns-in-Ok-clause-row g c =
    let works = sym (c.in-Ok.ensures.is c.uses_by.result Anywhere c.args.i.now c.requires.fetched c.of-fields.ensures) in
    rw (← c.operands_used-column.ensures, ← c.uses_by.ensures, works, ← c.code_by.ensures, ← c.tested.ensures) c.branch_known.ensures.row
