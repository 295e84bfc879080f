-- What the instruction comes to says what its step may store.
use Rattle.std.proofs.Common.{refl, arith}
use Rattle.branch_ops.specs.Fields.{fields_at}
use Rattle.cpu_step.proofs.StepStores.{row_says, known_step, stores_below}
use Rattle.cpu_step.proofs.Quick.{in_size}
use Rattle.cpu_step.proofs.machine.Machine.stores.Goals as goal

pub returns-in-B-clause-is : goal.returns-in-B-clause-is
returns-in-B-clause-is g c =
    let says = row_says _ _ _ _ _ _ _ (c.in-B.ensures.comes.to_b c.in-B.p refl) in
    says

pub returns-in-B-clause-within : goal.returns-in-B-clause-within
returns-in-B-clause-within g c =
    let steps = known_step _ _ _ _ _ _ _ (c.in-B.ensures.comes.to_b c.in-B.p refl) in
    steps

pub at-requires : goal.at-requires
at-requires g c =
    let k = c.in-Row.ensures.comes.to_row _ c.in-Row.fields refl in
    in_size g.row.M c.args.self.now.core c.args.self.now.regs.ir c.size_law.ensures.is_size c.size_law.ensures.length k.inside

pub returns-in-Row-clause-is : goal.returns-in-Row-clause-is
returns-in-Row-clause-is g c =
    rw (c.stores_by.ensures, c.at.ensures)
    (row_says _ _ _ _ _ c.in-Row.fields.stores (fields_at c.args.self.now.regs.ir c.in-Row.fields) (c.in-Row.ensures.comes.to_row _ c.in-Row.fields refl))

pub returns-in-Row-clause-below : goal.returns-in-Row-clause-below
returns-in-Row-clause-below g c =
    let k = c.in-Row.ensures.comes.to_row _ c.in-Row.fields refl in
    let p = k.p_inside in
    let q = k.q_inside in
    let l = c.size_law.ensures.length in
    rw (c.stores_by.ensures, c.at.ensures) (stores_below c.in-Row.fields.stores (fields_at c.args.self.now.regs.ir c.in-Row.fields) _ (omega arith) (omega arith))

pub returns-in-Row-clause-within : goal.returns-in-Row-clause-within
returns-in-Row-clause-within g c =
    rw (c.stores_by.ensures, c.at.ensures)
    (known_step _ _ _ _ _ c.in-Row.fields.stores (fields_at c.args.self.now.regs.ir c.in-Row.fields) (c.in-Row.ensures.comes.to_row _ c.in-Row.fields refl))

pub at-requires-in-Branch : goal.at-requires-in-Branch
at-requires-in-Branch g c =
    let k = c.in-Branch.ensures.comes.to_branch _ c.in-Branch.fields _ refl in
    in_size g.row.M c.args.self.now.core c.args.self.now.regs.ir c.size_law.ensures.is_size c.size_law.ensures.length k.inside

pub returns-in-Branch-clause-is : goal.returns-in-Branch-clause-is
returns-in-Branch-clause-is g c =
    rw (c.stores_by-in-Branch.ensures, c.at-in-Branch.ensures)
    (row_says _ _ _ _ _ c.in-Branch.fields.stores (fields_at c.args.self.now.regs.ir c.in-Branch.fields) (c.in-Branch.ensures.comes.to_branch _ c.in-Branch.fields _ refl))

pub returns-in-Branch-clause-below : goal.returns-in-Branch-clause-below
returns-in-Branch-clause-below g c =
    let k = c.in-Branch.ensures.comes.to_branch _ c.in-Branch.fields _ refl in
    let p = k.p_inside in
    let q = k.q_inside in
    let l = c.size_law.ensures.length in
    rw (c.stores_by-in-Branch.ensures, c.at-in-Branch.ensures) (stores_below c.in-Branch.fields.stores (fields_at c.args.self.now.regs.ir c.in-Branch.fields) _ (omega arith) (omega arith))

pub returns-in-Branch-clause-within : goal.returns-in-Branch-clause-within
returns-in-Branch-clause-within g c =
    rw (c.stores_by-in-Branch.ensures, c.at-in-Branch.ensures)
    (known_step _ _ _ _ _ c.in-Branch.fields.stores (fields_at c.args.self.now.regs.ir c.in-Branch.fields) (c.in-Branch.ensures.comes.to_branch _ c.in-Branch.fields _ refl))
