-- A row is carried out over what its fields hold; what is not known is decoded.
use Rattle.std.proofs.Common.{refl, sym, ◌∙◌, arith}
use Rattle.cpu_step.specs.Act.{act_over}
use Rattle.cpu_step.specs.Known.{found_with, uses_at}
use Rattle.cpu_step.specs.Step.{instruction}
use Rattle.cpu_step.proofs.ShownStates.{acts_as, row_acts, held_act}
use Rattle.cpu_step.proofs.Quick.{memo_apart}
use Rattle.cpu_step.proofs.machine.Machine.through_chains.Goals as goal

pub act-requires : goal.act-requires
act-requires g c =
    let l = c.size_law.ensures.length in
    let k = c.in-Chained.ensures.comes.to_chained c.in-Chained.row c.in-Chained.fields refl in
    let inside = k.inside in
    (omega arith, (omega arith, k.odd))

pub returns-in-Chained : goal.returns-in-Chained
returns-in-Chained g c =
    let k = c.in-Chained.ensures.comes.to_chained c.in-Chained.row c.in-Chained.fields refl in
    let uses = uses_at c.args.self.now.regs.ir c.in-Chained.ensures.low c.in-Chained.ensures.high in
    let found = found_with c.in-Chained.row uses c.in-Chained.fields.stores in
    memo_apart g.row.M instruction c.args.self.now c.act.new.self c.look.new.self _ (g.H.Host.seen c.args.host.now) (g.H.Host.seen c.act.new.host) c.act.result
    (acts_as g.row.M (act_over c.in-Chained.row c.in-Chained.fields) instruction (record c.args.self.now { memo = c.look.new.self; keys_are = _ }) c.act.new.self (g.H.Host.seen c.args.host.now) (g.H.Host.seen c.act.new.host)
    (λ s shown. row_acts g.row.M _ _ s shown _ found (sym k.fetched) (sym k.row_is) ∙ held_act g.row.M _ _ s shown found c.in-Chained.fields k.operands_are) c.act.result c.act.ensures)
