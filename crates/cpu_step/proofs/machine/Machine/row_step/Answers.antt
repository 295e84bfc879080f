-- What the row did ends the step.
use Rattle.std.proofs.Common.{refl, ap, arith}
use Rattle.std.specs.Prelude.{Ok}
use Rattle.cpu_step.specs.declared.machine.Outcome.TheVariants as outcome
use Rattle.cpu_step.specs.declared.rows.Row.TheVariants as row
use Rattle.field_moves.specs.Move.{move_of}
use Rattle.feature_ops.specs.Feature.{feature_of}
use Rattle.cpu_step.specs.Act.{Continues, Halts, regs_on, action}
use Rattle.traces.specs.Trace.{ends}
use Rattle.cpu_step.specs.State.{State}
use Rattle.cpu_step.proofs.ShownStates.{did_nothing, did_as}
use Rattle.cpu_step.proofs.Parts.{move_acts, sum_acts, comparison_acts}
use Rattle.cpu_step.proofs.machine.Machine.row_step.Goals as goal

pub returns-in-Sum : goal.returns-in-Sum
unfolding action
returns-in-Sum g c = λ old running acts.
    c.settle.ensures old (g.H.Host.seen c.args.host.now) (g.H.Host.seen c.args.host.now) running (acts _ c.core_outcome.result
    (rw (c.in-Sum.is, c.core_outcome.ensures, c.next-regs.ensures)
    (sum_acts g.row.M c.args.self.now _ (g.H.Host.seen c.args.host.now) refl refl refl refl refl c.in-Sum.kind c.args.o.p c.args.o.q c.add-answer.result c.add-answer.ensures.cycles)))

pub returns-in-Compare : goal.returns-in-Compare
unfolding action
returns-in-Compare g c = λ old running acts.
    c.settle-in-Compare.ensures old (g.H.Host.seen c.args.host.now) (g.H.Host.seen c.args.host.now) running (acts _ c.core_outcome-in-Compare.result
    (rw (c.in-Compare.is, c.core_outcome-in-Compare.ensures, c.next-regs.ensures)
    (comparison_acts g.row.M c.args.self.now _ (g.H.Host.seen c.args.host.now) refl refl refl refl refl c.args.o.p c.args.o.q c.compare-answer.result refl c.compare-answer.ensures.cycles)))

pub returns-in-Move : goal.returns-in-Move
unfolding action
returns-in-Move g c = λ old running acts.
    c.settle-in-Move.ensures old (g.H.Host.seen c.args.host.now) (g.H.Host.seen c.args.host.now) running (acts _ c.core_outcome-in-Move.result
    (rw (c.in-Move.is, c.core_outcome-in-Move.ensures, c.next-regs.ensures)
    (move_acts g.row.M c.args.self.now _ (g.H.Host.seen c.args.host.now) refl refl refl refl refl (λ core. move_of c.in-Move.op core c.args.o.p c.args.o.q) c.make_move-answer.result refl c.make_move-answer.ensures)))

pub returns-in-Feature : goal.returns-in-Feature
unfolding action
returns-in-Feature g c = λ old running acts.
    c.settle-in-Feature.ensures old (g.H.Host.seen c.args.host.now) (g.H.Host.seen c.args.host.now) running (acts _ c.core_outcome-in-Feature.result
    (rw (c.in-Feature.is, c.core_outcome-in-Feature.ensures, c.next-regs.ensures)
    (move_acts g.row.M c.args.self.now _ (g.H.Host.seen c.args.host.now) refl refl refl refl refl (λ core. feature_of c.in-Feature.op core c.args.o.p c.args.o.q) c.do_feature-answer.result refl c.do_feature-answer.ensures)))

pub returns-in-InOut : goal.returns-in-InOut
unfolding action
returns-in-InOut g c = λ old running acts. c.in_out_step.ensures old running (λ mid outcome acted. acts mid outcome (rw c.in-InOut.is acted))

pub returns-in-Branch : goal.returns-in-Branch
unfolding action
returns-in-Branch g c = λ old running acts.
    (rw c.tested.ensures at c.unkept_branch_step.ensures) (g.H.Host.seen c.args.host.now) old running (λ mid outcome acted. acts mid outcome (rw c.in-Branch.is (acted (g.H.Host.seen c.args.host.now))))

pub unkept_branch_step-requires : goal.unkept_branch_step-requires
unkept_branch_step-requires g c = rw c.tested.ensures (omega arith, (c.requires.p, (c.requires.q, c.requires.ir)))

pub returns-in-Nop : goal.returns-in-Nop
unfolding action
returns-in-Nop g c = λ old running acts.
    c.settle-in-Nop.ensures old (g.H.Host.seen c.args.host.now) (g.H.Host.seen c.args.host.now) running (acts c.args.self.now (outcome.Goes c.next-regs.result)
    (rw (c.in-Nop.is, c.next-regs.ensures)
    (did_as g.row.M _ (action row.Nop c.args.o) _ _ _ _ (λ s shown. ap (λ (x : State). ends (Ok (Continues (regs_on x)))) shown.is) _ (did_nothing g.row.M c.args.self.now _ (Ok (Continues _))))))

pub returns-in-H : goal.returns-in-H
unfolding action
returns-in-H g c = λ old running acts.
    c.settle-in-H.ensures old (g.H.Host.seen c.args.host.now) (g.H.Host.seen c.args.host.now) running (acts c.args.self.now (outcome.Halts c.next-regs.result)
    (rw (c.in-H.is, c.next-regs.ensures)
    (did_as g.row.M _ (action row.H c.args.o) _ _ _ _ (λ s shown. ap (λ (x : State). ends (Ok (Halts (regs_on x)))) shown.is) _ (did_nothing g.row.M c.args.self.now _ (Ok (Halts _))))))
