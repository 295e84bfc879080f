use Rattle.std.proofs.Common.{refl, sym, ◌∙◌, arith}
use Rattle.cpu_step.proofs.ExactCards.{step_sound}
use Rattle.operator_script.specs.Run.{standing_of}
use Rattle.operator_script.proofs.Turning.{due_none}
use Rattle.operator_script.proofs.Moving.{over, still, full, moves_stepped, breaks_stepped}
use Rattle.operator_script.proofs.runs.Run.turn.Goals as goal

pub returns-then-not-can_go-clause-turns : goal.returns-then-not-can_go-clause-turns
returns-then-not-can_go-clause-turns g c =
    over g.row.M c.args.self.now.limit (standing_of g.row.M c.args.self.now) (g.H.Host.seen c.args.host.now) _ c.requires.sound c.ending_at.ensures (sym c.can_go.ensures ∙ c.if-not-can_go.true)

pub act_by_script-requires : goal.act_by_script-requires
act_by_script-requires g c = (omega arith, (sym c.is_front_due.ensures ∙ c.if-is_front_due.true, (sym c.can_go.ensures ∙ c.if-not-can_go.false, (c.requires.sound, c.requires.lines))))

pub returns-then-not-is_running-clause-turns : goal.returns-then-not-is_running-clause-turns
returns-then-not-is_running-clause-turns g c =
    still g.row.M c.args.self.now.limit (standing_of g.row.M c.args.self.now) (g.H.Host.seen c.args.host.now) _ c.requires.sound c.ending_at-then-not-is_running.ensures (sym c.can_go.ensures ∙ c.if-not-can_go.false)
    (due_none _ (sym c.is_front_due.ensures ∙ c.if-is_front_due.false)) (sym c.is_running.ensures ∙ c.if-not-is_running.true)

pub returns-then-self-clause-turns : goal.returns-then-self-clause-turns
returns-then-self-clause-turns g c =
    full g.row.M c.args.self.now.limit (standing_of g.row.M c.args.self.now) (g.H.Host.seen c.args.host.now) c.requires.sound (sym c.can_go.ensures ∙ c.if-not-can_go.false)
    (due_none _ (sym c.is_front_due.ensures ∙ c.if-is_front_due.false)) (sym c.is_running.ensures ∙ c.if-not-is_running.false) c.if-self.true

pub returns-in-Failed-clause-turns : goal.returns-in-Failed-clause-turns
returns-in-Failed-clause-turns g c =
    breaks_stepped g.row.M c.args.self.now.limit _ _ _ _ (sym c.can_go.ensures ∙ c.if-not-can_go.false) (due_none _ (sym c.is_front_due.ensures ∙ c.if-is_front_due.false)) (sym c.is_running.ensures ∙ c.if-not-is_running.false)
    c.requires.within c.if-self.false refl refl c.in-Failed.ensures

pub returns-in_default-clause-turns : goal.returns-in_default-clause-turns
returns-in_default-clause-turns g c =
    moves_stepped g.row.M c.args.self.now.limit _ _ _ _ (sym c.can_go.ensures ∙ c.if-not-can_go.false) (due_none _ (sym c.is_front_due.ensures ∙ c.if-is_front_due.false)) (sym c.is_running.ensures ∙ c.if-not-is_running.false)
    c.if-self.false refl refl
    (step_sound g.row.M c.args.self.now.machine.now c.step.new.self _ _ c.step.result c.in_default.not-Failed c.step.ensures)

pub returns-in_default-clause-stepped : goal.returns-in_default-clause-stepped
returns-in_default-clause-stepped g c = (step_sound g.row.M c.args.self.now.machine.now c.step.new.self _ _ c.step.result c.in_default.not-Failed c.step.ensures).makes
