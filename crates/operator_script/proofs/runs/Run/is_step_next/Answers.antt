use Rattle.std.proofs.Common.{inl, inr, not, refl, sym, ◌∙◌}
use Rattle.operator_script.proofs.NextStep.{twice, unless_due, unless_over}
use Rattle.operator_script.proofs.runs.Run.is_step_next.Goals as goal

pub returns-then-not-is_running : goal.returns-then-not-is_running
returns-then-not-is_running g c =
    unless_over c.args.self.now.limit c.args.self.now.machine.now.mode c.args.self.now.steps _ _ refl (inl (sym c.is_running.ensures ∙ c.if-not-is_running.true))

pub returns-then-self : goal.returns-then-self
returns-then-self g c = unless_over c.args.self.now.limit c.args.self.now.machine.now.mode c.args.self.now.steps _ _ refl (inr c.if-self.true)

pub returns : goal.returns
returns g c =
    unless_due c.args.self.now.limit c.args.self.now.machine.now.mode c.args.self.now.steps _ _ (not c.is_front_due.result) (sym c.is_running.ensures ∙ c.if-not-is_running.false) c.if-self.false refl (sym c.is_front_due.ensures ∙ twice c.is_front_due.result)
