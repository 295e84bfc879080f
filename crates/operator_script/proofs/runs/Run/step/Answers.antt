-- A step is a turn where no line is due below the limit.
use Rattle.std.proofs.Common.{◌≡◌, ◌+◌, ◌<◌, ℕ, refl, arith}
use Rattle.cpu_step.specs.declared.machine.Turned.{Turned}
use Rattle.cpu_step.specs.declared.machine.Turned.TheVariants as turned
use Rattle.cpu_step.proofs.ExactCards.{step_sound}
use Rattle.operator_script.specs.Run.{standing_of, run_state}
use Rattle.operator_script.proofs.NextStep.{running_goes}
use Rattle.operator_script.proofs.Moving.{moves_stepped, breaks_stepped}
use Rattle.operator_script.proofs.runs.Run.step.Goals as goal

on_goes : (r : Turned) → r ≡ turned.On → r ≡ turned.Failed → ⊥
on_goes r on failed = cc

not_full : (a b : ℕ) → a < b → a ≡ b → ⊥
not_full a b less same = omega (arith, less, same)

pub returns-in-On-clause-turns : goal.returns-in-On-clause-turns
returns-in-On-clause-turns g c =
    moves_stepped g.row.M c.args.self.now.limit (standing_of g.row.M c.args.self.now) (g.H.Host.seen c.args.host.now) (run_state g.row.M c.step.new.self c.args.self.now.script.now (c.args.self.now.steps + 1)) (g.H.Host.seen c.step.new.host)
    (running_goes c.args.self.now.machine.now.mode c.requires.runs) c.requires.quiet c.requires.runs (not_full c.args.self.now.steps c.args.self.now.limit c.requires.below) refl refl
    (step_sound g.row.M c.args.self.now.machine.now c.step.new.self (g.H.Host.seen c.args.host.now) (g.H.Host.seen c.step.new.host) c.step.result (on_goes c.step.result c.in-On.is) c.step.ensures)

pub returns-in-Failed-clause-turns : goal.returns-in-Failed-clause-turns
returns-in-Failed-clause-turns g c =
    breaks_stepped g.row.M c.args.self.now.limit (standing_of g.row.M c.args.self.now) (g.H.Host.seen c.args.host.now) (run_state g.row.M c.step.new.self c.args.self.now.script.now (c.args.self.now.steps + 1)) (g.H.Host.seen c.step.new.host)
    (running_goes c.args.self.now.machine.now.mode c.requires.runs) c.requires.quiet c.requires.runs c.requires.ready.within (not_full c.args.self.now.steps c.args.self.now.limit c.requires.below) refl refl c.in-Failed.ensures

pub returns-in_default-clause-turns : goal.returns-in_default-clause-turns
returns-in_default-clause-turns g c =
    moves_stepped g.row.M c.args.self.now.limit (standing_of g.row.M c.args.self.now) (g.H.Host.seen c.args.host.now) (run_state g.row.M c.step.new.self c.args.self.now.script.now (c.args.self.now.steps + 1)) (g.H.Host.seen c.step.new.host)
    (running_goes c.args.self.now.machine.now.mode c.requires.runs) c.requires.quiet c.requires.runs (not_full c.args.self.now.steps c.args.self.now.limit c.requires.below) refl refl
    (step_sound g.row.M c.args.self.now.machine.now c.step.new.self (g.H.Host.seen c.args.host.now) (g.H.Host.seen c.step.new.host) c.step.result c.in_default.not-Failed c.step.ensures)
