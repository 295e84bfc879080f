-- Each step leads the run on; the last of them may break off.
use Rattle.std.proofs.Common.{◌≡◌, refl, sym, ◌∙◌, arith, true}
use Rattle.cpu_step.specs.declared.machine.Mode.{Mode}
use Rattle.cpu_step.specs.declared.machine.Mode.TheVariants as mode
use Rattle.cpu_step.specs.Machine.{is_running}
use Rattle.operator_script.specs.Run.{standing_of}
use Rattle.operator_script.proofs.Running.{starts, goes_none, goes_stepped, goes_broken}
use Rattle.operator_script.proofs.runs.Run.steps_to.Goals as goal

runs_as : (m : Mode) → is_running m ≡ true → m ≡ mode.Running
runs_as mode.Running running = refl
runs_as (mode.Halted at) running = cc
runs_as (mode.Stopped kind at) running = cc
runs_as mode.Empty running = cc
runs_as mode.NoKeys running = cc
runs_as (mode.Jam u n) running = cc
runs_as mode.Faulted running = cc

pub loop-self-init : goal.loop-self-init
loop-self-init g c = record {
  same = (refl, refl, refl);
  lines = refl;
  runs = λ below. c.requires.runs (omega arith);
  goes = goes_none g.row.M c.args.self.now.limit (standing_of g.row.M c.args.self.now) (g.H.Host.seen c.args.host.now);
}

pub step-requires : goal.step-requires
step-requires g c =
    let same = c.loop-self.invariant.same in
    let ready = c.requires.ready in
    let under = (c.loop-self.invariant.goes (standing_of g.row.M c.args.self.now) (g.H.Host.seen c.args.host.now)
    (starts g.row.M c.loop-self.self.limit (standing_of g.row.M c.args.self.now) (g.H.Host.seen c.args.host.now) (rw (sym same.2) at ready.within) ready.sound ready.lines)).0 in
    let running = c.loop-self.invariant.runs (omega arith) in
    (omega arith, (record { within = under.within; sound = under.sound; lines = under.lines }, (running, (omega (arith, same.2), rw (runs_as c.loop-self.self.machine.now.mode running, c.loop-self.invariant.lines) (c.requires.quiet c.loop-self.self.steps (omega arith))))))

pub loop-self-preserved : goal.loop-self-preserved
loop-self-preserved g c =
    let same = c.loop-self.invariant.same in
    let next = c.step.ensures.same in
    record {
      same = (next.0 ∙ same.0, next.1 ∙ same.1, next.2 ∙ same.2);
      lines = c.step.ensures.lines ∙ c.loop-self.invariant.lines;
      runs = λ below. c.step.ensures.runs_on c.in-RunsOn.is;
      goes = rw (next.2) (goes_stepped g.row.M c.loop-self.self.limit _ _ _ _ _ _ c.loop-self.invariant.goes (rw c.in-RunsOn.is at c.step.ensures.turns));
    }

pub loop-self-smaller : goal.loop-self-smaller
loop-self-smaller g c = omega (arith, c.step.ensures.count, c.loop-self-test.true)

pub returns-in-Rests-clause-goes : goal.returns-in-Rests-clause-goes
returns-in-Rests-clause-goes g c = λ e. rw (sym c.loop-self.invariant.same.2) (goes_stepped g.row.M c.loop-self.self.limit _ _ _ _ _ _ c.loop-self.invariant.goes (rw c.in-Rests.is at c.step.ensures.turns))

pub returns-in-Failed-clause-fails : goal.returns-in-Failed-clause-fails
returns-in-Failed-clause-fails g c = λ e. rw (sym c.loop-self.invariant.same.2) (goes_broken g.row.M c.loop-self.self.limit _ _ _ _ _ _ c.loop-self.invariant.goes (rw c.in-Failed.is at c.step.ensures.turns))

pub returns-clause-goes : goal.returns-clause-goes
returns-clause-goes g c = λ e. rw (sym c.loop-self.invariant.same.2) c.loop-self.invariant.goes
