use Rattle.std.proofs.Common.{refl, sym, ap, ◌∙◌}
use Rattle.std.specs.Prelude.{Some, None, Ok, Err}
use Rattle.card_code.specs.Break.{StopsBy, Empty, NoKeys, JamsAt}
use Rattle.cpu_step.specs.Act.{Continues, Halts}
use Rattle.cpu_step.specs.Step.{instruction}
use Rattle.cpu_step.specs.Machine.{turned_to}
use Rattle.cpu_step.proofs.ShownStates.{did_mode, step_made, step_stops, checked_by, step_fails}
use Rattle.cpu_step.proofs.machine.Machine.settle.Goals as goal

pub returns-in-None : goal.returns-in-None
returns-in-None g c = λ old before later running acts. record {
  answers = sym (ap turned_to (did_mode g.row.M instruction old c.args.self.now _ _ _ (rw c.in-Goes.is at acts) ∙ running));
  makes = step_made g.row.M _ c.args.self.now _ _ _ (Ok (Continues c.in-Goes.regs)) (rw c.in-Goes.is at acts) refl refl (checked_by g.row.M c.args.self.now (Continues c.in-Goes.regs) None c.in-None.ensures);
}

pub returns-in-Some : goal.returns-in-Some
returns-in-Some g c = λ old before later running acts.
    step_stops g.row.M _ c.args.self.now _ _ _ (Ok (Continues c.in-Goes.regs)) c.in-Some.kind _ (rw c.in-Goes.is at acts) (checked_by g.row.M c.args.self.now (Continues c.in-Goes.regs) (Some c.in-Some.kind) c.in-Some.ensures) c.stop.ensures.answers c.stop.ensures.leaves

pub returns-in-None-check_stop : goal.returns-in-None-check_stop
returns-in-None-check_stop g c = λ old before later running acts. record {
  answers = refl;
  makes = step_made g.row.M _ c.args.self.now _ _ _ (Ok (Halts c.in-Halts.regs)) (rw c.in-Halts.is at acts) refl refl (checked_by g.row.M c.args.self.now (Halts c.in-Halts.regs) None c.in-None-check_stop.ensures);
}

pub returns-in-Some-check_stop : goal.returns-in-Some-check_stop
returns-in-Some-check_stop g c = λ old before later running acts.
    step_stops g.row.M _ c.args.self.now _ _ _ (Ok (Halts c.in-Halts.regs)) c.in-Some-check_stop.kind _ (rw c.in-Halts.is at acts) (checked_by g.row.M c.args.self.now (Halts c.in-Halts.regs) (Some c.in-Some-check_stop.kind) c.in-Some-check_stop.ensures) c.stop-in-Some-check_stop.ensures.answers c.stop-in-Some-check_stop.ensures.leaves

pub returns-in-Stops : goal.returns-in-Stops
returns-in-Stops g c = λ old before later running acts. step_stops g.row.M _ c.args.self.now _ _ _ (Err (StopsBy c.in-Stops.kind)) c.in-Stops.kind _ (rw c.in-Stops.is at acts) (λ w h k p. refl) c.stop-in-Stops.ensures.answers c.stop-in-Stops.ensures.leaves

pub returns-in-Empty : goal.returns-in-Empty
returns-in-Empty g c = λ old before later running acts. record { answers = refl; makes = step_made g.row.M _ c.args.self.now _ _ _ (Err Empty) (rw c.in-Empty.is at acts) refl refl (λ w h k p. refl) }

pub returns-in-NoKeys : goal.returns-in-NoKeys
returns-in-NoKeys g c = λ old before later running acts. record { answers = refl; makes = step_made g.row.M _ c.args.self.now _ _ _ (Err NoKeys) (rw c.in-NoKeys.is at acts) refl refl (λ w h k p. refl) }

pub returns-in-Jam : goal.returns-in-Jam
returns-in-Jam g c = λ old before later running acts. record { answers = refl; makes = step_made g.row.M _ c.args.self.now _ _ _ (Err (JamsAt c.in-Jam.unit c.in-Jam.line)) (rw c.in-Jam.is at acts) refl refl (λ w h k p. refl) }

pub returns-in-Fails : goal.returns-in-Fails
returns-in-Fails g c = λ old before later running acts. step_fails g.row.M _ c.args.self.now _ _ _ (rw c.in-Fails.is at acts) refl refl (λ w h k p. refl)
