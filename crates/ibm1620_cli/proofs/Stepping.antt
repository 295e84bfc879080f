-- A run without a script, up to its limit, is the steps.
use Rattle.std.proofs.Common.{ℕ, zero, suc, ◌≡◌, ◌+◌, ◌-◌, ◌≤◌, [], refl, ap, ◌∙◌, arith}
use Rattle.cpu_step.specs.declared.machine.Mode.TheVariants.{Running}
use Rattle.cpu_step.specs.State.{State}
use Rattle.cpu_step.specs.Step.{step}
use Rattle.operator_script.specs.Turn.{last_within, last_place}
use Rattle.card_steps.specs.Steps.{after_steps}
use Rattle.ibm1620_cli.specs.Turns.{first_in}
use Rattle.ibm1620_cli.proofs.StepEvents.{place, running_turn}

last_steps : (n limit done : ℕ) (s : State) → done + n ≡ limit → ((k : ℕ) → k ≤ n → (after_steps k s).mode ≡ Running) → (last_within limit n (place s done [])).state ≡ after_steps n s
unfolding last_within after_steps
last_steps zero limit done s is running = refl
last_steps (suc n) limit done s is running =
    let here : s.mode ≡ Running = running 0 (omega arith) in
    rw (last_within, after_steps, running_turn limit done limit s [] (omega arith) (omega arith) (λ j below. refl) here) (last_steps n limit (done + 1) (step s) (omega arith) (λ k l. running (suc k) (omega arith)))

-- the last place of such a run stands after as many steps as its limit has
pub last_stands : (limit : ℕ) (s : State) → ((k : ℕ) → k ≤ limit → (after_steps k s).mode ≡ Running) → (last_place limit (first_in s [])).state ≡ after_steps limit s
last_stands limit s running =
    let e : (limit - 0) + 0 ≡ limit = omega arith in
    ap (λ (n : ℕ). (last_within limit n (place s 0 [])).state) e ∙ last_steps limit limit 0 s (omega arith) running
