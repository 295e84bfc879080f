-- What the turns of a machine do outside that goes on by steps alone.
use Rattle.std.proofs.Common.{ℕ, zero, suc, ◌≡◌, ◌+◌, ◌-◌, ◌≤◌, ◌<◌, List, [], ◌++◌, refl, sym, ap, ◌∙◌, arith, append_assoc}
use Rattle.std.proofs.lemmas.List.{append-nil}
use Rattle.outside_io.specs.Events.{Event}
use Rattle.cpu_step.specs.declared.machine.Mode.{Mode}
use Rattle.cpu_step.specs.declared.machine.Mode.TheVariants.{Running}
use Rattle.cpu_step.specs.Machine.{is_running}
use Rattle.cpu_step.specs.State.{UnitTexts, State}
use Rattle.cpu_step.specs.Step.{step}
use Rattle.cpu_step.specs.Load.{load_key}
use Rattle.cpu_step.specs.Outside.{load_events}
use Rattle.operator_script.specs.declared.script.ScriptLine.{ScriptLine}
use Rattle.operator_script.specs.Turn.{RunPlace, Stepped, turn, can_go, due_action}
use Rattle.operator_script.specs.Run.{IsQuiet}
use Rattle.operator_script.specs.TurnEvents.{step_events, events_within, run_events}
use Rattle.operator_script.proofs.Turning.{turn_steps, counts_differ}
use Rattle.card_steps.specs.Steps.{after_steps, events_of_steps, deck_taken}
use Rattle.ibm1620_cli.specs.Turns.{MachineFeed, first_in}
use Rattle.ibm1620_cli.specs.Program.{Program, Fits, deck_of, steps_of_deck, set_up_at_power_on}
use Rattle.ibm1620_cli.proofs.Entering.{over_powered}

abbrev pub place : State → ℕ → List ScriptLine → RunPlace
place s n lines = record { state = s; steps = n; script = lines }

-- a turn of a running machine whose front line is not due, below the limit
pub running_turn : (limit n k : ℕ) (s : State) (lines : List ScriptLine) → n < k → k ≤ limit → IsQuiet k lines → s.mode ≡ Running → turn limit (place s n lines) ≡ Stepped (place (step s) (n + 1) lines)
running_turn limit n k s lines below low none running =
    turn_steps limit (place s n lines) (ap is_running running) (counts_differ n limit (λ same. omega arith)) (ap (λ (m : Mode). due_action m n lines) running ∙ none n below) (ap can_go running)

-- turns, and then more
pub events_on : (n more limit k done : ℕ) (s : State) (lines : List ScriptLine) → done + n ≡ k → k ≤ limit → IsQuiet k lines → ((j : ℕ) → j ≤ n → (after_steps j s).mode ≡ Running)
    → events_within limit (n + more) (place s done lines) ≡ events_of_steps n s ++ events_within limit more (place (after_steps n s) k lines)
unfolding events_within after_steps events_of_steps
events_on zero more limit k done s lines e low none running =
    let same : done ≡ k = omega arith in
    let z : 0 + more ≡ more = omega arith in
    rw (same, z) refl
events_on (suc n) more limit k done s lines e low none running =
    let here : s.mode ≡ Running = running 0 (omega arith) in
    let z : suc n + more ≡ suc (n + more) = omega arith in
    let first : List Event = step_events (place s done lines) in
    rw (z, events_within, running_turn limit done k s lines (omega arith) low none here)
    (ap (λ (ds : List Event). first ++ ds) (events_on n more limit k (done + 1) (step s) lines (omega arith) low none (λ j l. running (suc j) (omega arith)))
    ∙ sym (append_assoc first (events_of_steps n (step s)) (events_within limit more (place (after_steps n (step s)) k lines))))

-- a run of so many steps
pub events_made : (n : ℕ) (s : State) → ((k : ℕ) → k ≤ n → (after_steps k s).mode ≡ Running) → run_events n (first_in s []) ≡ events_of_steps n s
unfolding events_within
events_made n s running =
    let turns : (n - 0) + 0 ≡ n + 0 = omega arith in
    ap (λ (j : ℕ). events_within n j (place s 0 [])) turns ∙ events_on n 0 n n 0 s [] (omega arith) (omega arith) (λ j below. refl) running ∙ append-nil (events_of_steps n s)

-- the Load key over a deck and the data cards, and the deck's steps, take the cards of the deck
pub program_taken : (p : Program) (feed : MachineFeed) (written : UnitTexts) → Fits p
    → load_events (set_up_at_power_on p feed written) ++ run_events (steps_of_deck p) (first_in (load_key (set_up_at_power_on p feed written)) []) ≡ deck_taken (deck_of p)
program_taken p feed written fits =
    let s : State = set_up_at_power_on p feed written in
    let over = over_powered p feed written fits in
    ap (λ (ds : List Event). load_events s ++ ds) (events_made (steps_of_deck p) (load_key s) over.running) ∙ over.takes
