-- Steps, one after another, and the events of the loading of a deck.
use Rattle.std.specs.Prelude.{ℕ, zero, suc, List, [], ◌++◌, map}
use Rattle.outside_io.specs.Events.{Event, TakeCard}
use Rattle.cpu_step.specs.State.{State}
use Rattle.cpu_step.specs.Step.{instruction, step}
use Rattle.cpu_step.specs.Load.{load_key}
use Rattle.cpu_step.specs.Outside.{all_outside, load_events}

-- the state after n steps
unfoldable pub after_steps : ℕ → State → State
after_steps zero s = s
after_steps (suc n) s = after_steps n (step s)

-- the events of n steps, by the instruction table
unfoldable pub events_of_steps : ℕ → State → List Event
events_of_steps zero s = []
events_of_steps (suc n) s = all_outside (instruction s).effects ++ events_of_steps n (step s)

-- the events of the Load key and of n steps after it
abbrev pub events_of_load : ℕ → State → List Event
events_of_load n s = load_events s ++ events_of_steps n (load_key s)

-- each card of a deck is taken
abbrev pub deck_taken : List (List ℕ) → List Event
deck_taken deck = map (λ card. TakeCard) deck
