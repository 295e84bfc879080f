-- What a deck does, in both of its forms.
use Rattle.std.proofs.Common.{ℕ, ◌≡◌, ◌<◌, ◌≤◌, List, ◌++◌, length, map, All}
use Rattle.digit_core.specs.Size.{IsSize, size}
use Rattle.indicators.specs.Panel.{set}
use Rattle.indicators.specs.Lamps.{panel_for_load}
use Rattle.branch_ops.specs.Registers.{on_at}
use Rattle.card_code.specs.Entries.{Entry, Text, has_none_left}
use Rattle.indicators.specs.Codes.{LAST_CARD}
use Rattle.cpu_step.specs.declared.machine.Mode.TheVariants.{Running}
use Rattle.cpu_step.specs.State.{State}
use Rattle.cpu_step.specs.Load.{load_key}
use Rattle.sps_pass_two.specs.Image.{DigitRun}
use Rattle.sps_pass_two.specs.Kept.{IsPiece, IsRunBelow, lowest_declared}
use Rattle.deck_punch.specs.declared.form.DeckForm.{DeckForm}
use Rattle.deck_punch.specs.declared.form.DeckForm.TheVariants.{SelfLoading, Dense}
use Rattle.loader_cards.specs.ObjectDeck.{deck_in, deck_steps}
use Rattle.deck_punch.specs.Overlay.{overlay}
use Rattle.card_steps.specs.Steps.{after_steps}
use Rattle.loader_cards.specs.Loads.{Loads}
use Rattle.loader_cards.proofs.DeckOverlay.{loads, loaded_from}
use Rattle.loader_cards.proofs.DenseDeck.{dense_loads, dense_loaded_from}

pub loads_in : (form : DeckForm) (image : List DigitRun) (start : ℕ) → All IsPiece image → All (λ r. lowest_declared ≤ r.from) image
    → Loads (deck_in form image start) image start (deck_steps form (length (deck_in form image start)))
loads_in SelfLoading = loads
loads_in Dense = dense_loads

pub loaded_in : (form : DeckForm) (image : List DigitRun) (start m : ℕ) (s : State) (rest : List Entry) → All IsPiece image → All (λ r. lowest_declared ≤ r.from) image → IsSize m → length s.core ≡ size m → All (IsRunBelow (size m)) image → start < size m
    → s.hopper ≡ map Text (deck_in form image start) ++ rest
    → after_steps (deck_steps form (length (deck_in form image start))) (load_key s) ≡ record s { core = overlay s.core image start; regs = on_at s.regs start; panel = set LAST_CARD (has_none_left rest) (panel_for_load s.panel); hopper = rest; mode = Running }
loaded_in SelfLoading = loaded_from
loaded_in Dense = dense_loaded_from
