-- Steps that take cards, and do nothing else outside.
use Rattle.std.proofs.Common.{ℕ, ◌≡◌, List, [], ◌∷◌, ◌++◌, map, refl, ap, ◌∙◌, append_assoc, subst}
use Rattle.std.proofs.lemmas.List.{append_cancel_right, map-append}
use Rattle.outside_io.specs.Events.{Event, TakeCard}
use Rattle.traces.specs.Stored.{Stored}
use Rattle.traces.specs.Change.{Change, StoresCell, Lights}
use Rattle.card_code.specs.Entries.{Entry, Text}
use Rattle.card_code.specs.TextIn.{Changes}
use Rattle.cpu_step.specs.State.{State}
use Rattle.cpu_step.specs.Effects.{CellStored, of_cards}
use Rattle.cpu_step.specs.Step.{instruction, step}
use Rattle.cpu_step.specs.Outside.{all_outside}
use Rattle.card_steps.specs.Steps.{deck_taken}

-- each entry of a hopper is taken
abbrev pub hopper_taken : List Entry → List Event
hopper_taken hopper = map (λ entry. TakeCard) hopper

-- between two hoppers these events take each entry that is gone, and are no others
abbrev pub AreTaken : List Event → List Entry → List Entry → Type 0
AreTaken ds before after = ds ++ hopper_taken after ≡ hopper_taken before

pub taken_then : (ds es : List Event) (before between after : List Entry) → AreTaken ds before between → AreTaken es between after → AreTaken (ds ++ es) before after
taken_then ds es before between after first second = append_assoc ds es (hopper_taken after) ∙ ap (λ (fs : List Event). ds ++ fs) second ∙ first

-- where a deck is gone, they take its cards
pub deck_gone : (ds : List Event) (deck : List (List ℕ)) (hopper rest : List Entry) → hopper ≡ map Text deck ++ rest → AreTaken ds hopper rest → ds ≡ deck_taken deck
deck_gone ds deck hopper rest is taken =
    append_cancel_right ds (deck_taken deck) (hopper_taken rest) (taken ∙ ap hopper_taken is ∙ map-append (λ entry. TakeCard) (map Text deck) rest ∙ ap (λ (fs : List Event). fs ++ hopper_taken rest) (texts_taken deck))
  where
    texts_taken : (cards : List (List ℕ)) → hopper_taken (map Text cards) ≡ deck_taken cards
    texts_taken [] = refl
    texts_taken (c ∷ cs) = ap (λ (fs : List Event). TakeCard ∷ fs) (texts_taken cs)

-- what stays in core does nothing outside
pub cells_outside : (ss : List Stored) → all_outside (map CellStored ss) ≡ []
cells_outside [] = refl
cells_outside (s ∷ ss) = cells_outside ss

pub changes_outside : (cs : List Change) → all_outside (map of_cards (map Changes cs)) ≡ []
changes_outside [] = refl
changes_outside (StoresCell s ∷ cs) = changes_outside cs
changes_outside (Lights l ∷ cs) = changes_outside cs

-- a step leads to a state, and does nothing outside but the taking of cards
pub record Row (s t : State) : Type 0 where
  pub steps : step s ≡ t
  pub takes : AreTaken (all_outside (instruction s).effects) s.hopper t.hopper

pub row_to : (s t u : State) → Row s t → t ≡ u → Row s u
row_to s t u row is = record { steps = row.steps ∙ is; takes = subst (λ (x : State). AreTaken (all_outside (instruction s).effects) s.hopper x.hopper) is row.takes }
