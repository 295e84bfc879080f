-- What is taken in, and what is told of it.
use Rattle.std.proofs.Common.{◌≡◌, ℕ, List, [], ◌∷◌, map, refl, ap}
use Rattle.std.specs.Prelude.{Option, Some, None, option_map}
use Rattle.digit_core.specs.Cell.{store}
use Rattle.indicators.specs.declared.Panel.{Panel}
use Rattle.indicators.specs.Panel.{set}
use Rattle.outside_io.specs.Frame.{Tells}
use Rattle.traces.specs.Change.{Change, StoresCell, Lights, core_after_changes, panel_after_changes}
use Rattle.card_code.specs.Entries.{Entry, behind}
use Rattle.card_code.specs.TextIn.{Changes, desk_after}

-- changes of core and panel, as effects of a reading
pub changes_in : (changes : List Change) (core : List ℕ) (panel : Panel) (left : List Entry)
    → desk_after (record { core = core; panel = panel; left = left }) (map Changes changes) ≡ record { core = core_after_changes core changes; panel = panel_after_changes panel changes; left = left }
changes_in [] core panel left = refl
changes_in (StoresCell s ∷ changes) core panel left = changes_in changes (store core s.at s.digit) panel left
changes_in (Lights l ∷ changes) core panel left = changes_in changes core (set l.code l.to panel) left

-- where some entries are the told ones, what is behind their front is told too
pub behind_told : (told : Option (List Entry)) (given : List Entry) → Tells told given → option_map behind told ≡ option_map (λ es. behind given) told
behind_told None given is = refl
behind_told (Some es) given is = ap (λ (x : List Entry). Some (behind x)) is

-- and so are they
pub same_told : (told : Option (List Entry)) (given : List Entry) → Tells told given → told ≡ option_map (λ es. given) told
same_told None given is = refl
same_told (Some es) given is = ap (λ (x : List Entry). Some x) is
