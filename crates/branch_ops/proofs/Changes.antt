-- Changes that are all stores, or all changes of indicators.
use Rattle.std.proofs.Common.{◌≡◌, ℕ, List, [], ◌∷◌, ◌++◌, map, refl}
use Rattle.indicators.specs.declared.Panel.{Panel}
use Rattle.indicators.specs.Panel.{set}
use Rattle.indicators.specs.Lamps.{Lamp, panel_after}
use Rattle.digit_core.specs.Cell.{store}
use Rattle.traces.specs.Stored.{Stored, core_after}
use Rattle.traces.specs.Change.{StoresCell, Lights, core_after_changes, panel_after_changes}

-- stores change core as they do by themselves
pub core_stored : (core : List ℕ) (ss : List Stored) → core_after_changes core (map StoresCell ss) ≡ core_after core ss
core_stored core [] = refl
core_stored core (s ∷ ss) = core_stored (store core s.at s.digit) ss

-- and leave the panel
pub panel_stored : (panel : Panel) (ss : List Stored) → panel_after_changes panel (map StoresCell ss) ≡ panel
panel_stored panel [] = refl
panel_stored panel (s ∷ ss) = panel_stored panel ss

-- indicators change the panel as they do by themselves
pub panel_lit : (panel : Panel) (ls : List Lamp) → panel_after_changes panel (map Lights ls ++ []) ≡ panel_after panel ls
panel_lit panel [] = refl
panel_lit panel (l ∷ ls) = panel_lit (set l.code l.to panel) ls

-- and leave core
pub core_lit : (core : List ℕ) (ls : List Lamp) → core_after_changes core (map Lights ls ++ []) ≡ core
core_lit core [] = refl
core_lit core (l ∷ ls) = core_lit core ls
