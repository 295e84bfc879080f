-- Changes of core and panel.
use Rattle.std.specs.Prelude.{ℕ, ◌≡◌, List, [], ◌∷◌, Result}
use Rattle.digit_core.specs.declared.Digit.{Digit}
use Rattle.digit_core.specs.Cell.{store}
use Rattle.indicators.specs.declared.Panel.{Panel}
use Rattle.indicators.specs.Panel.{set}
use Rattle.indicators.specs.Lamps.{Lamp, lamp_on}
use Rattle.traces.specs.Trace.{Trace, does}
use Rattle.traces.specs.Stored.{Stored}

-- a digit is stored, or an indicator changes
pub data Change : Type 0 where
  StoresCell : (s : Stored) → Change
  Lights : (l : Lamp) → Change

-- one change, and then the rest
abbrev pub store_first : {A E : Type 0} → ℕ → Digit → Trace Change A E → Trace Change A E
store_first a d t = does (StoresCell (record { at = a; digit = d })) t

abbrev pub light_first : {A E : Type 0} → ℕ → Trace Change A E → Trace Change A E
light_first code t = does (Lights (lamp_on code)) t

-- the core and the panel after some changes
abbrev pub core_after_changes : List ℕ → List Change → List ℕ
core_after_changes core [] = core
core_after_changes core (StoresCell s ∷ cs) = core_after_changes (store core s.at s.digit) cs
core_after_changes core (Lights l ∷ cs) = core_after_changes core cs

abbrev pub panel_after_changes : Panel → List Change → Panel
panel_after_changes p [] = p
panel_after_changes p (StoresCell s ∷ cs) = panel_after_changes p cs
panel_after_changes p (Lights l ∷ cs) = panel_after_changes (set l.code l.to p) cs

-- an action over core and panel was carried out
pub record Changed {A E : Type 0} (core : List ℕ) (panel : Panel) (t : Trace Change A E)
    (new : List ℕ) (new_panel : Panel) (result : Result A E) : Type 0 where
  pub leaves : new ≡ core_after_changes core t.effects
  pub shows : new_panel ≡ panel_after_changes panel t.effects
  pub answers : result ≡ t.answer
