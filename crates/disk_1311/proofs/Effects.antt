-- What effects leave, one after another.
use Rattle.std.proofs.Common.{◌≡◌, ℕ, List, [], ◌∷◌, ◌++◌, refl, sym, ◌∙◌, ap, arith, length, length-set}
use Rattle.std.specs.Prelude.{Option, Some, None, option_map, ⊤}
use Rattle.digit_core.specs.Cell.{store, cell}
use Rattle.indicators.specs.declared.Panel.{Panel}
use Rattle.indicators.specs.Panel.{set}
use Rattle.outside_io.specs.World.{World, Seen, with_sector}
use Rattle.traces.specs.Change.{StoresCell, Lights}
use Rattle.disk_1311.specs.Sector.{DiskEffect, Alters, SetsArm, Records, core_left}
use Rattle.disk_1311.specs.DiskCalls.{Done, panel_left, sectors_left, world_left}

core_left-append : (core : List ℕ) (es fs : List DiskEffect) → core_left core (es ++ fs) ≡ core_left (core_left core es) fs
core_left-append core [] fs = refl
core_left-append core (Alters (StoresCell s) ∷ es) fs = core_left-append (store core s.at s.digit) es fs
core_left-append core (Alters (Lights l) ∷ es) fs = core_left-append core es fs
core_left-append core (SetsArm d c ∷ es) fs = core_left-append core es fs
core_left-append core (Records a bytes ∷ es) fs = core_left-append core es fs

panel_left-append : (panel : Panel) (es fs : List DiskEffect) → panel_left panel (es ++ fs) ≡ panel_left (panel_left panel es) fs
panel_left-append panel [] fs = refl
panel_left-append panel (Alters (StoresCell s) ∷ es) fs = panel_left-append panel es fs
panel_left-append panel (Alters (Lights l) ∷ es) fs = panel_left-append (set l.code l.to panel) es fs
panel_left-append panel (SetsArm d c ∷ es) fs = panel_left-append panel es fs
panel_left-append panel (Records a bytes ∷ es) fs = panel_left-append panel es fs

sectors_left-append : (sectors : ℕ → List ℕ) (es fs : List DiskEffect) → sectors_left sectors (es ++ fs) ≡ sectors_left (sectors_left sectors es) fs
sectors_left-append sectors [] fs = refl
sectors_left-append sectors (Alters c ∷ es) fs = sectors_left-append sectors es fs
sectors_left-append sectors (SetsArm d c ∷ es) fs = sectors_left-append sectors es fs
sectors_left-append sectors (Records a bytes ∷ es) fs = sectors_left-append (with_sector a bytes sectors) es fs

-- the outside after two lists of effects
told_append : (o : Option (ℕ → List ℕ)) (es fs : List DiskEffect) → option_map (λ sectors. sectors_left sectors fs) (option_map (λ sectors. sectors_left sectors es) o) ≡ option_map (λ sectors. sectors_left sectors (es ++ fs)) o
told_append None es fs = refl
told_append (Some sectors) es fs = ap (λ (x : ℕ → List ℕ). Some x) (sym (sectors_left-append sectors es fs))

world_left-append : (w : World) (es fs : List DiskEffect) → world_left (world_left w es) fs ≡ world_left w (es ++ fs)
world_left-append w es fs = ap (λ (o : Option (ℕ → List ℕ)). record w { sectors = o }) (told_append w.sectors es fs)

-- core keeps its length
pub length_left : (core : List ℕ) (es : List DiskEffect) → length (core_left core es) ≡ length core
length_left core [] = refl
length_left core (Alters (StoresCell s) ∷ es) = length_left (store core s.at s.digit) es ∙ length-set core s.at (cell s.digit)
length_left core (Alters (Lights l) ∷ es) = length_left core es
length_left core (SetsArm d c ∷ es) = length_left core es
length_left core (Records a bytes ∷ es) = length_left core es

-- effects were done, and then more of them
pub done_on : (es fs : List DiskEffect) (core : List ℕ) (panel : Panel) (before : Seen) (mid_core : List ℕ) (mid_panel : Panel) (mid : Seen) (new : List ℕ) (new_panel : Panel) (after : Seen)
    → Done es core panel before mid_core mid_panel mid → Done fs mid_core mid_panel mid new new_panel after → Done (es ++ fs) core panel before new new_panel after
done_on es fs core panel before mid_core mid_panel mid new new_panel after first next = record {
  core_is = next.core_is ∙ ap (λ (c : List ℕ). core_left c fs) first.core_is ∙ sym (core_left-append core es fs);
  panel_is = next.panel_is ∙ ap (λ (p : Panel). panel_left p fs) first.panel_is ∙ sym (panel_left-append panel es fs);
  goes = record {
    later = omega (arith, first.goes.later, next.goes.later);
    world = next.goes.world ∙ ap (λ (w : World). world_left w fs) first.goes.world ∙ world_left-append before.world es fs;
  };
}

-- the effects change the panel alone
abbrev pub IsLights : List DiskEffect → Type 0
IsLights [] = ⊤
IsLights (Alters (StoresCell s) ∷ es) = ⊥
IsLights (Alters (Lights l) ∷ es) = IsLights es
IsLights (SetsArm d c ∷ es) = ⊥
IsLights (Records a bytes ∷ es) = ⊥

core_left-lights : (core : List ℕ) (es : List DiskEffect) → IsLights es → core_left core es ≡ core
core_left-lights core [] lights = refl
core_left-lights core (Alters (StoresCell s) ∷ es) lights = absurd lights
core_left-lights core (Alters (Lights l) ∷ es) lights = core_left-lights core es lights
core_left-lights core (SetsArm d c ∷ es) lights = absurd lights
core_left-lights core (Records a bytes ∷ es) lights = absurd lights

pub sectors_left-lights : (sectors : ℕ → List ℕ) (es : List DiskEffect) → IsLights es → sectors_left sectors es ≡ sectors
sectors_left-lights sectors [] lights = refl
sectors_left-lights sectors (Alters (StoresCell s) ∷ es) lights = absurd lights
sectors_left-lights sectors (Alters (Lights l) ∷ es) lights = sectors_left-lights sectors es lights
sectors_left-lights sectors (SetsArm d c ∷ es) lights = absurd lights
sectors_left-lights sectors (Records a bytes ∷ es) lights = absurd lights

told_lights : (o : Option (ℕ → List ℕ)) (es : List DiskEffect) → IsLights es → option_map (λ sectors. sectors_left sectors es) o ≡ o
told_lights None es lights = refl
told_lights (Some sectors) es lights = ap (λ (x : ℕ → List ℕ). Some x) (sectors_left-lights sectors es lights)

-- such effects were done
pub lights_done : (es : List DiskEffect) (core : List ℕ) (panel new_panel : Panel) (now : Seen) → IsLights es → new_panel ≡ panel_left panel es → Done es core panel now core new_panel now
lights_done es core panel new_panel now lights is = record {
  core_is = sym (core_left-lights core es lights);
  panel_is = is;
  goes = record {
    later = omega arith;
    world = ap (λ (o : Option (ℕ → List ℕ)). record now.world { sectors = o }) (sym (told_lights now.world.sectors es lights));
  };
}
