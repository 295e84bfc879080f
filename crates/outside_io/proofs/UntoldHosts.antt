-- A host that tells nothing keeps telling nothing.
use Rattle.std.proofs.Common.{◌≡◌, ℕ, ◌<◌, Bool, true, false, List, [], ◌++◌, length, drop, get_or, set, refl, sym, ap, arith, get_or-set_other, get_or-set_same}
use Rattle.std.proofs.Math.Path.{fun_ext}
use Rattle.std.proofs.lemmas.Bool.Decides.{nat_tests}
use Rattle.std.specs.Prelude.{Option, None, option_map, if◌then◌else◌}
use Rattle.outside_io.specs.declared.host.Unit as unit
use Rattle.outside_io.specs.declared.host.Unit.TheVariants.{Source}
use Rattle.outside_io.specs.declared.host.TheConstants.{UNIT_COUNT}
use Rattle.outside_io.specs.World.{World, Readings, asked_after, place, same_unit, is_input, is_output, is_pack, sectors_after_binding, at, world_after_put, world_after_take, world_after_binding}
use Rattle.outside_io.specs.declared.names.BoundNames.{BoundNames}
use Rattle.outside_io.specs.Names.{KeepsName}
use Rattle.outside_io.specs.Real.{untold}
use Rattle.outside_io.proofs.Worlds.{Texts}

abbrev pub nothing : Texts
nothing = λ u. None

at_nothing : {A : Type 0} (u : unit.Unit) (f : Option A → Option A) → f None ≡ None → at u f (λ v. None) ≡ (λ v. None)
at_nothing u f same = fun_ext (λ v. elim (same_unit u v) as (λ b. (if b then f None else None) ≡ None) [ true ↦ same | false ↦ refl ])

pub untold-taken : (bound : List Bool) (names : BoundNames) (u : unit.Unit) (r : Readings) → world_after_take u r (untold bound names) ≡ untold bound names
untold-taken bound names u r =
    let lefts : at u (option_map (drop (length r.bytes))) nothing ≡ nothing = at_nothing u (option_map (drop (length r.bytes))) refl in
    let askings : at u (option_map (asked_after r)) (λ v. None) ≡ (λ v. None) = at_nothing u (option_map (asked_after r)) refl in
    λ i. record (untold bound names) { left = lefts i; asked = askings i }

pub untold-added : (bound : List Bool) (names : BoundNames) (u : unit.Unit) (bytes : List ℕ) → world_after_put u bytes (untold bound names) ≡ untold bound names
untold-added bound names u bytes = ap (λ (texts : Texts). record (untold bound names) { written = texts }) (at_nothing u (option_map (λ text. text ++ bytes)) refl)

pub flag_set : (bound : List Bool) (u v : unit.Unit) → place u < length bound
    → get_or (set bound (place u) true) (place v) false ≡ (if same_unit u v then true else get_or bound (place v) false)
flag_set bound u v fits = grind (arith, nat_tests, get_or-set_other, get_or-set_same)

-- two worlds that agree in each part
pub same_world : (v w : World) → v.file ≡ w.file → v.in_use ≡ w.in_use → v.names ≡ w.names → v.left ≡ w.left → v.written ≡ w.written → v.sectors ≡ w.sectors → v.asked ≡ w.asked → v.limits ≡ w.limits → v ≡ w
same_world v w file in_use names left written sectors asked limits = λ i. record { in_use = in_use i; names = names i; file = file i; left = left i; written = written i; sectors = sectors i; asked = asked i; limits = limits i }

-- sectors that are not told stay untold
pub untold_pack : (u : unit.Unit) (file : Option (List ℕ)) → (let none : Option (ℕ → List ℕ) = None in none ≡ (if is_pack u then sectors_after_binding file none else none))
untold_pack u file = elim (is_pack u) as (λ b. let none : Option (ℕ → List ℕ) = None in none ≡ (if b then sectors_after_binding file none else none)) [ true ↦ refl | false ↦ refl ]

pub untold-bound : (bound : List Bool) (old new : BoundNames) (u : unit.Unit) (name : List ℕ) → place u < length bound → KeepsName old new u name → untold (set bound (place u) true) new ≡ world_after_binding u name (untold bound old)
untold-bound bound old new u name fits keeps =
    let flags : (λ v. get_or (set bound (place u) true) (place v) false) ≡ (λ v. if same_unit u v then true else get_or bound (place v) false) = fun_ext (λ v. flag_set bound u v fits) in
    let lefts : nothing ≡ (if is_input u then at u (λ t. None) nothing else nothing) =
    elim (is_input u) as (λ b. nothing ≡ (if b then at u (λ t. None) nothing else nothing)) [ true ↦ sym (at_nothing u (λ t. None) refl) | false ↦ refl ] in
    let writtens : nothing ≡ (if is_output u then at u (option_map (λ t. [])) nothing else nothing) =
    elim (is_output u) as (λ b. nothing ≡ (if b then at u (option_map (λ t. [])) nothing else nothing)) [ true ↦ sym (at_nothing u (option_map (λ t. [])) refl) | false ↦ refl ] in
    same_world _ _ refl flags (fun_ext keeps) lefts writtens (untold_pack u None) refl refl

pub place_below : (u : unit.Unit) → place u < UNIT_COUNT
place_below Source = omega arith
place_below u = omega arith

-- the number that a call gave as a unit's place
pub given_below : (u : unit.Unit) (n : ℕ) → n ≡ place u → n < UNIT_COUNT
given_below u n is = rw is (place_below u)

pub nothing_cleared : (u : unit.Unit) → nothing ≡ (if is_output u then at u (option_map (λ t. [])) nothing else nothing)
nothing_cleared u = elim (is_output u) as (λ b. nothing ≡ (if b then at u (option_map (λ t. [])) nothing else nothing)) [ true ↦ sym (at_nothing u (option_map (λ t. [])) refl) | false ↦ refl ]
