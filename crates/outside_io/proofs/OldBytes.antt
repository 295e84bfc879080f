-- Files that lose their old bytes, one after another.
use Rattle.std.proofs.Common.{◌≡◌, ℕ, ◌+◌, ◌<◌, Bool, true, false, List, length, get_or, set, refl, sym, ◌∙◌, ap, subst, arith, get_or-set_other, get_or-set_same}
use Rattle.std.proofs.lemmas.Bool.Decides.{nat_tests}
use Rattle.std.specs.Prelude.{if◌then◌else◌, nat_lt}
use Rattle.outside_io.specs.declared.host.Unit as unit
use Rattle.outside_io.specs.World.{place, same_unit}
use Rattle.outside_io.proofs.Worlds.{same_unit-refl}

pub flag_lost : (flags : List Bool) (u v : unit.Unit) → place u < length flags
    → get_or (set flags (place u) false) (place v) false ≡ (if same_unit u v then false else get_or flags (place v) false)
flag_lost flags u v fits = grind (arith, nat_tests, get_or-set_other, get_or-set_same)

lost_stays : (b old : Bool) → old ≡ false → (if b then false else old) ≡ false
lost_stays true old none = refl
lost_stays false old none = none

-- the first units of a list have none, and then the next one
pub lost_next : (units : ℕ → unit.Unit) (n : ℕ) (u : unit.Unit) (old new : unit.Unit → Bool) → units n ≡ u → ((v : unit.Unit) → new v ≡ (if same_unit u v then false else old v))
    → ((k : ℕ) → k < n → old (units k) ≡ false) → (k : ℕ) → k < n + 1 → new (units k) ≡ false
lost_next units n u old new is loses none k within = by_test (nat_lt k n) refl
  where
    by_test : (b : Bool) → nat_lt k n ≡ b → new (units k) ≡ false
    by_test true before = let lt : k < n = grind (arith, nat_tests) in loses (units k) ∙ lost_stays (same_unit u (units k)) (old (units k)) (none k lt)
    by_test false here =
        let last : k ≡ n = grind (arith, nat_tests) in
        subst (λ (v : unit.Unit). new v ≡ false) (sym (ap units last ∙ is)) (loses u ∙ ap (λ (b : Bool). if b then false else old u) (same_unit-refl u))
