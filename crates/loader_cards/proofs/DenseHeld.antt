-- Instructions of the dense deck that stand in core: addresses with a flag, and indirect ones.
use Rattle.std.proofs.Common.{ℕ, suc, ◌≡◌, ◌+◌, ◌-◌, ◌*◌, ◌%◌, ◌<◌, ◌≤◌, ◌==◌, true, false, List, [], ◌∷◌, length, get_or, refl, Ok, arith, sym, subst}
use Rattle.std.proofs.lemmas.Bool.Decides.{nat_tests}
use Rattle.digit_core.specs.declared.Digit.{Digit}
use Rattle.digit_core.specs.Cell.{IsGood, cell, unflagged_digit, with_flag}
use Rattle.addr_indirect.specs.Reading.{decimal_at, read_up}
use Rattle.addr_indirect.specs.Operand.{number_down, chain, operand}
use Rattle.addr_indirect.specs.Fetch.{fetch}
use Rattle.card_columns.specs.Orders.{address}
use Rattle.card_columns.proofs.GoodDigits.{Good}
use Rattle.card_steps.proofs.HeldDigits.{Holds, read_held, read_up_held, chain_held}

-- an instruction whose digits stand in core
pub fetch_digits : (core : List ℕ) (a : ℕ) (ds : List Digit) → Holds core a ds → Good ds → length ds ≡ 12 → (a % 2 == 1) ≡ false → fetch core a ≡ Ok (record { at = a; cells = ds })
unfolding fetch
fetch_digits core a ds h g n even =
    let up : read_up core a 12 ≡ Ok ds = subst (λ (k : ℕ). read_up core a k ≡ Ok ds) n (read_up_held ds core a h g) in
    rw (even, up) refl

pub any_decimal_held : (core : List ℕ) (a : ℕ) (d : Digit) → a < length core → get_or core a 0 ≡ cell d → IsGood d → d.value ≤ 9 → decimal_at core a ≡ Ok d
unfolding decimal_at
any_decimal_held core a d h e g l = rw (read_held core a d h e g) (grind (arith, nat_tests))

-- five decimal digits of which any may have a flag
module _ (core : List ℕ) (b : ℕ) (d0 d1 d2 d3 d4 : Digit) (h : Holds core b (d0 ∷ d1 ∷ d2 ∷ d3 ∷ d4 ∷ [])) (g : Good (d0 ∷ d1 ∷ d2 ∷ d3 ∷ d4 ∷ []))
    (l0 : d0.value ≤ 9) (l1 : d1.value ≤ 9) (l2 : d2.value ≤ 9) (l3 : d3.value ≤ 9) (l4 : d4.value ≤ 9) where
  inside : b + 5 ≤ length core
  inside = h.inside

  pub units_of : decimal_at core (b + 4) ≡ Ok d4
  units_of = any_decimal_held core (b + 4) d4 (omega (arith, inside)) (h.cells 4 (omega arith)) g.1.1.1.1.0 l4

  pub number_of : number_down core (b + 4) 5 ≡ Ok (d4.value + 10 * (d3.value + 10 * (d2.value + 10 * (d1.value + 10 * (d0.value + 10 * 0)))))
  unfolding number_down
  number_of =
      let e1 : b + 4 - 1 ≡ b + 3 = omega arith in
      let e2 : b + 3 - 1 ≡ b + 2 = omega arith in
      let e3 : b + 2 - 1 ≡ b + 1 = omega arith in
      let e4 : b + 1 - 1 ≡ b + 0 = omega arith in
      rw (
        units_of,
        e1,
        any_decimal_held core (b + 3) d3 (omega (arith, inside)) (h.cells 3 (omega arith)) g.1.1.1.0 l3,
        e2,
        any_decimal_held core (b + 2) d2 (omega (arith, inside)) (h.cells 2 (omega arith)) g.1.1.0 l2,
        e3,
        any_decimal_held core (b + 1) d1 (omega (arith, inside)) (h.cells 1 (omega arith)) g.1.0 l1,
        e4,
        any_decimal_held core (b + 0) d0 (omega (arith, inside)) (h.cells 0 (omega arith)) g.0 l0,
      )

-- the indirect address 0010U, behind which an address stands
pub indirect_held : (core : List ℕ) (b u a : ℕ) → u ≤ 9 → Holds core b (unflagged_digit 0 ∷ unflagged_digit 0 ∷ unflagged_digit 1 ∷ unflagged_digit 0 ∷ with_flag true (unflagged_digit u) ∷ []) → Holds core (96 + u) (address a []) →
    a < length core → a < 100000 → operand core (b + 4) ≡ Ok a
unfolding chain
indirect_held core b u a small h k l m =
    let good : IsGood (unflagged_digit u) = grind (arith, nat_tests) in
    let g : Good (unflagged_digit 0 ∷ unflagged_digit 0 ∷ unflagged_digit 1 ∷ unflagged_digit 0 ∷ with_flag true (unflagged_digit u) ∷ []) = (refl, (refl, (refl, (refl, (good, tt))))) in
    let here = units_of core b (unflagged_digit 0) (unflagged_digit 0) (unflagged_digit 1) (unflagged_digit 0) (with_flag true (unflagged_digit u)) h g (omega arith) (omega arith) (omega arith) (omega arith) small in
    let first = number_of core b (unflagged_digit 0) (unflagged_digit 0) (unflagged_digit 1) (unflagged_digit 0) (with_flag true (unflagged_digit u)) h g (omega arith) (omega arith) (omega arith) (omega arith) small in
    let inside : 96 + u + 5 ≤ length core = k.inside in
    let v : u + 10 * (0 + 10 * (1 + 10 * (0 + 10 * (0 + 10 * 0)))) ≡ 96 + u + 4 = omega arith in
    let e : length core ≡ suc (suc (length core - 2)) = omega arith in
    let next : chain (suc (length core - 2)) core (96 + u + 4) ≡ Ok a = chain_held core (96 + u) a k (length core - 2) l m in
    let s : chain (suc (suc (length core - 2))) core (b + 4) ≡ Ok a = rw (here, first, v) (grind (arith, nat_tests, next)) in
    subst (λ n. chain n core (b + 4) ≡ Ok a) (sym e) s

-- the address 00112 with a flag at its highest digit
pub flagged_112_held : (core : List ℕ) (b : ℕ) → Holds core b (with_flag true (unflagged_digit 0) ∷ unflagged_digit 0 ∷ unflagged_digit 1 ∷ unflagged_digit 1 ∷ unflagged_digit 2 ∷ []) → 112 < length core → operand core (b + 4) ≡ Ok 112
unfolding chain
flagged_112_held core b h l =
    let g : Good (with_flag true (unflagged_digit 0) ∷ unflagged_digit 0 ∷ unflagged_digit 1 ∷ unflagged_digit 1 ∷ unflagged_digit 2 ∷ []) = (refl, (refl, (refl, (refl, (refl, tt))))) in
    let here = units_of core b (with_flag true (unflagged_digit 0)) (unflagged_digit 0) (unflagged_digit 1) (unflagged_digit 1) (unflagged_digit 2) h g (omega arith) (omega arith) (omega arith) (omega arith) (omega arith) in
    let first = number_of core b (with_flag true (unflagged_digit 0)) (unflagged_digit 0) (unflagged_digit 1) (unflagged_digit 1) (unflagged_digit 2) h g (omega arith) (omega arith) (omega arith) (omega arith) (omega arith) in
    let e : length core ≡ suc (length core - 1) = omega arith in
    let s : chain (suc (length core - 1)) core (b + 4) ≡ Ok 112 = rw (here, first) (grind (arith, nat_tests)) in
    subst (λ n. chain n core (b + 4) ≡ Ok 112) (sym e) s
