-- Digits that stand in core, and what reading them gives.
use Rattle.std.proofs.Common.{ℕ, zero, suc, ◌≡◌, ◌+◌, ◌-◌, ◌*◌, ◌/◌, ◌%◌, ◌<◌, ◌≤◌, ◌==◌, List, [], ◌∷◌, length, get_or, take, drop, false, refl, Ok, arith, length-take, length-drop, sym, subst, ◌∙◌}
use Rattle.std.proofs.lemmas.List.{get_or-take, get_or-drop}
use Rattle.std.proofs.lemmas.Bool.Decides.{nat_tests}
use Rattle.digit_core.specs.declared.Digit.{Digit}
use Rattle.digit_core.specs.Cell.{IsGood, cell, unflagged_digit}
use Rattle.digit_core.proofs.Digits.{read_cell-cell}
use Rattle.addr_indirect.specs.Reading.{read_at, decimal_at, read_up}
use Rattle.addr_indirect.specs.Operand.{number_down, chain, operand}
use Rattle.addr_indirect.specs.Fetch.{fetch}
use Rattle.card_columns.specs.Orders.{nth, address, order}
use Rattle.card_columns.proofs.GoodDigits.{Good, decimal_is_good, good_address}

-- the digits ds stand in core from a upwards
pub record Holds (core : List ℕ) (a : ℕ) (ds : List Digit) : Type 0 where
  pub inside : a + length ds ≤ length core
  pub cells : (i : ℕ) → i < length ds → get_or core (a + i) 0 ≡ cell (nth ds i)

pub read_held : (core : List ℕ) (a : ℕ) (d : Digit) → a < length core → get_or core a 0 ≡ cell d → IsGood d → read_at core a ≡ Ok d
unfolding read_at
read_held core a d h e g = rw (e, read_cell-cell d g) (grind (arith, nat_tests))

-- a part of what stands in core
pub part_held : {core : List ℕ} {a : ℕ} {ds : List Digit} → Holds core a ds → (k n : ℕ) → k + n ≤ length ds → Holds core (a + k) (take n (drop k ds))
part_held {core} {a} {ds} h k n le =
    let l : length (take n (drop k ds)) ≡ n = simp (length-take, length-drop) (omega arith) in
    record {
      inside = let i = h.inside in rw l (omega arith);
      cells = λ i lt.
          let lt2 : i < n = rw l at lt in
          let e : a + k + i ≡ a + (k + i) = omega arith in
          rw (get_or-take, get_or-drop, e) (h.cells (k + i) (omega arith));
    }

pub rest_held : {core : List ℕ} {a : ℕ} {ds : List Digit} → Holds core a ds → (k : ℕ) → k ≤ length ds → Holds core (a + k) (drop k ds)
rest_held {core} {a} {ds} h k le =
    let l = length-drop k ds in
    let j = h.inside in
    record {
      inside = omega arith;
      cells = λ i lt.
          let e : a + k + i ≡ a + (k + i) = omega arith in
          rw (get_or-drop, e) (h.cells (k + i) (omega arith));
    }

-- what stands in core stands there too where each of its cells is the same
pub same_held : {core : List ℕ} {a : ℕ} {ds : List Digit} → Holds core a ds → (new : List ℕ) → length new ≡ length core →
    ((b : ℕ) → a ≤ b → b < a + length ds → get_or new b 0 ≡ get_or core b 0) → Holds new a ds
same_held {core} {a} {ds} h new l same = let j = h.inside in record {
  inside = omega arith;
  cells = λ i lt. same (a + i) (omega arith) (omega arith) ∙ h.cells i lt;
}

-- the first digit, and the others
pub head_held : {core : List ℕ} {a : ℕ} {d : Digit} {ds : List Digit} → Holds core a (d ∷ ds) → get_or core a 0 ≡ cell d
head_held {core} {a} {d} {ds} h = let e : a + 0 ≡ a = omega arith in rw e at (h.cells 0 (omega arith))

pub tail_held : {core : List ℕ} {a : ℕ} {d : Digit} {ds : List Digit} → Holds core a (d ∷ ds) → Holds core (a + 1) ds
tail_held {core} {a} {d} {ds} h = record {
  inside = let i : a + suc (length ds) ≤ length core = h.inside in omega arith;
  cells = λ i lt. let e : a + 1 + i ≡ a + suc i = omega arith in rw e (h.cells (suc i) (omega arith));
}

cons_cells : (core : List ℕ) (a : ℕ) (d : Digit) (ds : List Digit) → get_or core a 0 ≡ cell d → Holds core (a + 1) ds →
    (i : ℕ) → i < length (d ∷ ds) → get_or core (a + i) 0 ≡ cell (nth (d ∷ ds) i)
cons_cells core a d ds e h zero l = let k : a + 0 ≡ a = omega arith in rw k e
cons_cells core a d ds e h (suc i) l = let k : a + suc i ≡ a + 1 + i = omega arith in rw k (h.cells i (omega arith))

pub cons_held : (core : List ℕ) (a : ℕ) (d : Digit) (ds : List Digit) → get_or core a 0 ≡ cell d → Holds core (a + 1) ds → Holds core a (d ∷ ds)
cons_held core a d ds e h = record { inside = let i = h.inside in omega arith; cells = cons_cells core a d ds e h }

pub read_up_held : (ds : List Digit) (core : List ℕ) (a : ℕ) → Holds core a ds → Good ds → read_up core a (length ds) ≡ Ok ds
unfolding read_up
read_up_held [] core a h g = refl
read_up_held (d ∷ ds) core a h g =
    let i : a + suc (length ds) ≤ length core = h.inside in
    rw (read_held core a d (omega arith) (head_held h) g.0, read_up_held ds core (a + 1) (tail_held h) g.1)

pub decimal_held : (core : List ℕ) (a v : ℕ) → a < length core → get_or core a 0 ≡ cell (unflagged_digit v) → v ≤ 9 → decimal_at core a ≡ Ok (unflagged_digit v)
unfolding decimal_at
decimal_held core a v h e l = rw (read_held core a (unflagged_digit v) h e (decimal_is_good v l)) (grind (arith, nat_tests))

-- an address that stands in core, read from its units
module _ (core : List ℕ) (b a : ℕ) (h : Holds core b (address a [])) where
  inside : b + 5 ≤ length core
  inside = h.inside

  digit_at : (i v : ℕ) → i < 5 → nth (address a []) i ≡ unflagged_digit v → v ≤ 9 → decimal_at core (b + i) ≡ Ok (unflagged_digit v)
  digit_at i v l e s = let k = h.cells i l in decimal_held core (b + i) v (omega (arith, inside)) (rw e at k) s

  abbrev digits_of : ℕ → ℕ
  digits_of x = x % 10 + 10 * (x / 10 % 10 + 10 * (x / 100 % 10 + 10 * (x / 1000 % 10 + 10 * (x / 10000 % 10 + 10 * 0))))

  units : decimal_at core (b + 4) ≡ Ok (unflagged_digit (a % 10))
  units = digit_at 4 (a % 10) (omega arith) refl (omega arith)

  number_held : number_down core (b + 4) 5 ≡ Ok (digits_of a)
  unfolding number_down
  number_held =
      let e1 : b + 4 - 1 ≡ b + 3 = omega arith in
      let e2 : b + 3 - 1 ≡ b + 2 = omega arith in
      let e3 : b + 2 - 1 ≡ b + 1 = omega arith in
      let e4 : b + 1 - 1 ≡ b + 0 = omega arith in
      rw (
        units,
        e1,
        digit_at 3 (a / 10 % 10) (omega arith) refl (omega arith),
        e2,
        digit_at 2 (a / 100 % 10) (omega arith) refl (omega arith),
        e3,
        digit_at 1 (a / 1000 % 10) (omega arith) refl (omega arith),
        e4,
        digit_at 0 (a / 10000 % 10) (omega arith) refl (omega arith),
      )

  pub chain_held : (fields : ℕ) → a < length core → a < 100000 → chain (suc fields) core (b + 4) ≡ Ok a
  unfolding chain
  chain_held fields l m = let d : digits_of a ≡ a = omega arith in rw (units, number_held, d) (grind (arith, nat_tests))

  pub operand_held : a < length core → a < 100000 → operand core (b + 4) ≡ Ok a
  operand_held l m =
      let e : length core ≡ suc (length core - 1) = omega arith in
      subst (λ n. chain n core (b + 4) ≡ Ok a) (sym e) (chain_held (length core - 1) l m)

-- a whole instruction that stands in core
module _ (core : List ℕ) (a o0 o1 p q : ℕ) (h : Holds core a (order o0 o1 p q [])) where
  good_order : o0 ≤ 9 → o1 ≤ 9 → Good (order o0 o1 p q [])
  good_order x y = (decimal_is_good o0 x, (decimal_is_good o1 y, good_address p (address q []) (good_address q [] tt)))

  pub fetch_held : o0 ≤ 9 → o1 ≤ 9 → (a % 2 == 1) ≡ false → fetch core a ≡ Ok (record { at = a; cells = order o0 o1 p q [] })
  unfolding fetch
  fetch_held x y even = rw (even, read_up_held (order o0 o1 p q []) core a h (good_order x y))

  pub first_operand : p < length core → p < 100000 → operand core (a + 6) ≡ Ok p
  first_operand l m = let e : a + 2 + 4 ≡ a + 6 = omega arith in rw e at (operand_held core (a + 2) p (part_held h 2 5 (omega arith)) l m)

  pub second_operand : q < length core → q < 100000 → operand core (a + 11) ≡ Ok q
  second_operand l m = let e : a + 7 + 4 ≡ a + 11 = omega arith in rw e at (operand_held core (a + 7) q (part_held h 7 5 (omega arith)) l m)
