-- The operands that the fields of a fetched instruction hold are its operands.
use Rattle.std.proofs.Common.{ℕ, zero, suc, ◌≡◌, ◌+◌, ◌-◌, ◌*◌, ◌%◌, ◌==◌, ◌<◌, ◌≤◌, Bool, true, false, List, ◌∷◌, length, Ok, Err, refl, sym, ap, subst, ◌∙◌, arith}
use Rattle.std.specs.Prelude.{nat_le, nat_lt, slice_index_or, if◌then◌else◌, Option, Some, None, Result}
use Rattle.std.proofs.lemmas.Bool.Decides.{nat_tests}
use Rattle.digit_core.specs.declared.Digit.{Digit}
use Rattle.digit_core.specs.Cell.{unflagged_digit}
use Rattle.addr_indirect.specs.declared.Stop.{Stop}
use Rattle.addr_indirect.specs.declared.Stop.TheVariants as stop
use Rattle.addr_indirect.specs.declared.Instr.{Instr}
use Rattle.addr_indirect.specs.Steps.{◌>>=◌}
use Rattle.addr_indirect.specs.Reading.{read_at, decimal_at, read_up}
use Rattle.addr_indirect.specs.Operand.{number_down, field, further, operand}
use Rattle.addr_indirect.specs.Operands.{p_operand, q_operand}
use Rattle.addr_indirect.specs.Fetch.{fetch, part}
use Rattle.addr_indirect.proofs.Chains.{field_stops, field_high, field_ends, field_low, field_on}
use Rattle.addr_indirect.proofs.ReadInCore.{fetch_inside}
use Rattle.addr_indirect.proofs.Windows.{field_is}
use Rattle.instruction_table.specs.declared.MayStore.{MayStore}
use Rattle.branch_ops.specs.declared.fields.Uses.{Uses}
use Rattle.branch_ops.specs.declared.fields.Uses.TheVariants.{Both, OddBoth, Immediate, First, OddFirst, Neither}
use Rattle.branch_ops.specs.Fields.{digit_with_above, part_number, kind_of, number_or_zero, field_from, fields_used, field_operand, fields_operands, HoldOperands, ComeTo}
use Rattle.branch_ops.specs.declared.fields.FieldKind.TheVariants as kind
use Rattle.branch_ops.specs.declared.fields.Fields.{Fields}

-- a digit of what was read upwards was read
module _ (n : ℕ) (core : List ℕ) (a : ℕ) (rest : (ds : List Digit) → read_up core (a + 1) n ≡ Ok ds → (j : ℕ) → j < n → read_at core (a + 1 + j) ≡ Ok (slice_index_or ds j (unflagged_digit 0))) where
  of_more : (d : Digit) (more : List Digit) → read_at core a ≡ Ok d → read_up core (a + 1) n ≡ Ok more → (j : ℕ) → j < suc n → read_at core (a + j) ≡ Ok (slice_index_or (d ∷ more) j (unflagged_digit 0))
  of_more d more here above zero below = let e : a + 0 ≡ a = omega arith in rw e here
  of_more d more here above (suc j) below = let e : a + suc j ≡ a + 1 + j = omega arith in rw e (rest more above j (omega arith))

  of_rest : (d : Digit) → read_at core a ≡ Ok d → (r : Result (List Digit) Stop) → read_up core (a + 1) n ≡ r → (ds : List Digit) → (r >>= (λ more. Ok (d ∷ more))) ≡ Ok ds → (j : ℕ) → j < suc n → read_at core (a + j) ≡ Ok (slice_index_or ds j (unflagged_digit 0))
  of_rest d here (Ok more) above ds all j below = let e : d ∷ more ≡ ds = cc in rw (← e) (of_more d more here above j below)
  of_rest d here (Err why) above ds all j below = cc

  of_first : (r : Result Digit Stop) → read_at core a ≡ r → (ds : List Digit) → (r >>= (λ d. read_up core (a + 1) n >>= (λ more. Ok (d ∷ more)))) ≡ Ok ds → (j : ℕ) → j < suc n → read_at core (a + j) ≡ Ok (slice_index_or ds j (unflagged_digit 0))
  of_first (Ok d) here ds all j below = of_rest d here (read_up core (a + 1) n) refl ds all j below
  of_first (Err why) here ds all j below = cc

up_digit : (n : ℕ) (core : List ℕ) (a : ℕ) (ds : List Digit) → read_up core a n ≡ Ok ds → (j : ℕ) → j < n → read_at core (a + j) ≡ Ok (slice_index_or ds j (unflagged_digit 0))
unfolding read_up
up_digit zero core a ds is j below = absurd (omega arith)
up_digit (suc n) core a ds is j below = of_first n core a (up_digit n core (a + 1)) (read_at core a) refl ds is j below

-- the same of a fetched instruction's digits
fetched_digit : (core : List ℕ) (ir : ℕ) (i : Instr) → fetch core ir ≡ Ok i → (j : ℕ) → j < 12 → read_at core (ir + j) ≡ Ok (slice_index_or i.cells j (unflagged_digit 0))
unfolding fetch
fetched_digit core ir i is j below = by_even (ir % 2 == 1) is
  where
    by_cells : (r : Result (List Digit) Stop) → read_up core ir 12 ≡ r → (r >>= (λ cells. Ok (record { at = ir; cells = cells }))) ≡ Ok i → read_at core (ir + j) ≡ Ok (slice_index_or i.cells j (unflagged_digit 0))
    by_cells (Ok cells) reads all =
        let e : cells ≡ i.cells = ap (λ (r : Result Instr Stop). elim r as (λ _. List Digit) [ Ok x ↦ x.cells | Err why ↦ cells ]) all in
        rw (← e) (up_digit 12 core ir cells reads j below)
    by_cells (Err why) reads all = cc

    by_even : (odd : Bool) → (if odd then Err stop.OddInstruction else (read_up core ir 12 >>= (λ cells. Ok (record { at = ir; cells = cells })))) ≡ Ok i → read_at core (ir + j) ≡ Ok (slice_index_or i.cells j (unflagged_digit 0))
    by_even true all = cc
    by_even false all = by_cells (read_up core ir 12) refl all

module _ (core : List ℕ) (ir : ℕ) (i : Instr) (there : fetch core ir ≡ Ok i) where
  some : 0 < length core
  some = let h = fetch_inside core ir i there in omega arith

  abbrev digit : ℕ → Digit
  digit k = slice_index_or i.cells k (unflagged_digit 0)

  -- a digit that is needed decimal
  abbrev or_digit : {A : Type 0} → Option A → Result A Stop
  or_digit None = Err stop.Digit
  or_digit (Some v) = Ok v

  decimal_is : (k : ℕ) → k < 12 → decimal_at core (ir + k) ≡ (if nat_le (part i k) 9 then Ok (digit k) else Err stop.Digit)
  unfolding decimal_at
  decimal_is k below = rw (fetched_digit core ir i there k below) refl

  -- a digit, and the number of those above it
  number_joined : (k : ℕ) (m : Option ℕ) (b : Bool) (r : Result ℕ Stop) → r ≡ or_digit m → ((if b then Ok (digit k) else Err stop.Digit) >>= (λ d. r >>= (λ above. Ok (d.value + 10 * above)))) ≡ or_digit (digit_with_above (if b then Some (part i k) else None) m)
  number_joined k None true r is = rw is refl
  number_joined k (Some above) true r is = rw is refl
  number_joined k m false r is = refl

  -- the number of some of its digits
  number_is : (n k : ℕ) → k < 12 → n ≤ k + 1 → number_down core (ir + k) n ≡ or_digit (part_number i k n)
  unfolding number_down part_number
  number_is zero k below room = refl
  number_is (suc zero) k below room = rw (decimal_is k below) (number_joined k (Some 0) (nat_le (part i k) 9) (Ok 0) refl)
  number_is (suc (suc n)) k below room =
      let e : ir + k - 1 ≡ ir + (k - 1) = omega arith in
      let above = number_is (suc n) (k - 1) (omega arith) (omega arith) in
      rw (decimal_is k below, e) (number_joined k (part_number i (k - 1) (suc n)) (nat_le (part i k) 9) (number_down core (ir + (k - 1)) (suc n)) above)

  -- where the number of five digits isn't read, their field isn't
  stops_same : {A : Type 0} (r : Result Digit Stop) (s : Result ℕ Stop) (make : Digit → ℕ → A) (why : Stop) → (r >>= (λ d. s >>= (λ above. Ok (d.value + 10 * above)))) ≡ Err why → (r >>= (λ d. s >>= (λ above. Ok (make d above)))) ≡ Err why
  stops_same (Ok d) (Ok above) make why is = cc
  stops_same (Ok d) (Err e) make why is = cc
  stops_same (Err e) s make why is = cc

  no_field : (u : ℕ) (why : Stop) → number_down core u 5 ≡ Err why → field core u ≡ Err why
  unfolding field number_down
  no_field u why is = stops_same (decimal_at core u) (number_down core (u - 1) 4) (λ d above. record { number = d.value + 10 * above; flagged = d.flag }) why is

  -- so the operand is what the field holds
  module _ (k : ℕ) (room : 4 ≤ k) (below : k < 12) where
    all : length core - 0 ≡ length core
    all = omega arith

    abbrev u : ℕ
    u = ir + k

    undecimal : number_down core u 5 ≡ Err stop.Digit → operand core u ≡ Err stop.Digit
    undecimal is = let c = field_stops (length core) 0 core u some stop.Digit (no_field u stop.Digit is) in rw all at c

    module _ (d : Digit) (v above : ℕ) (units : decimal_at core u ≡ Ok d) (others : number_down core (u - 1) 4 ≡ Ok above) (is : v ≡ d.value + 10 * above) where
      past : length core ≤ v → operand core u ≡ Err stop.Address
      past h = let c = field_high (length core) 0 core u some (record { number = v; flagged = d.flag }) (field_is core u v above d units others is) h in rw all at c

      address : (b : Bool) → nat_lt v (length core) ≡ b → d.flag ≡ false → operand core u ≡ (if b then Ok v else Err stop.Address)
      address true test plain = let c = field_ends (length core) 0 core u some (record { number = v; flagged = d.flag }) (field_is core u v above d units others is) (grind (arith, nat_tests)) plain in rw all at c
      address false test plain = past (grind (arith, nat_tests))

      chained : (b low : Bool) → nat_lt v (length core) ≡ b → nat_lt v 4 ≡ low → d.flag ≡ true → operand core u ≡ (if b then (if low then Err stop.Address else further core v) else Err stop.Address)
      chained true true test under flagged = let c = field_low (length core) 0 core u some (record { number = v; flagged = d.flag }) (field_is core u v above d units others is) (grind (arith, nat_tests)) flagged (grind (arith, nat_tests)) in rw all at c
      chained true false test under flagged = let c = field_on (length core) 0 core u some (record { number = v; flagged = d.flag }) (field_is core u v above d units others is) (grind (arith, nat_tests)) flagged (grind (arith, nat_tests)) in rw all at c
      chained false low test under flagged = past (grind (arith, nat_tests))

      held : (flag : Bool) → d.flag ≡ flag → operand core u ≡ field_operand core ir (kind_of (Some v) flag) v
      held false plain = address (nat_lt v (length core)) refl plain
      held true flagged = chained (nat_lt v (length core)) (nat_lt v 4) refl refl flagged

    abbrev number_by : Bool → Option ℕ → Option ℕ
    number_by b m = digit_with_above (if b then Some (part i k) else None) m

    by_parts : (b : Bool) → nat_le (part i k) 9 ≡ b → (m : Option ℕ) → number_down core (u - 1) 4 ≡ or_digit m → number_down core u 5 ≡ or_digit (number_by b m)
        → operand core u ≡ field_operand core ir (kind_of (number_by b m) (digit k).flag) (number_or_zero (number_by b m))
    by_parts false test m others whole = undecimal whole
    by_parts true test None others whole = undecimal whole
    by_parts true test (Some above) others whole =
        let units : decimal_at core u ≡ Ok (digit k) = decimal_is k below ∙ rw test refl in
        held (digit k) (part i k + 10 * above) above units others refl (digit k).flag refl

    operand_is : operand core u ≡ field_operand core ir (field_from i k).1 (field_from i k).0
    unfolding part_number
    operand_is =
        let e : u - 1 ≡ ir + (k - 1) = omega arith in
        by_parts (nat_le (part i k) 9) refl (part_number i (k - 1) 4) (rw e (number_is 4 (k - 1) (omega arith) (omega arith))) (number_is 5 k below (omega arith))

  p_is : p_operand core ir ≡ field_operand core ir (field_from i 6).1 (field_from i 6).0
  p_is = operand_is 6 (omega arith) (omega arith)

  q_is : q_operand core ir ≡ field_operand core ir (field_from i 11).1 (field_from i 11).0
  q_is = operand_is 11 (omega arith) (omega arith)

  -- an operand that isn't used
  none_is : field_operand core ir kind.Address 0 ≡ Ok 0
  none_is = let t : nat_lt 0 (length core) ≡ true = grind (arith, nat_tests, some) in rw t refl

  pub fields_hold : (u : Uses) (stores : MayStore) → HoldOperands u core ir (fields_used u stores i)
  fields_hold Both stores = rw (p_is, q_is) refl
  fields_hold OddBoth stores = rw (p_is, q_is) refl
  fields_hold Immediate stores = rw p_is refl
  fields_hold First stores = rw (p_is, none_is) refl
  fields_hold OddFirst stores = rw (p_is, none_is) refl
  fields_hold Neither stores = rw none_is refl

pub operands_are : (core : List ℕ) (ir : ℕ) (f : Fields) → ComeTo f core ir (fields_operands f core ir)
operands_are core ir f = λ u stores i there are. subst (HoldOperands u core ir) (sym are) (fields_hold core ir i there u stores)
