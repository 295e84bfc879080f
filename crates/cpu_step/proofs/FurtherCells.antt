-- A field is the same in each core that has its five cells.
use Rattle.std.proofs.Common.{ℕ, ◌≡◌, ◌+◌, ◌-◌, ◌*◌, ◌/◌, ◌%◌, ◌<◌, ◌≤◌, inl, inr, Bool, true, false, List, length, Ok, Err, refl, sym, ap, ◌∙◌, arith, bit_and}
use Rattle.std.specs.Prelude.{slice_index, nat_lt, Result}
use Rattle.std.proofs.lemmas.Bool.Decides.{nat_tests}
use Rattle.std.proofs.lemmas.Bool.{cases_lt}
use Rattle.digit_core.specs.declared.Digit.{Digit}
use Rattle.digit_core.specs.Packed.{six, HasCells}
use Rattle.addr_indirect.specs.Reading.{read_at, decimal_at}
use Rattle.addr_indirect.specs.Operand.{number_down, field, chain}
use Rattle.addr_indirect.specs.declared.Stop.{Stop}
use Rattle.addr_indirect.specs.Steps.{◌>>=◌}
use Rattle.addr_indirect.proofs.Chains.{field_ends, field_on}
use Rattle.addr_indirect.proofs.Windows.{field_is}
use Rattle.cpu_step.specs.Further.{HasNamed, LeadsTo}
use Rattle.cpu_step.proofs.MemoEntries.{kept}

-- a word of core has the cells that it has under a mask
pub named_of : (core : List ℕ) (i w mask x : ℕ) → HasCells w core (10 * i) 10 → bit_and w mask ≡ x → HasNamed core i mask x
named_of core i w mask x cells is j below all = ap (λ z. six z j) (sym is) ∙ kept w mask j all ∙ cells j below

-- a cell that two masks name
pub both_name : (first second j : ℕ) → six first j ≡ 63 → six second j ≡ 63 → six (bit_and first second) j ≡ 63
both_name first second j one other = kept first second j other ∙ one

-- two cores that have the same cells of a word
same_named : (core other : List ℕ) (i mask x j : ℕ) → HasNamed core i mask x → HasNamed other i mask x → j < 10 → six mask j ≡ 63 → slice_index other (10 * i + j) ≡ slice_index core (10 * i + j)
same_named core other i mask x j here there below all = sym (there j below all) ∙ here j below all

-- two cores that have the same cells of a field, whose first is cell number t of word number i
module _ (core other : List ℕ) (long : length other ≡ length core) (u i t : ℕ) (room : 4 ≤ u) (word_is : i ≡ (u - 4) / 10) (cell_is : t ≡ (u - 4) % 10)
    (low_mask low high_mask high : ℕ) (low_named : (j : ℕ) → t ≤ j → j < t + 5 → j < 10 → six low_mask j ≡ 63) (high_named : (j : ℕ) → j + 5 < t → six high_mask j ≡ 63)
    (low_here : HasNamed core i low_mask low) (high_here : HasNamed core (i + 1) high_mask high) (low_there : HasNamed other i low_mask low) (high_there : HasNamed other (i + 1) high_mask high) where
  same_cell : (a : ℕ) → u ≤ a + 4 → a ≤ u → slice_index other a ≡ slice_index core a
  same_cell a low_end high_end = elim (cases_lt a (10 * i + 10)) [
    | inl l ↦
        let e : 10 * i + (a - 10 * i) ≡ a = omega (arith, word_is, cell_is) in
        let j : a - 10 * i < 10 = omega (arith, word_is, cell_is) in
        let s = same_named core other i low_mask low (a - 10 * i) low_here low_there j (low_named (a - 10 * i) (omega (arith, word_is, cell_is)) (omega (arith, word_is, cell_is)) j) in
        rw e at s
    | inr g ↦
        let e : 10 * (i + 1) + (a - 10 * (i + 1)) ≡ a = omega (arith, word_is, cell_is) in
        let s = same_named core other (i + 1) high_mask high (a - 10 * (i + 1)) high_here high_there (omega (arith, word_is, cell_is)) (high_named (a - 10 * (i + 1)) (omega (arith, word_is, cell_is))) in
        rw e at s
  ]

  same_decimal : (a : ℕ) → u ≤ a + 4 → a ≤ u → decimal_at other a ≡ decimal_at core a
  unfolding decimal_at read_at
  same_decimal a low_end high_end = rw (long, same_cell a low_end high_end) refl

  same_field : field other u ≡ field core u
  unfolding field number_down
  same_field =
      rw (
        same_decimal u (omega arith) (omega arith),
        same_decimal (u - 1) (omega arith) (omega arith),
        same_decimal (u - 1 - 1) (omega arith) (omega arith),
        same_decimal (u - 1 - 1 - 1) (omega arith) (omega arith),
        same_decimal (u - 1 - 1 - 1 - 1) (omega arith) (omega arith),
      ) refl

  pub leads_there : (v : ℕ) (flagged : Bool) → LeadsTo core u v flagged → LeadsTo other u v flagged
  leads_there v flagged leads = record { reads = same_field ∙ leads.reads; inside = rw long leads.inside; room = leads.room }

-- a field by its units digit, for the flag, and by the number of its digits
module _ (core : List ℕ) (u v : ℕ) (d : Digit) (units : decimal_at core u ≡ Ok d) where
  by_above : (r : Result ℕ Stop) → number_down core (u - 1) 4 ≡ r → (r >>= (λ above. Ok (d.value + 10 * above))) ≡ Ok v → field core u ≡ Ok (record { number = v; flagged = d.flag })
  by_above (Ok above) others all = let e : d.value + 10 * above ≡ v = cc in field_is core u v above d units others (sym e)
  by_above (Err why) others all = cc

  pub field_of : number_down core u 5 ≡ Ok v → field core u ≡ Ok (record { number = v; flagged = d.flag })
  unfolding number_down
  field_of all = by_above (number_down core (u - 1) 4) refl (rw units at all)

  pub leads_of : number_down core u 5 ≡ Ok v → v < length core → (d.flag ≡ true → 4 ≤ v) → LeadsTo core u v d.flag
  leads_of all inside room = record { reads = field_of all; inside = inside; room = room }

-- a number that is not below 4
pub not_low : (v : ℕ) → nat_lt v 4 ≡ false → 4 ≤ v
not_low v test = grind (arith, nat_tests)

-- a chain ends at a field without a flag, and goes on behind one with a flag
module _ (n i : ℕ) (core : List ℕ) (u v : ℕ) (flagged : Bool) (more : i < n) (leads : LeadsTo core u v flagged) where
  pub chain_ends : flagged ≡ false → chain (n - i) core u ≡ Ok v
  chain_ends plain = field_ends n i core u more (record { number = v; flagged = flagged }) leads.reads leads.inside plain

  pub chain_goes_on : flagged ≡ true → chain (n - i) core u ≡ chain (n - (i + 1)) core v
  chain_goes_on is = field_on n i core u more (record { number = v; flagged = flagged }) leads.reads leads.inside is (leads.room is)
