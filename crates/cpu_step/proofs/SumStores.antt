-- The passes of a sum store from the units of P downwards, up to a flag, and keep the flags.
use Rattle.std.proofs.Common.{◌≡◌, ◌≢◌, ℕ, zero, suc, pred, ◌<◌, ◌≤◌, Bool, true, false, ◌&&◌, ◌||◌, ◌==◌, not, List, length, get_or, inl, inr, refl, sym, ◌∙◌, ap, subst, arith, length-set}
use Rattle.std.specs.Prelude.{IsTrue, count_ones, ◌%◌, nat_le, nat_lt, Result, Ok, Err, if◌then◌else◌}
use Rattle.std.proofs.lemmas.Bool.{cases_eq}
use Rattle.std.proofs.lemmas.Bool.Decides.{nat_tests}
use Rattle.std.proofs.lemmas.List.{get_or-set_other, get_or-set_same}
use Rattle.digit_core.specs.declared.Digit.{Digit}
use Rattle.digit_core.specs.declared.CellFault.{CellFault}
use Rattle.digit_core.specs.declared.CellFault.TheVariants.{EvenParity, BadValue}
use Rattle.digit_core.specs.Cell.{IsGood, is_cell_value, value_in, digit_of_cell, read_cell, cell, store, has_flag}
use Rattle.addr_indirect.specs.declared.Stop.{Stop}
use Rattle.addr_indirect.specs.declared.Stop.TheVariants.{Address, Digit as BadDigit}
use Rattle.addr_indirect.specs.Steps.{◌>>=◌ as ◌>>=r◌}
use Rattle.addr_indirect.specs.Reading.{or_stop, read_at, decimal_at}
use Rattle.traces.specs.Trace.{Trace, ends, after_answer, ◌>>=◌}
use Rattle.traces.specs.Stored.{Stored, stores, core_after, then_over}
use Rattle.table_arith.specs.declared.Cycle.{Cycle}
use Rattle.table_arith.specs.declared.Passed.{Passed}
use Rattle.table_arith.specs.Cycle.{add_cycle, look_up, addend}
use Rattle.table_arith.specs.Pass.{pass, first_pass, before_cycles, second_pass, second_cycles, q_digit, goes_on, passed_after, new_digit, store_if, core_after_store_if}
use Rattle.table_arith.specs.declared.Kind.{Kind}
use Rattle.table_arith.specs.declared.Shown.{Shown}
use Rattle.table_arith.specs.Sum.{sum, sum_passes, sum_completion, complements, falls_below, overflows, turn_sign}
use Rattle.table_arith.proofs.Parts.{core_after-append}
use Rattle.digit_core.specs.Cell.{with_flag}
use Rattle.cpu_step.proofs.FieldStores.{Sinks, cell_flag, sinks_none, sinks_last, sinks_more}

-- the flags stay
abbrev pub KeepsFlags : List ℕ → List ℕ → Type 0
KeepsFlags core new = (b : ℕ) → has_flag (get_or new b 0) ≡ has_flag (get_or core b 0)

pub record SinksPlain (core new : List ℕ) (p : ℕ) (first : Bool) : Type 0 where
  pub sinks : Sinks core new p first
  pub flags : KeepsFlags core new

plain_none : (core : List ℕ) (p : ℕ) (first : Bool) → SinksPlain core core p first
plain_none core p first = record { sinks = sinks_none core p first; flags = λ b. refl }

-- the flag of a cell that was read
read_flag : (c : ℕ) (d : Digit) → read_cell c ≡ Ok d → has_flag c ≡ d.flag
unfolding read_cell
read_flag c d is = by_parity (count_ones c % 2 == 0) (is_cell_value (value_in c)) is
  where
    by_parity : (even value : Bool) → (if even then Err EvenParity else if value then Ok (digit_of_cell c) else Err BadValue) ≡ Ok d → has_flag c ≡ d.flag
    by_parity true value is = cc
    by_parity false true is = let same : digit_of_cell c ≡ d = cc in ap (λ (x : Digit). x.flag) same
    by_parity false false is = cc

or_stop_flag : (a c : ℕ) (d : Digit) (r : Result Digit CellFault) → read_cell c ≡ r → or_stop a r ≡ Ok d → has_flag c ≡ d.flag
or_stop_flag a c d (Ok e) is there = let same : e ≡ d = cc in read_flag c e is ∙ ap (λ (x : Digit). x.flag) same
or_stop_flag a c d (Err EvenParity) is there = cc
or_stop_flag a c d (Err BadValue) is there = cc

at_flag : (core : List ℕ) (a : ℕ) (d : Digit) → read_at core a ≡ Ok d → has_flag (get_or core a 0) ≡ d.flag
unfolding read_at
at_flag core a d is = by_place (nat_lt a (length core)) is
  where
    by_place : (b : Bool) → (if b then or_stop a (read_cell (get_or core a 0)) else Err Address) ≡ Ok d → has_flag (get_or core a 0) ≡ d.flag
    by_place true is = or_stop_flag a (get_or core a 0) d (read_cell (get_or core a 0)) refl is
    by_place false is = cc

-- a digit with the flag of the cell is stored there
module _ (core : List ℕ) (p : ℕ) (x d : Digit) (inside : p < length core) (good : IsGood d) (read : read_at core p ≡ Ok x) (flag : d.flag ≡ x.flag) where
  flags_stored : KeepsFlags core (store core p d)
  flags_stored b =
      elim (cases_eq b p) [
        | inl is ↦
            ap (λ j. has_flag (get_or (store core p d) j 0)) is ∙ ap has_flag (get_or-set_same core p (cell d) 0 inside) ∙ cell_flag d good ∙ flag
            ∙ sym (at_flag core p x read) ∙ ap (λ j. has_flag (get_or core j 0)) (sym is)
        | inr differs ↦ ap has_flag (get_or-set_other core p b (cell d) 0 differs)
      ]

  plain_last : (first : Bool) → SinksPlain core (store core p d) (suc p) first
  plain_last first = record { sinks = sinks_last core p d first; flags = flags_stored }

  plain_more : (first : Bool) (new : List ℕ) → goes_on first x ≡ true → SinksPlain (store core p d) new p false → SinksPlain core new (suc p) first
  plain_more first new on rest = record {
    sinks = sinks_more core p d first new inside good (λ units. flag ∙ no_flag first x on units) rest.sinks;
    flags = λ b. rest.flags b ∙ flags_stored b;
  }
    where
      no_flag : (first : Bool) (x : Digit) → goes_on first x ≡ true → first ≡ false → x.flag ≡ false
      no_flag first x on units = grind (arith, on, units)

-- the digit of a cycle is decimal
decimal_good : (core : List ℕ) (a : ℕ) (d : Digit) → decimal_at core a ≡ Ok d → IsTrue (is_cell_value d.value)
unfolding decimal_at
decimal_good core a d is = by_read (read_at core a) is
  where
    by_nine : (e : Digit) (b : Bool) → nat_le e.value 9 ≡ b → (if b then Ok e else Err BadDigit) ≡ Ok d → IsTrue (is_cell_value d.value)
    by_nine e true nine is = let same : e ≡ d = cc in subst (λ (x : Digit). IsTrue (is_cell_value x.value)) same (grind (arith, nat_tests, nine))
    by_nine e false nine is = cc

    by_read : (r : Result Digit Stop) → (r >>=r (λ e. if nat_le e.value 9 then Ok e else Err BadDigit)) ≡ Ok d → IsTrue (is_cell_value d.value)
    by_read (Ok e) is = by_nine e (nat_le e.value 9) refl is
    by_read (Err why) is = cc

cycle_good : (core : List ℕ) (x y : ℕ) (complements : Bool) (carry : ℕ) (c : Cycle) → add_cycle core x y complements carry ≡ Ok c → IsTrue (is_cell_value c.digit)
unfolding add_cycle
cycle_good core x y complements carry c is = by_nine (nat_lt 9 x || nat_lt 9 y) is
  where
    by_look : (r : Result Digit Stop) (z : ℕ) → ((d : Digit) → r ≡ Ok d → IsTrue (is_cell_value d.value)) → (r >>=r (λ d. Ok (record { digit = d.value; carry = if d.flag || z == 10 then 1 else 0 }))) ≡ Ok c → IsTrue (is_cell_value c.digit)
    by_look (Ok d) z good is = let same : record { digit = d.value; carry = if d.flag || z == 10 then 1 else 0 } ≡ c = cc in subst (λ (k : Cycle). IsTrue (is_cell_value k.digit)) same (good d refl)
    by_look (Err why) z good is = cc

    by_nine : (b : Bool) → (if b then Err BadDigit else look_up core x (addend y complements carry)) ≡ Ok c → IsTrue (is_cell_value c.digit)
    by_nine true is = cc
    by_nine false is = by_look _ (addend y complements carry) (λ d there. decimal_good core _ d there) is

-- THE FIRST PASS
plain_good : (f : Bool) (c : ℕ) → IsTrue (is_cell_value c) → IsGood (record { flag = f; value = c })
plain_good f c good = good

module _ (core : List ℕ) (p q : ℕ) (complements first : Bool) (so_far : Passed) (inside : p < length core)
    (rest : (d : Digit) (y : Digit) (c : Cycle) → SinksPlain (store core p d) (core_after (store core p d) (pass true (store core p d) p (pred q) complements false (passed_after first so_far y c)).effects) p false) where
  abbrev after_cycle : Digit → Digit → Cycle → Bool → Trace Stored Passed Stop
  after_cycle x y c on =
      store_if true p (new_digit x c)
      (if on then pass true (core_after_store_if true core p (new_digit x c)) p (pred q) complements false (passed_after first so_far y c)
      else ends (Ok (passed_after first so_far y c)))

  by_on : (x y : Digit) (c : Cycle) → read_at core p ≡ Ok x → IsTrue (is_cell_value c.digit) → (on : Bool) → goes_on first x ≡ on
      → SinksPlain core (core_after core (after_cycle x y c on).effects) (suc p) first
  by_on x y c read good true is = plain_more core p x (new_digit x c) inside (plain_good x.flag c.digit good) read refl first _ is (rest (new_digit x c) y c)
  by_on x y c read good false is = plain_last core p x (new_digit x c) inside (plain_good x.flag c.digit good) read refl first

  by_c : (x y : Digit) (r : Result Cycle Stop) → add_cycle core x.value y.value complements so_far.carry ≡ r → read_at core p ≡ Ok x
      → SinksPlain core (core_after core (r >>= (λ c. after_cycle x y c (goes_on first x))).effects) (suc p) first
  by_c x y (Ok c) is read = by_on x y c read (cycle_good core x.value y.value complements so_far.carry c is) (goes_on first x) refl
  by_c x y (Err why) is read = plain_none core (suc p) first

  by_y : (x : Digit) (r : Result Digit Stop) → read_at core p ≡ Ok x
      → SinksPlain core (core_after core (r >>= (λ y. add_cycle core x.value y.value complements so_far.carry >>= (λ c. after_cycle x y c (goes_on first x)))).effects) (suc p) first
  by_y x (Ok y) read = by_c x y (add_cycle core x.value y.value complements so_far.carry) refl read
  by_y x (Err why) read = plain_none core (suc p) first

  by_x : (r : Result Digit Stop) → read_at core p ≡ r
      → SinksPlain core (core_after core (r >>= (λ x. q_digit core q so_far.q_goes_on >>= (λ y. add_cycle core x.value y.value complements so_far.carry >>= (λ c. after_cycle x y c (goes_on first x))))).effects) (suc p) first
  by_x (Ok x) is = by_y x (q_digit core q so_far.q_goes_on) is
  by_x (Err why) is = plain_none core (suc p) first

pub pass_sinks : (core : List ℕ) (p q : ℕ) (complements first : Bool) (so_far : Passed) → p ≤ length core
    → SinksPlain core (core_after core (pass true core p q complements first so_far).effects) p first
unfolding pass
pass_sinks core zero q complements first so_far inside = plain_none core zero first
pass_sinks core (suc p) q complements first so_far inside =
    by_x core p q complements first so_far inside
    (λ d y c. pass_sinks (store core p d) p (pred q) complements false (passed_after first so_far y c) (omega (arith, inside, length-set core p (cell d)))) (read_at core p) refl

-- THE SECOND PASS
module _ (core : List ℕ) (p : ℕ) (first : Bool) (carry : ℕ) (all_zero : Bool) (inside : p < length core)
    (rest : (d : Digit) (carry : ℕ) (all_zero : Bool) → SinksPlain (store core p d) (core_after (store core p d) (second_cycles (store core p d) p false carry all_zero).effects) p false) where
  abbrev after_second : Digit → Cycle → Bool → Trace Stored Bool Stop
  after_second d c on =
      stores p (new_digit d c)
      (if on then second_cycles (store core p (new_digit d c)) p false c.carry (all_zero && (c.digit == 0))
      else ends (Ok (all_zero && (c.digit == 0))))

  second_on : (d : Digit) (c : Cycle) → read_at core p ≡ Ok d → IsTrue (is_cell_value c.digit) → (on : Bool) → goes_on first d ≡ on
      → SinksPlain core (core_after core (after_second d c on).effects) (suc p) first
  second_on d c read good true is = plain_more core p d (new_digit d c) inside (plain_good d.flag c.digit good) read refl first _ is (rest (new_digit d c) c.carry (all_zero && (c.digit == 0)))
  second_on d c read good false is = plain_last core p d (new_digit d c) inside (plain_good d.flag c.digit good) read refl first

  second_c : (d : Digit) (r : Result Cycle Stop) → add_cycle core 0 d.value true carry ≡ r → read_at core p ≡ Ok d
      → SinksPlain core (core_after core (r >>= (λ c. after_second d c (goes_on first d))).effects) (suc p) first
  second_c d (Ok c) is read = second_on d c read (cycle_good core 0 d.value true carry c is) (goes_on first d) refl
  second_c d (Err why) is read = plain_none core (suc p) first

  second_d : (r : Result Digit Stop) → read_at core p ≡ r
      → SinksPlain core (core_after core (r >>= (λ d. add_cycle core 0 d.value true carry >>= (λ c. after_second d c (goes_on first d)))).effects) (suc p) first
  second_d (Ok d) is = second_c d (add_cycle core 0 d.value true carry) refl is
  second_d (Err why) is = plain_none core (suc p) first

pub second_sinks : (core : List ℕ) (p : ℕ) (first : Bool) (carry : ℕ) (all_zero : Bool) → p ≤ length core
    → SinksPlain core (core_after core (second_cycles core p first carry all_zero).effects) p first
unfolding second_cycles
second_sinks core zero first carry all_zero inside = plain_none core zero first
second_sinks core (suc p) first carry all_zero inside =
    second_d core p first carry all_zero inside
    (λ d k z. second_sinks (store core p d) p false k z (omega (arith, inside, length-set core p (cell d)))) (read_at core p) refl

-- ONE AFTER ANOTHER
both_sink : (core mid new : List ℕ) (p : ℕ) → SinksPlain core mid p true → ((b : ℕ) → suc b ≢ p → has_flag (get_or new b 0) ≡ has_flag (get_or mid b 0)) → Sinks mid new p true → Sinks core new p true
both_sink core mid new p first flags second = record {
  long = second.long ∙ first.sinks.long;
  above = λ a h. second.above a h ∙ first.sinks.above a h;
  below = λ a b low high units flag.
      second.below a b low high units flag ∙ first.sinks.below a b low high units (sym (flags b (units refl)) ∙ flag);
}

then_sinks : {A B : Type 0} (core : List ℕ) (t : Trace Stored A Stop) (f : List ℕ → A → Trace Stored B Stop) (p : ℕ) → SinksPlain core (core_after core t.effects) p true
    → ((a : A) → ((b : ℕ) → suc b ≢ p → has_flag (get_or (core_after (core_after core t.effects) (f (core_after core t.effects) a).effects) b 0) ≡ has_flag (get_or (core_after core t.effects) b 0))
    × Sinks (core_after core t.effects) (core_after (core_after core t.effects) (f (core_after core t.effects) a).effects) p true)
    → Sinks core (core_after core (then_over core t f).effects) p true
then_sinks {A = A} {B = B} core t f p first rest = by_answer t.answer
  where
    by_answer : (r : Result A Stop) → Sinks core (core_after core (after_answer t.effects r (f (core_after core t.effects))).effects) p true
    by_answer (Err why) = first.sinks
    by_answer (Ok a) =
        subst (λ (new : List ℕ). Sinks core new p true) (sym (core_after-append t.effects (f (core_after core t.effects) a).effects core))
        (both_sink core (core_after core t.effects) (core_after (core_after core t.effects) (f (core_after core t.effects) a).effects) p first (rest a).0 (rest a).1)

-- the sign is turned round at the units, whose flag ends no field
module _ (core : List ℕ) (p : ℕ) (zero_sum overflow : Bool) (inside : p < length core) where
  abbrev Turned : List ℕ → Type 0
  Turned new = ((b : ℕ) → suc b ≢ suc p → has_flag (get_or new b 0) ≡ has_flag (get_or core b 0)) × Sinks core new (suc p) true

  abbrev turn_of : Digit → Trace Stored Shown Stop
  turn_of d = stores p (with_flag (not d.flag) d) (ends (Ok (record { zero = zero_sum; negative = not d.flag; overflow = overflow })))

  turn_sinks : Turned (core_after core (turn_sign core p zero_sum overflow).effects)
  turn_sinks = by_read (read_at core p)
    where
      by_read : (r : Result Digit Stop) → Turned (core_after core (r >>= turn_of).effects)
      by_read (Ok d) = (λ b units. ap has_flag (get_or-set_other core p b (cell (with_flag (not d.flag) d)) 0 (λ is. units (ap suc is))), sinks_last core p (with_flag (not d.flag) d) true)
      by_read (Err why) = (λ b units. refl, sinks_none core (suc p) true)

-- what flags other than that of the units are behind both parts
then_flags : {A B : Type 0} (core : List ℕ) (t : Trace Stored A Stop) (f : List ℕ → A → Trace Stored B Stop) (p : ℕ) → KeepsFlags core (core_after core t.effects)
    → ((a : A) (b : ℕ) → suc b ≢ p → has_flag (get_or (core_after (core_after core t.effects) (f (core_after core t.effects) a).effects) b 0) ≡ has_flag (get_or (core_after core t.effects) b 0))
    → (b : ℕ) → suc b ≢ p → has_flag (get_or (core_after core (then_over core t f).effects) b 0) ≡ has_flag (get_or core b 0)
then_flags {A = A} core t f p first rest b units = by_answer t.answer
  where
    by_answer : (r : Result A Stop) → has_flag (get_or (core_after core (after_answer t.effects r (f (core_after core t.effects))).effects) b 0) ≡ has_flag (get_or core b 0)
    by_answer (Err why) = first b
    by_answer (Ok a) = ap (λ (new : List ℕ). has_flag (get_or new b 0)) (core_after-append t.effects (f (core_after core t.effects) a).effects core) ∙ rest a b units ∙ first b

module _ (core : List ℕ) (p : ℕ) (sign complement : Bool) (r : Passed) (inside : p < length core) where
  second_plain : SinksPlain core (core_after core (second_pass core p).effects) (suc p) true
  second_plain = second_sinks core (suc p) true 1 true (omega (arith, inside))

  turned : (zero_sum : Bool) → Turned (core_after core (second_pass core p).effects) p zero_sum (overflows complement r) (omega (arith, inside, second_plain.sinks.long))
      (core_after (core_after core (second_pass core p).effects) (turn_sign (core_after core (second_pass core p).effects) p zero_sum (overflows complement r)).effects)
  turned zero_sum = turn_sinks (core_after core (second_pass core p).effects) p zero_sum (overflows complement r) (omega (arith, inside, second_plain.sinks.long))

  abbrev Completed : List ℕ → Type 0
  Completed new = ((b : ℕ) → suc b ≢ suc p → has_flag (get_or new b 0) ≡ has_flag (get_or core b 0)) × Sinks core new (suc p) true

  completed_sinks : Completed (core_after core (sum_completion core p sign complement r).effects)
  completed_sinks = by_below (falls_below complement r)
    where
      by_below : (b : Bool) → Completed (core_after core (if b then then_over core (second_pass core p) (λ core2 zero. turn_sign core2 p zero (overflows complement r))
          else ends (Ok (record { zero = r.all_zero; negative = sign; overflow = overflows complement r }))).effects)
      by_below true = (
        then_flags core (second_pass core p) (λ core2 zero. turn_sign core2 p zero (overflows complement r)) (suc p) second_plain.flags (λ z b units. (turned z).0 b units),
        then_sinks core (second_pass core p) (λ core2 zero. turn_sign core2 p zero (overflows complement r)) (suc p) second_plain turned,
      )
      by_below false = (λ b units. refl, sinks_none core (suc p) true)

-- A AND S STORE WITHIN THE FIELD AT P.
pub sum_sinks : (kind : Kind) (core : List ℕ) (p q : ℕ) → p < length core → Sinks core (core_after core (sum kind core p q).effects) (suc p) true
unfolding sum
sum_sinks kind core p q inside = by_x (decimal_at core p)
  where
    passes : (sign complement : Bool) → Sinks core (core_after core (sum_passes core p q sign complement).effects) (suc p) true
    passes sign complement =
        let first = pass_sinks core (suc p) (suc q) complement true (before_cycles complement) (omega (arith, inside)) in
        then_sinks core (first_pass true core p q complement) (λ core2 r. sum_completion core2 p sign complement r) (suc p) first
        (λ r. completed_sinks (core_after core (first_pass true core p q complement).effects) p sign complement r (omega (arith, inside, first.sinks.long)))

    by_y : (x : Digit) (r : Result Digit Stop) → Sinks core (core_after core (r >>= (λ y. sum_passes core p q x.flag (complements kind x.flag y.flag))).effects) (suc p) true
    by_y x (Ok y) = passes x.flag (complements kind x.flag y.flag)
    by_y x (Err why) = sinks_none core (suc p) true

    by_x : (r : Result Digit Stop) → Sinks core (core_after core (r >>= (λ x. decimal_at core q >>= (λ y. sum_passes core p q x.flag (complements kind x.flag y.flag)))).effects) (suc p) true
    by_x (Ok x) = by_y x (decimal_at core q)
    by_x (Err why) = sinks_none core (suc p) true
