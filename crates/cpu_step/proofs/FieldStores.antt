-- A field's move stores from its units downwards, up to a flag.
use Rattle.std.proofs.Common.{◌≡◌, ◌≢◌, ℕ, zero, suc, ◌<◌, ◌≤◌, Bool, true, false, ◌&&◌, not, List, length, get_or, inl, inr, refl, sym, ◌∙◌, ap, subst, arith, length-set}
use Rattle.std.specs.Prelude.{IsTrue, count_ones, nat_lt, ◌%◌, ◌==◌, Result, Ok, Err, ⊤, if◌then◌else◌}
use Rattle.std.proofs.lemmas.Bool.{cases_eq}
use Rattle.std.proofs.lemmas.Bool.Decides.{nat_tests}
use Rattle.std.proofs.lemmas.List.{get_or-set_other, get_or-set_same}
use lib.Count.{ones}
use Rattle.digit_core.specs.declared.Digit.{Digit}
use Rattle.digit_core.specs.Cell.{IsGood, is_cell_value, value_in, digit_of_cell, read_cell, cell, store, has_flag}
use Rattle.digit_core.specs.declared.CellFault.{CellFault}
use Rattle.digit_core.specs.declared.CellFault.TheVariants.{EvenParity, BadValue}
use Rattle.addr_indirect.specs.declared.Stop.TheVariants.{Address}
use Rattle.digit_core.proofs.Below.{same_below}
use Rattle.addr_indirect.specs.declared.Stop.{Stop}
use Rattle.addr_indirect.specs.Reading.{or_stop, read_at}
use Rattle.traces.specs.Trace.{ends, ◌>>=◌}
use Rattle.traces.specs.Stored.{stores, core_after}
use Rattle.field_moves.specs.Move.{field_cycles, move_field}

-- Stores went down from the highest of p positions: no cell from p on changed, and none below a flag that stands there now; the flag of
-- the first cell, which is the units, is no end
pub record Sinks (core new : List ℕ) (p : ℕ) (first : Bool) : Type 0 where
  pub long : length new ≡ length core
  pub above : (a : ℕ) → p ≤ a → get_or new a 0 ≡ get_or core a 0
  pub below : (a b : ℕ) → a < b → b < p → (first ≡ true → suc b ≢ p) → has_flag (get_or new b 0) ≡ true → get_or new a 0 ≡ get_or core a 0

-- the flag of a digit's cell
pub below_16 : (v : ℕ) → IsTrue (is_cell_value v) → v < 16
below_16 v good = grind (arith, nat_tests)

flag_at : (flag : Bool) (v : ℕ) → v < 16 → (if is_cell_value v then has_flag (cell (record { flag = flag; value = v })) else flag) ≡ flag
unfolding cell ones
flag_at true v below = same_below (λ v. if is_cell_value v then has_flag (cell (record { flag = true; value = v })) else true) (λ v. true) 16 v true refl below
flag_at false v below = same_below (λ v. if is_cell_value v then has_flag (cell (record { flag = false; value = v })) else false) (λ v. false) 16 v true refl below

pub cell_flag : (d : Digit) → IsGood d → has_flag (cell d) ≡ d.flag
cell_flag d good = ap (λ (b : Bool). if b then has_flag (cell d) else d.flag) (sym good) ∙ flag_at d.flag d.value (below_16 d.value good)

pub no_both : {A : Type 0} (b : Bool) → b ≡ true → b ≡ false → A
no_both true is other = cc
no_both false is other = cc

-- nothing is stored
pub sinks_none : (core : List ℕ) (p : ℕ) (first : Bool) → Sinks core core p first
sinks_none core p first = record { long = refl; above = λ a h. refl; below = λ a b low high other flag. refl }

module _ (core : List ℕ) (p : ℕ) (d : Digit) (first : Bool) where
  other_cell : (a : ℕ) → a ≢ p → get_or (store core p d) a 0 ≡ get_or core a 0
  other_cell a other = get_or-set_other core p a (cell d) 0 other

  -- the last store
  pub sinks_last : Sinks core (store core p d) (suc p) first
  sinks_last = record {
    long = length-set core p (cell d);
    above = λ a h. other_cell a (λ is. absurd (omega (arith, is, h)));
    below = λ a b low high units flag. other_cell a (λ is. absurd (omega (arith, is, low, high)));
  }

  -- a store of a digit that goes on: the units, or one without a flag
  pub sinks_more : (new : List ℕ) → p < length core → IsGood d → (first ≡ false → d.flag ≡ false) → Sinks (store core p d) new p false → Sinks core new (suc p) first
  sinks_more new inside good plain rest = record {
    long = rest.long ∙ length-set core p (cell d);
    above = λ a h. rest.above a (omega (arith, h)) ∙ other_cell a (λ is. absurd (omega (arith, is, h)));
    below = λ a b low high units flag.
        elim (cases_eq b p) [
          | inl is ↦ by_first first refl a b is units flag
          | inr differs ↦
              rest.below a b low (omega (arith, high, differs)) (λ is. no_both false is refl) flag ∙ other_cell a (λ is. absurd (omega (arith, is, low, high)))
        ];
  }
    where
      by_first : (f : Bool) → first ≡ f → (a b : ℕ) → b ≡ p → (first ≡ true → suc b ≢ suc p) → has_flag (get_or new b 0) ≡ true → get_or new a 0 ≡ get_or core a 0
      by_first true is a b here units flag = absurd (units is (ap suc here))
      by_first false is a b here units flag =
          let stored : get_or new b 0 ≡ cell d = ap (λ j. get_or new j 0) here ∙ rest.above p (omega arith) ∙ get_or-set_same core p (cell d) 0 inside in
          no_both (has_flag (get_or new b 0)) flag (ap has_flag stored ∙ cell_flag d good ∙ plain is)

-- what is read can be stored
abbrev pub IsGoodRead : Result Digit Stop → Type 0
IsGoodRead (Ok d) = IsGood d
IsGoodRead (Err why) = ⊤

-- TF
goes_plain : (d : Digit) (first : Bool) → (d.flag && not first) ≡ false → first ≡ false → d.flag ≡ false
goes_plain d first on units = grind (arith, on, units)

module _ (core : List ℕ) (p q : ℕ) (first : Bool) (inside : p < length core)
    (rest : (d : Digit) → Sinks (store core p d) (core_after (store core p d) (field_cycles (store core p d) p q false).effects) p false) where
  by_end : (d : Digit) → IsGood d → (b : Bool) → (d.flag && not first) ≡ b
      → Sinks core (core_after core (stores p d (if b then ends (Ok tt) else field_cycles (store core p d) p q false)).effects) (suc p) first
  by_end d good true is = sinks_last core p d first
  by_end d good false is =
      sinks_more core p d first (core_after (store core p d) (field_cycles (store core p d) p q false).effects) inside good (goes_plain d first is) (rest d)

  by_read : (r : Result Digit Stop) → IsGoodRead r
      → Sinks core (core_after core (r >>= (λ d. stores p d (if d.flag && not first then ends (Ok tt) else field_cycles (store core p d) p q false))).effects) (suc p) first
  by_read (Err why) good = sinks_none core (suc p) first
  by_read (Ok d) good = by_end d good (d.flag && not first) refl

pub field_sinks : ((core : List ℕ) (a : ℕ) → IsGoodRead (read_at core a)) → (core : List ℕ) (p q : ℕ) (first : Bool) → p ≤ length core
    → Sinks core (core_after core (field_cycles core p q first).effects) p first
unfolding field_cycles
field_sinks reads core zero q first inside = sinks_none core zero first
field_sinks reads core (suc p) zero first inside = sinks_none core (suc p) first
field_sinks reads core (suc p) (suc q) first inside =
    by_read core p q first inside (λ d. field_sinks reads (store core p d) p q false (omega (arith, inside, length-set core p (cell d)))) (read_at core q) (reads core q)

-- a digit that was read is good
good_read : (c : ℕ) (d : Digit) → read_cell c ≡ Ok d → IsGood d
unfolding read_cell
good_read c d is = by_parity (count_ones c % 2 == 0) (is_cell_value (value_in c)) refl is
  where
    by_parity : (even value : Bool) → is_cell_value (value_in c) ≡ value → (if even then Err EvenParity else if value then Ok (digit_of_cell c) else Err BadValue) ≡ Ok d → IsGood d
    by_parity true value is_it is = cc
    by_parity false true is_it is = let same : digit_of_cell c ≡ d = cc in subst IsGood same is_it
    by_parity false false is_it is = cc

or_stop_good : (a c : ℕ) (r : Result Digit CellFault) → read_cell c ≡ r → IsGoodRead (or_stop a r)
or_stop_good a c (Ok d) is = good_read c d is
or_stop_good a c (Err EvenParity) is = tt
or_stop_good a c (Err BadValue) is = tt

pub reads : (core : List ℕ) (a : ℕ) → IsGoodRead (read_at core a)
unfolding read_at
reads core a = by_place (nat_lt a (length core))
  where
    by_place : (b : Bool) → IsGoodRead (if b then or_stop a (read_cell (get_or core a 0)) else Err Address)
    by_place true = or_stop_good a (get_or core a 0) (read_cell (get_or core a 0)) refl
    by_place false = tt

-- TF STORES WITHIN THE FIELD THAT ENDS AT P, AS IT STANDS AFTERWARDS.
pub move_sinks : (core : List ℕ) (p q : ℕ) → p < length core → Sinks core (core_after core (move_field core p q).effects) (suc p) true
move_sinks core p q inside = field_sinks reads core (suc p) (suc q) true inside
