-- A record's move stores from P upwards, up to a record mark.
use Rattle.std.proofs.Common.{◌≡◌, ◌≢◌, ℕ, zero, suc, ◌+◌, ◌-◌, ◌<◌, ◌≤◌, Bool, true, false, ◌==◌, List, length, get_or, inl, inr, refl, sym, ◌∙◌, ap, arith, length-set}
use Rattle.std.specs.Prelude.{Result, Ok, Err, if◌then◌else◌}
use Rattle.std.proofs.lemmas.Bool.{cases_eq}
use Rattle.std.proofs.lemmas.List.{get_or-set_other, get_or-set_same}
use lib.Count.{ones}
use Rattle.digit_core.specs.declared.Digit.{Digit}
use Rattle.digit_core.specs.declared.TheConstants.{RECORD_MARK}
use Rattle.digit_core.specs.Cell.{IsGood, is_cell_value, cell, store}
use Rattle.digit_core.specs.Search.{has_mark}
use Rattle.digit_core.proofs.Below.{same_below}
use Rattle.addr_indirect.specs.declared.Stop.{Stop}
use Rattle.addr_indirect.specs.Reading.{read_at}
use Rattle.traces.specs.Trace.{ends, ◌>>=◌}
use Rattle.traces.specs.Stored.{stores, core_after}
use Rattle.field_moves.specs.Move.{record_cycles, move_record}
use Rattle.cpu_step.proofs.FieldStores.{IsGoodRead, below_16, no_both, reads}

-- Stores went up from p: no cell below p changed, and none above a record mark that stands there now
pub record Rises (core new : List ℕ) (p : ℕ) : Type 0 where
  pub long : length new ≡ length core
  pub below : (a : ℕ) → a < p → get_or new a 0 ≡ get_or core a 0
  pub above : (a b : ℕ) → p ≤ b → b < a → has_mark (get_or new b 0) ≡ true → get_or new a 0 ≡ get_or core a 0

-- the record mark of a digit's cell
mark_at : (flag : Bool) (v : ℕ) → v < 16 → (if is_cell_value v then has_mark (cell (record { flag = flag; value = v })) else (v == RECORD_MARK)) ≡ (v == RECORD_MARK)
unfolding cell ones
mark_at true v below = same_below (λ v. if is_cell_value v then has_mark (cell (record { flag = true; value = v })) else (v == RECORD_MARK)) (λ v. v == RECORD_MARK) 16 v true refl below
mark_at false v below = same_below (λ v. if is_cell_value v then has_mark (cell (record { flag = false; value = v })) else (v == RECORD_MARK)) (λ v. v == RECORD_MARK) 16 v true refl below

cell_mark : (d : Digit) → IsGood d → has_mark (cell d) ≡ (d.value == RECORD_MARK)
cell_mark d good = ap (λ (b : Bool). if b then has_mark (cell d) else (d.value == RECORD_MARK)) (sym good) ∙ mark_at d.flag d.value (below_16 d.value good)

-- nothing is stored
rises_none : (core : List ℕ) (p : ℕ) → Rises core core p
rises_none core p = record { long = refl; below = λ a h. refl; above = λ a b low high mark. refl }

module _ (core : List ℕ) (p : ℕ) (d : Digit) where
  other_cell : (a : ℕ) → a ≢ p → get_or (store core p d) a 0 ≡ get_or core a 0
  other_cell a other = get_or-set_other core p a (cell d) 0 other

  -- the last store
  rises_last : Rises core (store core p d) p
  rises_last = record {
    long = length-set core p (cell d);
    below = λ a h. other_cell a (λ is. absurd (omega (arith, is, h)));
    above = λ a b low high mark. other_cell a (λ is. absurd (omega (arith, is, low, high)));
  }

  -- a store of a digit that is no record mark
  rises_more : (new : List ℕ) → p < length core → IsGood d → (d.value == RECORD_MARK) ≡ false → Rises (store core p d) new (p + 1) → Rises core new p
  rises_more new inside good plain rest = record {
    long = rest.long ∙ length-set core p (cell d);
    below = λ a h. rest.below a (omega (arith, h)) ∙ other_cell a (λ is. absurd (omega (arith, is, h)));
    above = λ a b low high mark.
        elim (cases_eq b p) [
          | inl is ↦
              let stored : get_or new b 0 ≡ cell d = ap (λ j. get_or new j 0) is ∙ rest.below p (omega arith) ∙ get_or-set_same core p (cell d) 0 inside in
              no_both (has_mark (get_or new b 0)) mark (ap has_mark stored ∙ cell_mark d good ∙ plain)
          | inr differs ↦
              rest.above a b (omega (arith, low, differs)) high mark ∙ other_cell a (λ is. absurd (omega (arith, is, low, high)))
        ];
  }

module _ (core : List ℕ) (p q p_left q_left : ℕ) (inside : p < length core)
    (rest : (d : Digit) → Rises (store core p d) (core_after (store core p d) (record_cycles (store core p d) (p + 1) (q + 1) p_left q_left).effects) (p + 1)) where
  by_mark : (d : Digit) → IsGood d → (b : Bool) → (d.value == RECORD_MARK) ≡ b
      → Rises core (core_after core (stores p d (if b then ends (Ok tt) else record_cycles (store core p d) (p + 1) (q + 1) p_left q_left)).effects) p
  by_mark d good true is = rises_last core p d
  by_mark d good false is =
      rises_more core p d (core_after (store core p d) (record_cycles (store core p d) (p + 1) (q + 1) p_left q_left).effects) inside good is (rest d)

  by_read : (r : Result Digit Stop) → IsGoodRead r
      → Rises core (core_after core (r >>= (λ d. stores p d (if d.value == RECORD_MARK then ends (Ok tt) else record_cycles (store core p d) (p + 1) (q + 1) p_left q_left))).effects) p
  by_read (Err why) good = rises_none core p
  by_read (Ok d) good = by_mark d good (d.value == RECORD_MARK) refl

cycles_rise : (core : List ℕ) (p q p_left q_left : ℕ) → p + p_left ≤ length core → Rises core (core_after core (record_cycles core p q p_left q_left).effects) p
unfolding record_cycles
cycles_rise core p q zero q_left room = rises_none core p
cycles_rise core p q (suc p_left) zero room = rises_none core p
cycles_rise core p q (suc p_left) (suc q_left) room =
    by_read core p q p_left q_left (omega (arith, room))
    (λ d. cycles_rise (store core p d) (p + 1) (q + 1) p_left q_left (omega (arith, room, length-set core p (cell d)))) (read_at core q) (reads core q)

-- TR STORES WITHIN THE RECORD THAT BEGINS AT P, AS IT STANDS AFTERWARDS.
pub record_rises : (core : List ℕ) (p q : ℕ) → p < length core → Rises core (core_after core (move_record core p q).effects) p
record_rises core p q inside = cycles_rise core p q (length core - p) (length core - q) (omega (arith, inside))
