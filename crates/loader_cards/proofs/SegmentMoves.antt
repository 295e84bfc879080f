-- The move of a segment from its card to its place.
use Rattle.std.proofs.Common.{ℕ, ◌≡◌, ◌+◌, ◌-◌, ◌<◌, ◌≤◌, ◌⊎◌, inl, Bool, true, false, nat_lt, List, length, get_or, Ok, refl, ap, sym, ◌∙◌, arith}
use Rattle.std.proofs.lemmas.Bool.Decides.{nat_tests}
use Rattle.std.specs.Prelude.{if◌then◌else◌}
use lib.Count.{ones}
use Rattle.digit_core.specs.declared.Digit.{Digit}
use Rattle.digit_core.specs.Cell.{IsGood, is_cell_value, cell, has_flag}
use Rattle.digit_core.proofs.Digits.{read_cell-cell}
use Rattle.digit_core.proofs.Below.{same_below}
use Rattle.traces.specs.Stored.{core_after}
use Rattle.field_moves.specs.Move.{move_field}
use Rattle.field_moves.specs.Whole.{IsGoodCell, IsField, ReadsFirstDown}
use Rattle.field_moves.proofs.Fields.{field_moves}
use Rattle.card_columns.specs.Orders.{nth}

below_16 : (d : Digit) → IsGood d → d.value < 16
below_16 d good = grind (arith, nat_tests)

-- the flag of a digit's cell, at the values that a cell can hold
flag_at : (flag : Bool) (v : ℕ) → v < 16 → (if is_cell_value v then has_flag (cell (record { flag = flag; value = v })) else flag) ≡ flag
unfolding cell ones
flag_at true v below = same_below (λ v. if is_cell_value v then has_flag (cell (record { flag = true; value = v })) else true) (λ v. true) 16 v true refl below
flag_at false v below = same_below (λ v. if is_cell_value v then has_flag (cell (record { flag = false; value = v })) else false) (λ v. false) 16 v true refl below

-- it has six bits
small_at : (flag : Bool) (v : ℕ) → v < 16 → (if is_cell_value v then nat_lt (cell (record { flag = flag; value = v })) 64 else true) ≡ true
unfolding cell ones
small_at true v below = same_below (λ v. if is_cell_value v then nat_lt (cell (record { flag = true; value = v })) 64 else true) (λ v. true) 16 v true refl below
small_at false v below = same_below (λ v. if is_cell_value v then nat_lt (cell (record { flag = false; value = v })) 64 else true) (λ v. true) 16 v true refl below

-- a good digit's cell has the digit's flag
cell_flag : (d : Digit) → IsGood d → has_flag (cell d) ≡ d.flag
cell_flag d good = ap (λ (b : Bool). if b then has_flag (cell d) else d.flag) (sym good) ∙ flag_at d.flag d.value (below_16 d good)

cell_small : (d : Digit) → IsGood d → nat_lt (cell d) 64 ≡ true
cell_small d good = ap (λ (b : Bool). if b then nat_lt (cell d) 64 else true) (sym good) ∙ small_at d.flag d.value (below_16 d good)

-- and is a good cell
good_cell : (d : Digit) → IsGood d → IsGoodCell (cell d)
good_cell d good = let small = cell_small d good in (grind (arith, nat_tests), rw (read_cell-cell d good) refl)

-- n digits, two or more, stand in core from src on, are good, the lowest is flagged, and none between that and the highest
pub record Field (core : List ℕ) (src n : ℕ) (ds : List Digit) : Type 0 where
  pub some : 2 ≤ n
  pub inside : src + n ≤ length core
  pub cells : (i : ℕ) → i < n → get_or core (src + i) 0 ≡ cell (nth ds i)
  pub good : (i : ℕ) → i < n → IsGood (nth ds i)
  pub low : (nth ds 0).flag ≡ true
  pub others : (i : ℕ) → 0 < i → i + 1 < n → (nth ds i).flag ≡ false

-- such digits are a field
is_field : (core : List ℕ) (src n u : ℕ) (ds : List Digit) → u + 1 ≡ src + n → Field core src n ds → IsField core u n
is_field core src n u ds e f =
    let some : 2 ≤ n = f.some in
    let inside : src + n ≤ length core = f.inside in
    let at : (i : ℕ) → i < n → u - i ≡ src + (n - 1 - i) = λ i l. omega arith in
    let lowest : u + 1 - n ≡ src + 0 = omega arith in
    record {
      some = some;
      low = omega arith;
      high = omega arith;
      good = λ i l. rw (at i l, f.cells (n - 1 - i) (omega arith)) (good_cell (nth ds (n - 1 - i)) (f.good (n - 1 - i) (omega arith)));
      ends = rw (lowest, f.cells 0 (omega arith), cell_flag (nth ds 0) (f.good 0 (omega arith))) f.low;
      goes_on = λ i p l. rw (at i (omega arith), f.cells (n - 1 - i) (omega arith), cell_flag (nth ds (n - 1 - i)) (f.good (n - 1 - i) (omega arith))) (f.others (n - 1 - i) (omega arith) (omega arith));
    }

-- the core that a field's move leaves
abbrev pub core_moved : List ℕ → ℕ → ℕ → List ℕ
core_moved core p q = core_after core (move_field core p q).effects

-- such digits move
pub record MovesUp (core : List ℕ) (p q dst n : ℕ) (ds : List Digit) : Type 0 where
  pub answer : (move_field core p q).answer ≡ Ok tt
  pub there : (i : ℕ) → i < n → get_or (core_moved core p q) (dst + i) 0 ≡ cell (nth ds i)
  pub others : (a : ℕ) → (a < dst) ⊎ (dst + n ≤ a) → get_or (core_moved core p q) a 0 ≡ get_or core a 0
  pub long : length (core_moved core p q) ≡ length core

pub moves : (core : List ℕ) (src dst n p q : ℕ) (ds : List Digit) → q + 1 ≡ src + n → p + 1 ≡ dst + n → ReadsFirstDown p q n → p < length core → Field core src n ds → MovesUp core p q dst n ds
moves core src dst n p q ds eq ep first inside f =
    let some : 2 ≤ n = f.some in
    let m = field_moves core (core_moved core p q) p q n (move_field core p q).answer (record { leaves = refl; answers = refl }) inside (record { field = is_field core src n q ds eq f; room = omega arith; reads_first = first }) in
    let from : q + 1 - n ≡ src = omega arith in
    let to : p + 1 - n ≡ dst = omega arith in
    let a = rw (from, to) at m.1 in
    record {
      answer = m.0;
      there = λ i l. a.moved i l ∙ f.cells i l;
      others = a.others;
      long = a.long;
    }

pub moves_up : (core : List ℕ) (src dst n p q : ℕ) (ds : List Digit) → q + 1 ≡ src + n → p + 1 ≡ dst + n → q ≤ p → p < length core → Field core src n ds → MovesUp core p q dst n ds
moves_up core src dst n p q ds eq ep up inside f = moves core src dst n p q ds eq ep (inl up) inside f
