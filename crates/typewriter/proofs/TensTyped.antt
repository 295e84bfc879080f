-- The characters of ten cells at a time.
use Rattle.std.proofs.Common.{nat_lt, ℕ, suc, ◌≡◌, ◌+◌, ◌*◌, ◌<◌, ◌≤◌, ◌==◌, ◌%◌, List, [], ◌∷◌, length, drop, get_or, true, false, Result, Ok, Err, refl, ap, arith}
use Rattle.std.proofs.lemmas.List.{drop_more}
use Rattle.std.proofs.lemmas.Bool.Decides.{nat_tests}
use Rattle.std.specs.Prelude.{⊤, Bool, ◌/◌, count_ones, if◌then◌else◌, Option, Some, None, MatchOption, IfSome}
use Rattle.digit_core.specs.declared.Digit.{Digit}
use Rattle.digit_core.specs.declared.CellFault.{CellFault}
use Rattle.digit_core.specs.declared.CellFault.TheVariants.{EvenParity, BadValue}
use Rattle.digit_core.specs.Cell.{read_cell, is_cell_value}
use Rattle.digit_core.specs.declared.TheConstants.{RECORD_MARK}
use Rattle.digit_core.specs.Packed.{six}
use Rattle.digit_core.specs.Search.{has_mark}
use Rattle.addr_indirect.specs.declared.Stop.{Stop}
use Rattle.addr_indirect.specs.Reading.{read_at, or_stop}
use Rattle.traces.specs.Trace.{Trace, does, does_all, ends, map_answer, ◌>>=◌}
use Rattle.card_code.specs.Characters.{object_char}
use Rattle.card_code.specs.TextOut.{pair_char}
use Rattle.digit_core.specs.Within.{HasBad}
use Rattle.card_code.specs.Words.{AreChars}
use Rattle.typewriter.specs.Typing.{type_cells, type_pairs, dump_cells}
use Rattle.typewriter.specs.Tens.{ArePairs}
use Rattle.typewriter.proofs.PairsTyped.{pair_first, pair_on}

-- the character of a cell
char_or : ℕ → Result ℕ CellFault → ℕ
char_or x (Ok c) = c
char_or x (Err e) = x

digit_or : Digit → Result Digit CellFault → Digit
digit_or x (Ok d) = d
digit_or x (Err e) = x

-- a good cell's character is dumped
char_dumped : (a : ℕ) (r : Result Digit CellFault) (c : ℕ) (t : Trace ℕ ⊤ Stop) → map_answer object_char r ≡ Ok c → (or_stop a r >>= (λ d. does (object_char d) t)) ≡ does c t
unfolding char_or
char_dumped a (Err e) c t is = cc
char_dumped a (Ok d) c t is =
    let e : object_char d ≡ c = ap (char_or 0) is in
    rw e refl

cells_dumped : (core chars : List ℕ) (a : ℕ) → a + length chars ≤ length core → ((j : ℕ) → j < length chars → map_answer object_char (read_cell (get_or core (a + j) 0)) ≡ Ok (get_or chars j 0))
    → dump_cells a (drop a core) ≡ does_all chars (dump_cells (a + length chars) (drop (a + length chars) core))
unfolding dump_cells
cells_dumped core [] a room are =
    let z : a + 0 ≡ a = omega arith in
    rw z refl
cells_dumped core (c ∷ cs) a room are =
    let h : a < length core = omega arith in
    let z : a + 0 ≡ a = omega arith in
    let s : a + 1 + length cs ≡ a + suc (length cs) = omega arith in
    let first = are 0 (omega arith) in
    let first_is = rw z at first in
    let rest = cells_dumped core cs (a + 1) (omega arith) (λ j below. let g : a + 1 + j ≡ a + suc j = omega arith in rw g (are (suc j) (omega arith))) in
    rw (drop_more core a 0 h, rest, s) (char_dumped a (read_cell (get_or core a 0)) c (does_all cs (dump_cells (a + suc (length cs)) (drop (a + suc (length cs)) core))) first_is)

-- ten that a word has
ten_dumped : (core chars : List ℕ) (a w : ℕ) → a + 10 ≤ length core → AreChars object_char w chars → ((j : ℕ) → j < 10 → six w j ≡ get_or core (a + j) 0)
    → dump_cells a (drop a core) ≡ does_all chars (dump_cells (a + 10) (drop (a + 10) core))
ten_dumped core chars a w room are cells =
    let ten = are.ten in
    let all = cells_dumped core chars a (omega arith) (λ j below. let e = cells j (omega arith) in rw (← e) (are.chars_are j (omega arith))) in
    rw ten at all

-- where it has them
pub ten_dumped_if : (core : List ℕ) (a w : ℕ) (r : Option (List ℕ)) → a + 10 ≤ length core → MatchOption r (HasBad w) (AreChars object_char w) → ((j : ℕ) → j < 10 → six w j ≡ get_or core (a + j) 0)
    → IfSome r (λ chars. dump_cells a (drop a core) ≡ does_all chars (dump_cells (a + 10) (drop (a + 10) core)))
ten_dumped_if core a w None room says cells = tt
ten_dumped_if core a w (Some chars) room says cells = ten_dumped core chars a w room says cells

-- the digit of a cell by its two tests
tested : (even good flag : Bool) (v : ℕ) → Result Digit CellFault
tested even good flag v = if even then Err EvenParity else if good then Ok (record { flag = flag; value = v }) else Err BadValue

tested_typed : (even good flag : Bool) (v a c : ℕ) (t : Trace ℕ ⊤ Stop) → map_answer object_char (tested even good flag v) ≡ Ok c → (v == RECORD_MARK) ≡ false
    → (or_stop a (tested even good flag v) >>= (λ d. if d.value == RECORD_MARK then ends (Ok tt) else does (object_char d) t)) ≡ does c t
unfolding tested char_or
tested_typed true good flag v a c t is other = cc
tested_typed false false flag v a c t is other = cc
tested_typed false true flag v a c t is other =
    let e : object_char (record { flag = flag; value = v }) ≡ c = ap (char_or 0) is in
    rw (other, e) refl

-- a good cell's character is typed where it is no record mark
char_typed : (a cell c : ℕ) (t : Trace ℕ ⊤ Stop) → map_answer object_char (read_cell cell) ≡ Ok c → has_mark cell ≡ false
    → (or_stop a (read_cell cell) >>= (λ d. if d.value == RECORD_MARK then ends (Ok tt) else does (object_char d) t)) ≡ does c t
unfolding read_cell tested
char_typed a cell c t is other = tested_typed (count_ones cell % 2 == 0) (is_cell_value (cell % 16)) (cell / 16 % 2 == 1) (cell % 16) a c t is other

cells_typed : (core chars : List ℕ) (a : ℕ) → a + length chars ≤ length core → ((j : ℕ) → j < length chars → map_answer object_char (read_cell (get_or core (a + j) 0)) ≡ Ok (get_or chars j 0))
    → ((j : ℕ) → j < length chars → has_mark (get_or core (a + j) 0) ≡ false) → type_cells a (drop a core) ≡ does_all chars (type_cells (a + length chars) (drop (a + length chars) core))
unfolding type_cells
cells_typed core [] a room are others =
    let z : a + 0 ≡ a = omega arith in
    rw z refl
cells_typed core (c ∷ cs) a room are others =
    let h : a < length core = omega arith in
    let z : a + 0 ≡ a = omega arith in
    let s : a + 1 + length cs ≡ a + suc (length cs) = omega arith in
    let first = are 0 (omega arith) in
    let first_is = rw z at first in
    let other = others 0 (omega arith) in
    let other_is = rw z at other in
    let rest = cells_typed core cs (a + 1) (omega arith) (λ j below. let g : a + 1 + j ≡ a + suc j = omega arith in rw g (are (suc j) (omega arith)))
    (λ j below. let g : a + 1 + j ≡ a + suc j = omega arith in rw g (others (suc j) (omega arith))) in
    rw (drop_more core a 0 h, rest, s) (char_typed a (get_or core a 0) c (does_all cs (type_cells (a + suc (length cs)) (drop (a + suc (length cs)) core))) first_is other_is)

ten_typed : (core chars : List ℕ) (a w : ℕ) → a + 10 ≤ length core → AreChars object_char w chars → ((j : ℕ) → j < 10 → six w j ≡ get_or core (a + j) 0) → ((j : ℕ) → j < 10 → has_mark (six w j) ≡ false)
    → type_cells a (drop a core) ≡ does_all chars (type_cells (a + 10) (drop (a + 10) core))
ten_typed core chars a w room are cells others =
    let ten = are.ten in
    let all = cells_typed core chars a (omega arith) (λ j below. let e = cells j (omega arith) in rw (← e) (are.chars_are j (omega arith))) (λ j below. let e = cells j (omega arith) in rw (← e) (others j (omega arith))) in
    rw ten at all

-- the same of ten that are typed
pub ten_typed_if : (core : List ℕ) (a w : ℕ) (r : Option (List ℕ)) → a + 10 ≤ length core → MatchOption r (HasBad w) (AreChars object_char w) → ((j : ℕ) → j < 10 → six w j ≡ get_or core (a + j) 0)
    → ((j : ℕ) → j < 10 → has_mark (six w j) ≡ false) → IfSome r (λ chars. type_cells a (drop a core) ≡ does_all chars (type_cells (a + 10) (drop (a + 10) core)))
ten_typed_if core a w None room says cells others = tt
ten_typed_if core a w (Some chars) room says cells others = ten_typed core chars a w room says cells others

-- a digit's value is no record mark where its cell isn't
tested_other : (even good flag : Bool) (v : ℕ) (d : Digit) → tested even good flag v ≡ Ok d → (v == RECORD_MARK) ≡ false → (d.value == RECORD_MARK) ≡ false
unfolding tested digit_or
tested_other true good flag v d is other = cc
tested_other false false flag v d is other = cc
tested_other false true flag v d is other =
    let e : v ≡ d.value = ap (λ (r : Result Digit CellFault). (digit_or d r).value) is in
    rw e at other

other_value : (cell : ℕ) (d : Digit) → read_cell cell ≡ Ok d → has_mark cell ≡ false → (d.value == RECORD_MARK) ≡ false
unfolding read_cell tested
other_value cell d is other = tested_other (count_ones cell % 2 == 0) (is_cell_value (cell % 16)) (cell / 16 % 2 == 1) (cell % 16) d is other

-- the pair number k of a word's five, and then the others
module _ (core : List ℕ) (a w : ℕ) (pairs : ArePairs core a w) where
  read_there : (j : ℕ) (d : Digit) → j < 10 → read_cell (six w j) ≡ Ok d → read_at core (a + j) ≡ Ok d
  unfolding read_at
  read_there j d below is =
      let room = pairs.room in
      let t : nat_lt (a + j) (length core) ≡ true = grind (arith, nat_tests) in
      let e = pairs.cells j below in
      let k = rw e at is in
      rw (t, k) refl

  pub pair_next : (k : ℕ) (zone number : Digit) → k < 5 → read_cell (six w (2 * k)) ≡ Ok zone → read_cell (six w (2 * k + 1)) ≡ Ok number
      → type_pairs (a + 2 * k) (drop (a + 2 * k) core) ≡ pair_first (pair_char zone number) (type_pairs (a + 2 * (k + 1)) (drop (a + 2 * (k + 1)) core))
  pair_next k zone number below zone_is number_is =
      let room = pairs.room in
      let first = read_there (2 * k) zone (omega arith) zone_is in
      let second = read_there (2 * k + 1) number (omega arith) number_is in
      let at : a + (2 * k + 1) ≡ a + 2 * k + 1 = omega arith in
      let next : a + 2 * (k + 1) ≡ a + 2 * k + 2 = omega arith in
      let other = other_value (six w (2 * k + 1)) number number_is (pairs.unmarked (2 * k + 1) (omega arith)) in
      rw next (pair_on core (a + 2 * k) (omega arith) zone first (omega arith) number (rw at at second) other)
