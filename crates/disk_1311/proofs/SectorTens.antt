-- A sector's bytes, ten at a time.
use Rattle.std.proofs.Common.{◌≡◌, ℕ, suc, ◌+◌, ◌<◌, ◌≤◌, Bool, true, false, nat_lt, List, [], ◌∷◌, ◌++◌, length, take, drop, set, get_or, Result, Ok, Err, refl, sym, ◌∙◌, ap, arith, unwrap_or}
use Rattle.std.proofs.lemmas.List.{take-append-drop, drop-drop, length-take, length-drop}
use Rattle.std.proofs.lemmas.Bool.Decides.{nat_tests}
use Rattle.std.specs.Prelude.{Option, Some, None, option_map, if◌then◌else◌, ⊤}
use Rattle.digit_core.specs.declared.Digit.{Digit}
use Rattle.digit_core.specs.Cell.{is_cell_value, cell, read_cell, same_digit}
use Rattle.digit_core.specs.Packed.{six}
use Rattle.digit_core.specs.Written.{core_with_word}
use Rattle.card_code.proofs.CellsWritten.{written_none, written_more}
use Rattle.digit_core.proofs.Digits.{read_cell-cell}
use Rattle.digit_core.proofs.Below.{same_below}
use Rattle.indicators.specs.declared.Panel.{Panel}
use Rattle.addr_indirect.specs.declared.Stop.{Stop}
use Rattle.addr_indirect.specs.Reading.{read_at}
use Rattle.traces.specs.Trace.{Trace, ends, ◌>>=◌, and_then, after_answer}
use Rattle.traces.specs.Change.{Change, Changed, core_after_changes, light_first}
use Rattle.card_code.specs.Characters.{object_digit, digit_in}
use Rattle.card_code.specs.Words.{AreCells}
use Rattle.card_code.proofs.TextsStored.{Rest}
use Rattle.card_code.proofs.InParts.{after_part, broken_part}
use Rattle.disk_1311.specs.Sector.{read_sector, compare_sector, store_byte, differs}
use Rattle.indicators.specs.Codes.{DISK_LENGTH}

-- A byte, and then the bytes behind it.
byte_then : (a : ℕ) (o : Option Digit) (es : List Change) (answer : Result ⊤ Stop) (r : Trace Change ⊤ Stop)
    → store_byte a o (after_answer es answer (λ _. r)) ≡ and_then (store_byte a o (record { effects = es; answer = answer })) (λ _. r)
byte_then a (Some d) es (Ok u) r = refl
byte_then a (Some d) es (Err s) r = refl
byte_then a None es (Ok u) r = refl
byte_then a None es (Err s) r = refl

-- a sector's first bytes are read, and then the others
pub read_parts : (a : ℕ) (xs ys : List ℕ) → read_sector a (xs ++ ys) ≡ and_then (read_sector a xs) (λ _. read_sector (a + length xs) ys)
unfolding read_sector
read_parts a [] ys = let e : a + 0 ≡ a = omega arith in rw e refl
read_parts a (x ∷ xs) ys =
    let e : a + 1 + length xs ≡ a + suc (length xs) = omega arith in
    let rest = read_parts (a + 1) xs ys in
    let first = read_sector (a + 1) xs in
    rw (rest, e) (byte_then a (object_digit x) first.effects first.answer (read_sector (a + suc (length xs)) ys))

-- a comparison of a byte, and then of the bytes behind it
test_then : (b : Bool) (es : List Change) (answer : Result ⊤ Stop) (r : Trace Change ⊤ Stop)
    → (if b then light_first DISK_LENGTH (after_answer es answer (λ _. r)) else after_answer es answer (λ _. r)) ≡ and_then (if b then light_first DISK_LENGTH (record { effects = es; answer = answer }) else record { effects = es; answer = answer }) (λ _. r)
test_then true es (Ok u) r = refl
test_then true es (Err s) r = refl
test_then false es (Ok u) r = refl
test_then false es (Err s) r = refl

cell_then : (read : Result Digit Stop) (o : Option Digit) (t r : Trace Change ⊤ Stop)
    → (read >>= (λ d. if differs d o then light_first DISK_LENGTH (and_then t (λ _. r)) else and_then t (λ _. r))) ≡ and_then (read >>= (λ d. if differs d o then light_first DISK_LENGTH t else t)) (λ _. r)
cell_then (Ok d) o t r = test_then (differs d o) t.effects t.answer r
cell_then (Err s) o t r = refl

-- a sector's first bytes are compared, and then the others
pub compare_parts : (core : List ℕ) (a : ℕ) (xs ys : List ℕ) → compare_sector core a (xs ++ ys) ≡ and_then (compare_sector core a xs) (λ _. compare_sector core (a + length xs) ys)
unfolding compare_sector
compare_parts core a [] ys = let e : a + 0 ≡ a = omega arith in rw e refl
compare_parts core a (x ∷ xs) ys =
    let e : a + 1 + length xs ≡ a + suc (length xs) = omega arith in
    let rest = compare_parts core (a + 1) xs ys in
    rw (rest, e) (cell_then (read_at core a) (object_digit x) (compare_sector core (a + 1) xs) (compare_sector core (a + suc (length xs)) ys))

-- A digit that is stored by its cell.
module _ (core new : List ℕ) (panel new_panel : Panel) (at c : ℕ) (t : Trace Change ⊤ Stop) (r : Result ⊤ Stop) where
  byte_stored : (o : Option Digit) → option_map cell o ≡ Some c → Changed (set core at c) panel t new new_panel r → Changed core panel (store_byte at o t) new new_panel r
  byte_stored None is changed = cc
  byte_stored (Some d) is changed =
      let e : cell d ≡ c = ap (λ (o : Option ℕ). unwrap_or o 0) is in
      record { leaves = changed.leaves ∙ ap (λ (x : ℕ). core_after_changes (set core at x) t.effects) (sym e); shows = changed.shows; answers = changed.answers }

-- bytes that are stored by the cells of a word
module _ (core : List ℕ) (panel : Panel) (a w : ℕ) where
  bytes_stored : (xs : List ℕ) (k : ℕ) → a + k + length xs ≤ length core → ((j : ℕ) → j < length xs → option_map cell (object_digit (get_or xs j 0)) ≡ Some (six w (k + j)))
      → Changed (core_with_word core a k w) panel (read_sector (a + k) xs) (core_with_word core a (k + length xs) w) panel (Ok tt)
  unfolding read_sector
  bytes_stored [] k room are = let e : k + 0 ≡ k = omega arith in rw e (record { leaves = refl; shows = refl; answers = refl })
  bytes_stored (x ∷ xs) k room are =
      let e : k + suc (length xs) ≡ k + 1 + length xs = omega arith in
      let f : a + k + 1 ≡ a + (k + 1) = omega arith in
      let z : k + 0 ≡ k = omega arith in
      let first = are 0 (omega arith) in
      let first_is = rw z at first in
      let more = written_more core a k w (omega arith) in
      let rest = bytes_stored xs (k + 1) (omega arith) (λ j below. let g : k + 1 + j ≡ k + suc j = omega arith in rw g (are (suc j) (omega arith))) in
      rw (e, f) (byte_stored (core_with_word core a k w) (core_with_word core a (k + 1 + length xs) w) panel panel (a + k) (six w k) (read_sector (a + (k + 1)) xs) (Ok tt) (object_digit x) first_is (rw more rest))

  pub ten_stored : (bytes : List ℕ) → length bytes ≡ 10 → a + 10 ≤ length core → AreCells object_digit bytes w → Changed core panel (read_sector a bytes) (core_with_word core a 10 w) panel (Ok tt)
  ten_stored bytes ten room are =
      let z : a + 0 ≡ a = omega arith in
      let t : 0 + length bytes ≡ 10 = omega arith in
      let all = bytes_stored bytes 0 (omega arith) (λ j below. let e : 0 + j ≡ j = omega arith in rw e (are.cells j below)) in
      let none = written_none core a w in
      let is = rw (z, t, ← none) at all in
      is

-- Bytes that are those of their cells.
good_of : Option Digit → Bool
good_of (Some d) = is_cell_value d.value
good_of None = true

each_good : (c : ℕ) → c < 256 → good_of (object_digit c) ≡ true
unfolding digit_in good_of
each_good c below = same_below (λ c. good_of (object_digit c)) (λ c. true) 256 c true refl below

same_flags : (d : Digit) → same_digit d d ≡ true
same_flags d = grind (arith, nat_tests)

module _ (core : List ℕ) (a x : ℕ) (t : Trace Change ⊤ Stop) (within : a < length core) where
  cell_same : (o : Option Digit) → good_of o ≡ true → option_map cell o ≡ Some (get_or core a 0) → (read_at core a >>= (λ d. if differs d o then light_first DISK_LENGTH t else t)) ≡ t
  unfolding read_at good_of
  cell_same None good is = cc
  cell_same (Some d) good is =
      let e : cell d ≡ get_or core a 0 = ap (λ (o : Option ℕ). unwrap_or o 0) is in
      let test : nat_lt a (length core) ≡ true = grind (arith, nat_tests) in
      let reads : read_cell (get_or core a 0) ≡ Ok d = rw (← e) (read_cell-cell d good) in
      let same = same_flags d in
      rw (test, reads, same) refl

module _ (core : List ℕ) where
  bytes_same : (xs : List ℕ) (a : ℕ) → a + length xs ≤ length core → ((k : ℕ) → get_or xs k 0 < 256) → ((j : ℕ) → j < length xs → option_map cell (object_digit (get_or xs j 0)) ≡ Some (get_or core (a + j) 0)) → compare_sector core a xs ≡ ends (Ok tt)
  unfolding compare_sector
  bytes_same [] a room bytes are = refl
  bytes_same (x ∷ xs) a room bytes are =
      let z : a + 0 ≡ a = omega arith in
      let first = are 0 (omega arith) in
      let first_is = rw z at first in
      let rest = bytes_same xs (a + 1) (omega arith) (λ k. bytes (suc k)) (λ j below. let g : a + 1 + j ≡ a + suc j = omega arith in rw g (are (suc j) (omega arith))) in
      rw rest (cell_same core a x (ends (Ok tt)) (omega arith) (object_digit x) (each_good x (bytes 0)) first_is)

  -- ten bytes of which a word has the cells, as core has
  pub ten_same : (panel : Panel) (a w : ℕ) (bytes : List ℕ) → length bytes ≡ 10 → a + 10 ≤ length core → ((k : ℕ) → get_or bytes k 0 < 256) → AreCells object_digit bytes w → ((j : ℕ) → j < 10 → six w j ≡ get_or core (a + j) 0)
      → Changed core panel (compare_sector core a bytes) core panel (Ok tt)
  ten_same panel a w bytes ten room small are cells =
      let same = bytes_same bytes a (omega arith) small (λ j below. are.cells j below ∙ ap Some (cells j (omega arith))) in
      rw same (record { leaves = refl; shows = refl; answers = refl })

-- Ten bytes of a sector, and those behind them.
ten_in_front : (k n : ℕ) (bytes : List ℕ) → n ≡ 10 → drop k bytes ≡ take n (drop k bytes) ++ drop (k + 10) bytes
ten_in_front k n bytes ten =
    let behind : drop n (drop k bytes) ≡ drop (k + 10) bytes = rw ten (drop-drop 10 k bytes) in
    sym (take-append-drop n (drop k bytes)) ∙ ap (λ (ys : List ℕ). take n (drop k bytes) ++ ys) behind

ten_long : (k n : ℕ) (bytes : List ℕ) → n ≡ 10 → k + 10 ≤ length bytes → length (take n (drop k bytes)) ≡ 10
ten_long k n bytes ten room = omega (arith, length-take n (drop k bytes), length-drop k bytes)

module _ (core mid start : List ℕ) (panel mid_panel start_panel : Panel) (whole : Trace Change ⊤ Stop) (a k n : ℕ) (bytes : List ℕ) (ten : n ≡ 10) (room : k + 10 ≤ length bytes) where
  next_place : a + k + length (take n (drop k bytes)) ≡ a + (k + 10)
  next_place = let l = ten_long k n bytes ten room in omega arith

  -- they were read, and the others follow
  pub read_next : Changed core panel (read_sector (a + k) (take n (drop k bytes))) mid mid_panel (Ok tt) → Rest core panel (read_sector (a + k) (drop k bytes)) start start_panel whole
      → Rest mid mid_panel (read_sector (a + (k + 10)) (drop (k + 10) bytes)) start start_panel whole
  read_next part rest =
      let is = ap (λ (xs : List ℕ). read_sector (a + k) xs) (ten_in_front k n bytes ten) ∙ read_parts (a + k) (take n (drop k bytes)) (drop (k + 10) bytes) in
      let next = next_place in
      let whole_rest = rw (is, next) at rest in
      after_part core mid start panel mid_panel start_panel whole (read_sector (a + k) (take n (drop k bytes))) (read_sector (a + (k + 10)) (drop (k + 10) bytes)) part whole_rest

  compare_rest : Rest core panel (compare_sector core (a + k) (drop k bytes)) start start_panel whole
      → Rest core panel (and_then (compare_sector core (a + k) (take n (drop k bytes))) (λ _. compare_sector core (a + (k + 10)) (drop (k + 10) bytes))) start start_panel whole
  compare_rest rest =
      let is = ap (λ (xs : List ℕ). compare_sector core (a + k) xs) (ten_in_front k n bytes ten) ∙ compare_parts core (a + k) (take n (drop k bytes)) (drop (k + 10) bytes) in
      let next = next_place in
      rw (is, next) at rest

  -- they were compared, and the others follow
  pub compare_next : Changed core panel (compare_sector core (a + k) (take n (drop k bytes))) mid mid_panel (Ok tt) → Rest core panel (compare_sector core (a + k) (drop k bytes)) start start_panel whole
      → Rest mid mid_panel (compare_sector core (a + (k + 10)) (drop (k + 10) bytes)) start start_panel whole
  compare_next part rest =
      after_part core mid start panel mid_panel start_panel whole (compare_sector core (a + k) (take n (drop k bytes))) (compare_sector core (a + (k + 10)) (drop (k + 10) bytes)) part (compare_rest rest)

  -- or a bad cell ends the comparison
  pub compare_ends : (s : Stop) → Changed core panel (compare_sector core (a + k) (take n (drop k bytes))) mid mid_panel (Err s) → Rest core panel (compare_sector core (a + k) (drop k bytes)) start start_panel whole
      → Changed start start_panel whole mid mid_panel (Err s)
  compare_ends s part rest =
      broken_part core mid start panel mid_panel start_panel whole (compare_sector core (a + k) (take n (drop k bytes))) (compare_sector core (a + (k + 10)) (drop (k + 10) bytes)) s part (compare_rest rest)
