-- A text's digits, some at a time.
use Rattle.std.proofs.Common.{◌≡◌, ℕ, suc, ◌+◌, ◌<◌, ◌≤◌, Bool, true, false, nat_lt, List, [], ◌∷◌, ◌++◌, length, take, drop, set, get_or, Result, Ok, Err, refl, sym, ◌∙◌, ap, arith, unwrap_or}
use Rattle.std.proofs.lemmas.List.{take-append-drop, drop-drop, drop_more, length-take, length-drop}
use Rattle.std.proofs.lemmas.Bool.Decides.{nat_tests}
use Rattle.std.specs.Prelude.{Option, Some, None, option_map, ⊤}
use Rattle.digit_core.specs.declared.Digit.{Digit}
use Rattle.digit_core.specs.Cell.{cell, store, unflagged_digit}
use Rattle.digit_core.specs.Packed.{six}
use Rattle.digit_core.specs.Written.{core_with_word}
use Rattle.card_code.proofs.CellsWritten.{written_none, written_more}
use Rattle.indicators.specs.declared.Panel.{Panel}
use Rattle.indicators.specs.Panel.{set as set_lamp}
use Rattle.addr_indirect.specs.declared.Stop.{Stop}
use Rattle.addr_indirect.specs.declared.Stop.TheVariants.{Address}
use Rattle.traces.specs.Trace.{Trace, and_then, after_answer}
use Rattle.traces.specs.Change.{Change, Changed, core_after_changes}
use Rattle.card_code.specs.Characters.{num_of}
use Rattle.card_code.specs.TextIn.{store_digit, store_digits}
use Rattle.indicators.specs.Codes.{READ_CHECK}
use Rattle.card_code.specs.Words.{AreCells}
use Rattle.card_code.proofs.TextsStored.{Rest}
use Rattle.card_code.proofs.InParts.{after_part, broken_part}

-- A character's digit, and then those behind it.
char_then : (n a : ℕ) (within : Bool) → nat_lt a n ≡ within → (o : Option Digit) (es : List Change) (answer : Result ⊤ Stop) (r : Trace Change ⊤ Stop)
    → store_digit n a o (after_answer es answer (λ _. r)) ≡ and_then (store_digit n a o (record { effects = es; answer = answer })) (λ _. r)
char_then n a true test (Some d) es (Ok u) r = rw test refl
char_then n a true test (Some d) es (Err s) r = rw test refl
char_then n a true test None es (Ok u) r = rw test refl
char_then n a true test None es (Err s) r = rw test refl
char_then n a false test (Some d) es answer r = rw test refl
char_then n a false test None es answer r = rw test refl

-- the first digits of a text, and then the others
store_parts : (n a : ℕ) (xs ys : List ℕ) → store_digits n a (xs ++ ys) ≡ and_then (store_digits n a xs) (λ _. store_digits n (a + length xs) ys)
unfolding store_digits
store_parts n a [] ys = let e : a + 0 ≡ a = omega arith in rw e refl
store_parts n a (x ∷ xs) ys =
    let e : a + 1 + length xs ≡ a + suc (length xs) = omega arith in
    let rest = store_parts n (a + 1) xs ys in
    let first = store_digits n (a + 1) xs in
    rw (rest, e) (char_then n a (nat_lt a n) refl (num_of x) first.effects first.answer (store_digits n (a + suc (length xs)) ys))

-- A digit that is stored by its cell.
module _ (core new : List ℕ) (panel new_panel : Panel) (n at c : ℕ) (t : Trace Change ⊤ Stop) (r : Result ⊤ Stop) (within : at < n) where
  char_stored : (o : Option Digit) → option_map cell o ≡ Some c → Changed (set core at c) panel t new new_panel r → Changed core panel (store_digit n at o t) new new_panel r
  char_stored None is changed = cc
  char_stored (Some d) is changed =
      let test : nat_lt at n ≡ true = grind (arith, nat_tests) in
      let e : cell d ≡ c = ap (λ (o : Option ℕ). unwrap_or o 0) is in
      rw test (record { leaves = changed.leaves ∙ ap (λ (x : ℕ). core_after_changes (set core at x) t.effects) (sym e); shows = changed.shows; answers = changed.answers })

-- digits that are stored by the cells of a word
module _ (core : List ℕ) (panel : Panel) (n a w : ℕ) (long : length core ≡ n) where
  chars_stored : (xs : List ℕ) (k : ℕ) → a + k + length xs ≤ n → ((j : ℕ) → j < length xs → option_map cell (num_of (get_or xs j 0)) ≡ Some (six w (k + j)))
      → Changed (core_with_word core a k w) panel (store_digits n (a + k) xs) (core_with_word core a (k + length xs) w) panel (Ok tt)
  unfolding store_digits
  chars_stored [] k room are = let e : k + 0 ≡ k = omega arith in rw e (record { leaves = refl; shows = refl; answers = refl })
  chars_stored (x ∷ xs) k room are =
      let e : k + suc (length xs) ≡ k + 1 + length xs = omega arith in
      let f : a + k + 1 ≡ a + (k + 1) = omega arith in
      let z : k + 0 ≡ k = omega arith in
      let first = are 0 (omega arith) in
      let first_is = rw z at first in
      let more = written_more core a k w (omega arith) in
      let rest = chars_stored xs (k + 1) (omega arith) (λ j below. let g : k + 1 + j ≡ k + suc j = omega arith in rw g (are (suc j) (omega arith))) in
      rw (e, f) (char_stored (core_with_word core a k w) (core_with_word core a (k + 1 + length xs) w) panel panel n (a + k) (six w k) (store_digits n (a + (k + 1)) xs) (Ok tt) (omega arith) (num_of x) first_is (rw more rest))

  pub ten_stored : (text : List ℕ) → length text ≡ 10 → a + 10 ≤ n → AreCells num_of text w → Changed core panel (store_digits n a text) (core_with_word core a 10 w) panel (Ok tt)
  ten_stored text ten room are =
      let z : a + 0 ≡ a = omega arith in
      let t : 0 + length text ≡ 10 = omega arith in
      let all = chars_stored text 0 (omega arith) (λ j below. let e : 0 + j ≡ j = omega arith in rw e (are.cells j below)) in
      let none = written_none core a w in
      let is = rw (z, t, ← none) at all in
      is

-- m characters of a text, and those behind them
module _ (core mid start : List ℕ) (panel mid_panel start_panel : Panel) (whole : Trace Change ⊤ Stop) (n a k m : ℕ) (text : List ℕ) (room : k + m ≤ length text) where
  abbrev part : List ℕ
  part = take m (drop k text)

  parts : Rest core panel (store_digits n (a + k) (drop k text)) start start_panel whole → Rest core panel (and_then (store_digits n (a + k) part) (λ _. store_digits n (a + (k + m)) (drop (k + m) text))) start start_panel whole
  parts rest =
      let split : drop k text ≡ part ++ drop (k + m) text = sym (take-append-drop m (drop k text)) ∙ ap (λ (ys : List ℕ). part ++ ys) (drop-drop m k text) in
      let next : a + k + length part ≡ a + (k + m) = omega (arith, length-take m (drop k text), length-drop k text) in
      let is = ap (λ (xs : List ℕ). store_digits n (a + k) xs) split ∙ store_parts n (a + k) part (drop (k + m) text) in
      rw (is, next) at rest

  -- they were stored, and the others follow
  pub stored_part : Changed core panel (store_digits n (a + k) part) mid mid_panel (Ok tt) → Rest core panel (store_digits n (a + k) (drop k text)) start start_panel whole
      → Rest mid mid_panel (store_digits n (a + (k + m)) (drop (k + m) text)) start start_panel whole
  stored_part done rest = after_part core mid start panel mid_panel start_panel whole (store_digits n (a + k) part) (store_digits n (a + (k + m)) (drop (k + m) text)) done (parts rest)

  -- or the end of core ends it
  pub part_stopped : (s : Stop) → Changed core panel (store_digits n (a + k) part) mid mid_panel (Err s) → Rest core panel (store_digits n (a + k) (drop k text)) start start_panel whole → Changed start start_panel whole mid mid_panel (Err s)
  part_stopped s done rest = broken_part core mid start panel mid_panel start_panel whole (store_digits n (a + k) part) (store_digits n (a + (k + m)) (drop (k + m) text)) s done (parts rest)

-- one character
pub one_char : (k : ℕ) (text : List ℕ) → k < length text → take 1 (drop k text) ≡ get_or text k 0 ∷ []
one_char k text more = rw (drop_more text k 0 more) refl

pub ten_chars : (k : ℕ) (text : List ℕ) → k + 10 ≤ length text → length (take 10 (drop k text)) ≡ 10
ten_chars k text room = omega (arith, length-take 10 (drop k text), length-drop k text)

-- One character alone: past the end of core, good, or bad.
module _ (core : List ℕ) (panel : Panel) (n at c : ℕ) where
  pub one_out : n ≤ at → (o : Option Digit) → num_of c ≡ o → Changed core panel (store_digits n at (c ∷ [])) core panel (Err Address)
  unfolding store_digits
  one_out out (Some d) is = let test : nat_lt at n ≡ false = grind (arith, nat_tests) in rw (is, test) (record { leaves = refl; shows = refl; answers = refl })
  one_out out None is = let test : nat_lt at n ≡ false = grind (arith, nat_tests) in rw (is, test) (record { leaves = refl; shows = refl; answers = refl })

  pub one_good : at < n → (d : Digit) → num_of c ≡ Some d → Changed core panel (store_digits n at (c ∷ [])) (store core at d) panel (Ok tt)
  unfolding store_digits
  one_good within d is = let test : nat_lt at n ≡ true = grind (arith, nat_tests) in rw (is, test) (record { leaves = refl; shows = refl; answers = refl })

  pub one_bad : at < n → num_of c ≡ None → Changed core panel (store_digits n at (c ∷ [])) (store core at (unflagged_digit 0)) (set_lamp READ_CHECK true panel) (Ok tt)
  unfolding store_digits
  one_bad within is = let test : nat_lt at n ≡ true = grind (arith, nat_tests) in rw (is, test) (record { leaves = refl; shows = refl; answers = refl })
