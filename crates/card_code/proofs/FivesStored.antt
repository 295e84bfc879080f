-- A text's pairs, five characters at a time.
use Rattle.std.proofs.Common.{◌≡◌, ℕ, suc, ◌+◌, ◌*◌, ◌<◌, ◌≤◌, Bool, true, false, nat_lt, List, [], ◌∷◌, ◌++◌, length, take, drop, set, get_or, Result, Ok, Err, refl, sym, ◌∙◌, ap, arith}
use Rattle.std.proofs.lemmas.List.{take-append-drop, drop-drop, length-take, length-drop}
use Rattle.std.proofs.lemmas.Bool.Decides.{nat_tests}
use Rattle.std.specs.Prelude.{Option, Some, None, option_map, ⊤}
use Rattle.digit_core.specs.Cell.{cell, unflagged_digit}
use Rattle.digit_core.specs.Packed.{six}
use Rattle.digit_core.specs.Written.{core_with_word}
use Rattle.indicators.specs.declared.Panel.{Panel}
use Rattle.addr_indirect.specs.declared.Stop.{Stop}
use Rattle.traces.specs.Trace.{Trace, and_then, after_answer}
use Rattle.traces.specs.Change.{Change, Changed, core_after_changes}
use Rattle.card_code.specs.Pairs.{Pair, alpha_of}
use Rattle.card_code.specs.TextIn.{store_pair, store_pairs}
use Rattle.card_code.specs.Words.{pair_cells, ArePairCells}
use Rattle.card_code.proofs.CellsWritten.{written_none, written_more}
use Rattle.card_code.proofs.TextsStored.{Rest}
use Rattle.card_code.proofs.InParts.{after_part}

-- A character's pair, and then those behind it.
pair_then : (n a : ℕ) (first second : Bool) → nat_lt a n ≡ first → nat_lt (a + 1) n ≡ second → (o : Option Pair) (es : List Change) (answer : Result ⊤ Stop) (r : Trace Change ⊤ Stop)
    → store_pair n a o (after_answer es answer (λ _. r)) ≡ and_then (store_pair n a o (record { effects = es; answer = answer })) (λ _. r)
pair_then n a true true in_first in_second (Some p) es (Ok u) r = rw (in_first, in_second) refl
pair_then n a true true in_first in_second (Some p) es (Err s) r = rw (in_first, in_second) refl
pair_then n a true true in_first in_second None es (Ok u) r = rw (in_first, in_second) refl
pair_then n a true true in_first in_second None es (Err s) r = rw (in_first, in_second) refl
pair_then n a true false in_first in_second (Some p) es answer r = rw (in_first, in_second) refl
pair_then n a true false in_first in_second None es answer r = rw (in_first, in_second) refl
pair_then n a false second in_first in_second (Some p) es answer r = rw in_first refl
pair_then n a false second in_first in_second None es answer r = rw in_first refl

-- the first pairs of a text, and then the others
pairs_in_parts : (n a : ℕ) (xs ys : List ℕ) → store_pairs n a (xs ++ ys) ≡ and_then (store_pairs n a xs) (λ _. store_pairs n (a + 2 * length xs) ys)
unfolding store_pairs
pairs_in_parts n a [] ys = let e : a + 2 * 0 ≡ a = omega arith in rw e refl
pairs_in_parts n a (x ∷ xs) ys =
    let e : a + 2 + 2 * length xs ≡ a + 2 * suc (length xs) = omega arith in
    let rest = pairs_in_parts n (a + 2) xs ys in
    let first = store_pairs n (a + 2) xs in
    rw (rest, e) (pair_then n a (nat_lt a n) (nat_lt (a + 1) n) refl refl (alpha_of x) first.effects first.answer (store_pairs n (a + 2 * suc (length xs)) ys))

-- what cells a pair has
cells_or : Option (ℕ × ℕ) → ℕ × ℕ
cells_or (Some p) = p
cells_or None = (0, 0)

-- A pair that is stored by its cells.
module _ (core new : List ℕ) (panel new_panel : Panel) (n at c d : ℕ) (t : Trace Change ⊤ Stop) (r : Result ⊤ Stop) (within : at + 1 < n) where
  pair_stored : (o : Option Pair) → option_map pair_cells o ≡ Some (c, d) → Changed (set (set core at c) (at + 1) d) panel t new new_panel r → Changed core panel (store_pair n at o t) new new_panel r
  unfolding cells_or
  pair_stored None is changed = cc
  pair_stored (Some p) is changed =
      let first : nat_lt at n ≡ true = grind (arith, nat_tests) in
      let second : nat_lt (at + 1) n ≡ true = grind (arith, nat_tests) in
      let e : cell (unflagged_digit p.zone) ≡ c = ap (λ (o : Option (ℕ × ℕ)). (cells_or o).0) is in
      let f : cell (unflagged_digit p.number) ≡ d = ap (λ (o : Option (ℕ × ℕ)). (cells_or o).1) is in
      let zone = ap (λ (x : ℕ). core_after_changes (set (set core at x) (at + 1) d) t.effects) (sym e) in
      let number = ap (λ (x : ℕ). core_after_changes (set (set core at (cell (unflagged_digit p.zone))) (at + 1) x) t.effects) (sym f) in
      rw (first, second) (record { leaves = changed.leaves ∙ zone ∙ number; shows = changed.shows; answers = changed.answers })

-- pairs that are stored by the cells of a word
module _ (core : List ℕ) (panel : Panel) (n a w : ℕ) (long : length core ≡ n) where
  pairs_stored : (xs : List ℕ) (k : ℕ) → a + k + 2 * length xs ≤ n → ((j : ℕ) → j < length xs → option_map pair_cells (alpha_of (get_or xs j 0)) ≡ Some (six w (k + 2 * j), six w (k + 2 * j + 1)))
      → Changed (core_with_word core a k w) panel (store_pairs n (a + k) xs) (core_with_word core a (k + 2 * length xs) w) panel (Ok tt)
  unfolding store_pairs
  pairs_stored [] k room are = let e : k + 2 * 0 ≡ k = omega arith in rw e (record { leaves = refl; shows = refl; answers = refl })
  pairs_stored (x ∷ xs) k room are =
      let e : k + 2 * suc (length xs) ≡ k + 2 + 2 * length xs = omega arith in
      let f : a + k + 2 ≡ a + (k + 2) = omega arith in
      let z : k + 2 * 0 ≡ k = omega arith in
      let first = are 0 (omega arith) in
      let first_is = rw z at first in
      let g : a + (k + 1) ≡ a + k + 1 = omega arith in
      let h : k + 1 + 1 ≡ k + 2 = omega arith in
      let one = written_more core a k w (omega arith) in
      let next = written_more core a (k + 1) w (omega arith) in
      let more = rw (← one, g, h) at next in
      let rest = pairs_stored xs (k + 2) (omega arith) (λ j below. let i : k + 2 + 2 * j ≡ k + 2 * suc j = omega arith in rw i (are (suc j) (omega arith))) in
      rw (e, f) (pair_stored (core_with_word core a k w) (core_with_word core a (k + 2 + 2 * length xs) w) panel panel n (a + k) (six w k) (six w (k + 1)) (store_pairs n (a + (k + 2)) xs) (Ok tt) (omega arith) (alpha_of x) first_is (rw more rest))

  five_stored : (text : List ℕ) → length text ≡ 5 → a + 10 ≤ n → ArePairCells text w → Changed core panel (store_pairs n a text) (core_with_word core a 10 w) panel (Ok tt)
  five_stored text five room are =
      let z : a + 0 ≡ a = omega arith in
      let t : 0 + 2 * length text ≡ 10 = omega arith in
      let all = pairs_stored text 0 (omega arith) (λ j below. let e : 0 + 2 * j ≡ 2 * j = omega arith in rw e (are.cells j below)) in
      let none = written_none core a w in
      rw (z, t, ← none) at all

-- five pairs from character k on were stored, and the others follow
module _ (core start : List ℕ) (panel start_panel : Panel) (whole : Trace Change ⊤ Stop) (n a k w : ℕ) (text : List ℕ) (long : length core ≡ n) (room : k + 5 ≤ length text) where
  abbrev part : List ℕ
  part = take 5 (drop k text)

  pub five_on : a + 10 ≤ n → ArePairCells part w → Rest core panel (store_pairs n a (drop k text)) start start_panel whole
      → Rest (core_with_word core a 10 w) panel (store_pairs n (a + 10) (drop (k + 5) text)) start start_panel whole
  five_on fits are rest =
      let five : length part ≡ 5 = omega (arith, length-take 5 (drop k text), length-drop k text) in
      let split : drop k text ≡ part ++ drop (k + 5) text = sym (take-append-drop 5 (drop k text)) ∙ ap (λ (ys : List ℕ). part ++ ys) (drop-drop 5 k text) in
      let next : a + 2 * length part ≡ a + 10 = omega arith in
      let is = ap (λ (xs : List ℕ). store_pairs n a xs) split ∙ pairs_in_parts n a part (drop (k + 5) text) in
      let parts = rw (is, next) at rest in
      after_part core (core_with_word core a 10 w) start panel panel start_panel whole (store_pairs n a part) (store_pairs n (a + 10) (drop (k + 5) text)) (five_stored core panel n a w long part five fits are) parts
