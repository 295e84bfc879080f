-- The characters of cells, some at a time.
use Rattle.std.proofs.Common.{◌≡◌, ℕ, zero, suc, ◌+◌, ◌<◌, ◌≤◌, true, nat_lt, List, [], ◌∷◌, ◌++◌, length, map, take, drop, get_or, Result, Ok, Err, refl, sym, ◌∙◌, ap, arith, append_assoc}
use Rattle.std.proofs.lemmas.List.{map-append, length-append, length-take, length-drop}
use Rattle.std.proofs.lemmas.Bool.Decides.{nat_tests}
use borrow.Rule.Slice.PartMut.{put_mid}
use Rattle.digit_core.specs.declared.Digit.{Digit}
use Rattle.digit_core.specs.declared.CellFault.{CellFault}
use Rattle.digit_core.specs.Cell.{read_cell}
use Rattle.digit_core.specs.Packed.{six}
use Rattle.addr_indirect.specs.declared.Stop.{Stop}
use Rattle.addr_indirect.specs.Steps.{◌>>=◌}
use Rattle.addr_indirect.specs.Reading.{read_at, read_up, or_stop}
use Rattle.traces.specs.Trace.{map_answer}
use Rattle.card_code.specs.Words.{AreChars}

-- a reading, and then another
pub both : Result (List Digit) Stop → Result (List Digit) Stop → Result (List Digit) Stop
both r q = r >>= (λ ds. q >>= (λ es. Ok (ds ++ es)))

one_then : (o : Result Digit Stop) (r q : Result (List Digit) Stop) → (o >>= (λ d. both r q >>= (λ ds. Ok (d ∷ ds)))) ≡ both (o >>= (λ d. r >>= (λ ds. Ok (d ∷ ds)))) q
unfolding both
one_then (Err s) r q = refl
one_then (Ok d) (Err s) q = refl
one_then (Ok d) (Ok ds) (Err s) = refl
one_then (Ok d) (Ok ds) (Ok es) = refl

none_then : (q : Result (List Digit) Stop) → q ≡ both (Ok []) q
unfolding both
none_then (Ok es) = refl
none_then (Err s) = refl

-- the first n digits, and then the others
pub up_parts : (core : List ℕ) (n m a : ℕ) → read_up core a (n + m) ≡ both (read_up core a n) (read_up core (a + n) m)
unfolding read_up
up_parts core zero m a =
    let z : 0 + m ≡ m = omega arith in
    let y : a + 0 ≡ a = omega arith in
    rw (z, y) (none_then (read_up core a m))
up_parts core (suc n) m a =
    let e : suc n + m ≡ suc (n + m) = omega arith in
    let f : a + 1 + n ≡ a + suc n = omega arith in
    rw (e, up_parts core n m (a + 1), f) (one_then (read_at core a) (read_up core (a + 1) n) (read_up core (a + suc n) m))

-- characters that were made, and those of the digits that a further reading gives
abbrev pub joined_by : (Digit → ℕ) → List ℕ → Result (List Digit) Stop → Result (List ℕ) Stop
joined_by char_of xs r = map_answer (λ ds. xs ++ map char_of ds) r

-- what an answer gives
chars_or : List ℕ → Result (List ℕ) Stop → List ℕ
chars_or xs (Ok ys) = ys
chars_or xs (Err s) = xs

char_or : ℕ → Result ℕ CellFault → ℕ
char_or x (Ok c) = c
char_or x (Err e) = x

module _ (char_of : Digit → ℕ) where
  -- the characters of the first reading go over to those that were made
  pub go_over : (xs chars : List ℕ) (r q : Result (List Digit) Stop) → map_answer (map char_of) r ≡ Ok chars → joined_by char_of xs (both r q) ≡ joined_by char_of (xs ++ chars) q
  unfolding both chars_or
  go_over xs chars (Err s) q is = cc
  go_over xs chars (Ok ds) (Err s) is = refl
  go_over xs chars (Ok ds) (Ok es) is =
      let e : map char_of ds ≡ chars = ap (chars_or []) is in
      ap Ok (ap (λ (ys : List ℕ). xs ++ ys) (map-append char_of ds es) ∙ sym (append_assoc xs (map char_of ds) (map char_of es)) ∙ ap (λ (ys : List ℕ). (xs ++ ys) ++ map char_of es) e)

  -- or it stops
  pub stop_over : (xs : List ℕ) (s : Stop) (r q : Result (List Digit) Stop) → map_answer (map char_of) r ≡ Err s → joined_by char_of xs (both r q) ≡ Err s
  unfolding both
  stop_over xs s (Ok ds) q is = cc
  stop_over xs s (Err t) q is = is

  -- Characters that are those of their cells.
  read_there : (a : ℕ) (r : Result Digit CellFault) (c : ℕ) (q : Result (List Digit) Stop) (cs : List ℕ) → map_answer char_of r ≡ Ok c → map_answer (map char_of) q ≡ Ok cs
      → map_answer (map char_of) (or_stop a r >>= (λ d. q >>= (λ ds. Ok (d ∷ ds)))) ≡ Ok (c ∷ cs)
  unfolding chars_or char_or
  read_there a (Err e) c q cs is rest = cc
  read_there a (Ok d) c (Err s) cs is rest = cc
  read_there a (Ok d) c (Ok ds) cs is rest =
      let e : map char_of ds ≡ cs = ap (chars_or []) rest in
      let f : char_of d ≡ c = ap (char_or 0) is in
      rw (e, f) refl

  cells_text : (core chars : List ℕ) (a : ℕ) → a + length chars ≤ length core → ((j : ℕ) → j < length chars → map_answer char_of (read_cell (get_or core (a + j) 0)) ≡ Ok (get_or chars j 0)) → map_answer (map char_of) (read_up core a (length chars)) ≡ Ok chars
  unfolding read_up read_at
  cells_text core [] a room are = refl
  cells_text core (c ∷ cs) a room are =
      let z : a + 0 ≡ a = omega arith in
      let first = are 0 (omega arith) in
      let first_is = rw z at first in
      let test : nat_lt a (length core) ≡ true = grind (arith, nat_tests) in
      let rest = cells_text core cs (a + 1) (omega arith) (λ j below. let g : a + 1 + j ≡ a + suc j = omega arith in rw g (are (suc j) (omega arith))) in
      rw test (read_there a (read_cell (get_or core a 0)) c (read_up core (a + 1) (length cs)) cs first_is rest)

  -- ten characters that a word has, as core has its cells
  pub ten_chars_are : (core chars : List ℕ) (a w : ℕ) → a + 10 ≤ length core → AreChars char_of w chars → ((j : ℕ) → j < 10 → six w j ≡ get_or core (a + j) 0) → map_answer (map char_of) (read_up core a 10) ≡ Ok chars
  ten_chars_are core chars a w room are cells =
      let ten = are.ten in
      let all = cells_text core chars a (omega arith) (λ j below. let e = cells j (omega arith) in rw (← e) (are.chars_are j (omega arith))) in
      rw ten at all

-- a part that is written leaves a text as long as it was
pub put_long : (k n : ℕ) (text chars : List ℕ) → n ≡ 10 → k + 10 ≤ length text → length chars ≡ 10 → length (put_mid k n text chars) ≡ length text
put_long k n text chars ten room chars_long =
    omega (arith, length-append (take k text) (chars ++ drop n (drop k text)), length-append chars (drop n (drop k text)), length-take k text, length-drop n (drop k text), length-drop k text)
