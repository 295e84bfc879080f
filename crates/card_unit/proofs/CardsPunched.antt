-- The texts of cards that are punched.
use Rattle.std.proofs.Common.{◌≡◌, ℕ, suc, ◌+◌, ◌*◌, ◌-◌, ◌<◌, ◌≤◌, Bool, true, false, nat_lt, List, [], ◌∷◌, ◌++◌, length, map, take, drop, set, replicate, Result, Ok, Err, refl, sym, ◌∙◌, ap, arith, append_assoc}
use Rattle.std.proofs.lemmas.List.{take_more_set, take-append-drop, drop-set-lt, drop-drop, drop-replicate, length-take-le, append-nil}
use Rattle.std.proofs.lemmas.Slice.{take-put_mid, drop-put_mid}
use Rattle.std.proofs.lemmas.Bool.{false≢true}
use Rattle.std.proofs.lemmas.Bool.Decides.{nat_tests}
use borrow.Rule.Slice.PartMut.{put_mid}
use Rattle.std.specs.Prelude.{Option, Some, None}
use Rattle.digit_core.specs.declared.Digit.{Digit}
use Rattle.digit_core.specs.Cell.{read_cell}
use Rattle.digit_core.specs.Packed.{six}
use Rattle.digit_core.specs.Search.{is_bad_cell}
use Rattle.indicators.specs.declared.Panel.{Panel}
use Rattle.indicators.specs.Lamps.{panel_after}
use Rattle.addr_indirect.specs.declared.Stop.{Stop}
use Rattle.addr_indirect.specs.Steps.{◌>>=◌}
use Rattle.addr_indirect.specs.Reading.{read_at, read_up}
use Rattle.traces.specs.Trace.{Trace, map_answer, with_answer}
use Rattle.card_code.specs.Characters.{punch_num}
use Rattle.card_code.specs.Entries.{text_as_card}
use Rattle.card_code.specs.Words.{AreChars, PutsChars}
use Rattle.card_code.specs.TextOut.{Output, with_pair, written_char, panel_after_pair, pair_char, lamps_of}
use Rattle.card_code.proofs.CellTexts.{up_parts, go_over}
use Rattle.card_unit.specs.Punch.{pair_text, HasGoodTen}

-- the columns from k on are still blank
abbrev pub blanks : List ℕ
blanks = replicate 80 32

abbrev pub IsBlankFrom : ℕ → List ℕ → Type 0
IsBlankFrom k columns = drop k columns ≡ drop k blanks

-- and so they are from the next one on, once that column has its character
pub blank_on : (k c : ℕ) (columns : List ℕ) → IsBlankFrom k columns → IsBlankFrom (k + 1) (set columns k c)
blank_on k c columns blank = drop-set-lt (k + 1) columns k c (omega arith) ∙ sym (drop-drop 1 k columns) ∙ ap (λ (x : List ℕ). drop 1 x) blank ∙ drop-drop 1 k blanks

-- or once ten have
pub blank_past : (k n : ℕ) (columns chars : List ℕ) → n ≡ 10 → length chars ≡ n → k ≤ length columns → IsBlankFrom k columns → IsBlankFrom (k + 10) (put_mid k n columns chars)
blank_past k n columns chars ten long within blank =
    drop-put_mid k n columns chars (k + 10) (omega arith) within long ∙ sym (drop-drop 10 k columns) ∙ ap (λ (x : List ℕ). drop 10 x) blank ∙ drop-drop 10 k blanks

-- the first characters, filled with blanks to a card, are then all columns
pub filled_columns : (k : ℕ) (columns : List ℕ) → k ≤ 80 → length columns ≡ 80 → IsBlankFrom k columns → text_as_card (take k columns) ≡ columns
filled_columns k columns within all blank =
    let taken : 80 - length (take k columns) ≡ 80 - k = omega (arith, length-take-le k columns (omega arith)) in
    ap (λ (n : ℕ). take k columns ++ replicate n 32) taken
    ∙ ap (λ (x : List ℕ). take k columns ++ x) (sym (drop-replicate k 80 32) ∙ sym blank)
    ∙ take-append-drop k columns

-- characters that were made, and those of the digits that a further reading gives
abbrev pub joined : List ℕ → Result (List Digit) Stop → Result (List ℕ) Stop
joined xs r = map_answer (λ ds. xs ++ map punch_num ds) r

-- one digit in front of those that a further reading gives
abbrev pub in_front : Digit → Result (List Digit) Stop → Result (List Digit) Stop
in_front d r = r >>= (λ ds. Ok (d ∷ ds))

-- and so with that digit's own reading
abbrev pub each_up : Result Digit Stop → Result (List Digit) Stop → Result (List Digit) Stop
each_up r more = r >>= (λ d. in_front d more)

-- it goes over to the characters
joined_one : (xs : List ℕ) (d : Digit) (r : Result (List Digit) Stop) → joined xs (in_front d r) ≡ joined (xs ++ punch_num d ∷ []) r
joined_one xs d (Ok ds) = ap Ok (sym (append_assoc xs (punch_num d ∷ []) (map punch_num ds)))
joined_one xs d (Err s) = refl

-- what is made of the whole text
pub joined_then : (f : List ℕ → List ℕ) (r : Result (List Digit) Stop) → map_answer (λ ds. f (map punch_num ds)) r ≡ map_answer f (joined [] r)
joined_then f (Ok ds) = refl
joined_then f (Err s) = refl

module _ (core : List ℕ) (a count k : ℕ) (columns : List ℕ) where
  module _ (below : k < count) where
    -- there is a digit left to read
    more : count - k ≡ suc (count - (k + 1))
    more = omega arith

    -- a stop at the next digit is the whole reading's
    pub digit_stop : (s : Stop) → read_at core (a + k) ≡ Err s → joined (take k columns) (read_up core (a + k) (count - k)) ≡ Err s
    unfolding read_up
    digit_stop s stops = rw (more, stops) refl

    -- the next digit is read, and the reading goes on
    pub digit_on : (d : Digit) → read_at core (a + k) ≡ Ok d → k < length columns →
        joined (take k columns) (read_up core (a + k) (count - k)) ≡ joined (take (k + 1) (set columns k (punch_num d))) (read_up core (a + (k + 1)) (count - (k + 1)))
    unfolding read_up
    digit_on d reads fits =
        let next : a + k + 1 ≡ a + (k + 1) = omega arith in
        rw (more, reads, take_more_set columns k (punch_num d) fits, next) (joined_one (take k columns) d _)

  -- ten digits are read at once
  pub ten_on : (n : ℕ) (chars : List ℕ) → k + 10 ≤ count → length chars ≡ 10 → k ≤ length columns → map_answer (map punch_num) (read_up core (a + k) 10) ≡ Ok chars
      → joined (take k columns) (read_up core (a + k) (count - k)) ≡ joined (take (k + 10) (put_mid k n columns chars)) (read_up core (a + (k + 10)) (count - (k + 10)))
  ten_on n chars room ten within reads =
      let e : count - k ≡ 10 + (count - (k + 10)) = omega arith in
      let f : a + k + 10 ≡ a + (k + 10) = omega arith in
      let t : take (k + 10) (put_mid k n columns chars) ≡ take k columns ++ chars = take-put_mid k n columns chars (k + 10) (omega arith) within in
      let p = up_parts core 10 (count - (k + 10)) (a + k) in
      rw (e, p, f, t) (go_over punch_num (take k columns) chars (read_up core (a + k) 10) (read_up core (a + (k + 10)) (count - (k + 10))) reads)

  -- after all of them nothing is left to read
  pub digits_read : count ≤ k → joined (take k columns) (read_up core (a + k) (count - k)) ≡ Ok (take k columns)
  unfolding read_up
  digits_read all =
      let none_left : count - k ≡ 0 = omega arith in
      rw none_left (ap Ok (append-nil (take k columns)))

-- the characters of a word's good cells were put
pub good_put : (w : ℕ) (chars : List ℕ) (all : Bool) → ((j : ℕ) → j < 10 → is_bad_cell (six w j) ≡ false) → PutsChars punch_num w chars all → AreChars punch_num w chars
good_put w chars true good puts = puts
good_put w chars false good puts = absurd (false≢true (sym (good puts.place puts.ten) ∙ puts.bad))

-- From these characters and this panel on, the rest gives and shows what the whole does from the start.
pub record Going (xs : List ℕ) (panel : Panel) (t : Trace Output (List ℕ) Stop) (start : Panel) (whole : Trace Output (List ℕ) Stop) : Type 0 where
  pub answers : map_answer (λ cs. xs ++ cs) t.answer ≡ whole.answer
  pub shows : panel_after panel (lamps_of t.effects) ≡ panel_after start (lamps_of whole.effects)

-- the whole is the rest at the start
nothing_changed : (r : Result (List ℕ) Stop) → map_answer (λ cs. cs) r ≡ r
nothing_changed (Ok cs) = refl
nothing_changed (Err s) = refl

pub going_start : (panel : Panel) (t : Trace Output (List ℕ) Stop) → Going [] panel t panel t
going_start panel t = record { answers = nothing_changed t.answer; shows = refl }

-- one character goes over to those that were made
one_over : (xs : List ℕ) (c : ℕ) (r : Result (List ℕ) Stop) → map_answer (λ cs. (xs ++ c ∷ []) ++ cs) r ≡ map_answer (λ cs. xs ++ cs) (map_answer (λ cs. c ∷ cs) r)
one_over xs c (Ok cs) = ap Ok (append_assoc xs (c ∷ []) cs)
one_over xs c (Err s) = refl

going_on : (xs : List ℕ) (panel : Panel) (char : Option ℕ) (t : Trace Output (List ℕ) Stop) (start : Panel) (whole : Trace Output (List ℕ) Stop)
    → Going xs panel (with_pair char (λ c. with_answer (λ cs. c ∷ cs) t)) start whole → Going (xs ++ written_char char ∷ []) (panel_after_pair char panel) t start whole
going_on xs panel (Some c) t start whole going = record { answers = one_over xs c t.answer ∙ going.answers; shows = going.shows }
going_on xs panel None t start whole going = record { answers = one_over xs 32 t.answer ∙ going.answers; shows = going.shows }

module _ (core : List ℕ) (a k : ℕ) (columns : List ℕ) (panel start : Panel) (whole : Trace Output (List ℕ) Stop) where
  abbrev pub PairsGoing : Type 0
  PairsGoing = Going (take k columns) panel (pair_text core (a + 2 * k) (80 - k)) start whole

  module _ (below : k < 80) where
    -- there is a pair left to read
    more_pairs : 80 - k ≡ suc (80 - (k + 1))
    more_pairs = omega arith

    -- a stop at its zone is the whole reading's
    pub zone_stop : (s : Stop) → read_at core (a + 2 * k) ≡ Err s → PairsGoing → (Err s ≡ whole.answer) × (panel ≡ panel_after start (lamps_of whole.effects))
    unfolding pair_text
    zone_stop s stops going = let rest = rw (more_pairs, stops) at going in (rest.answers, rest.shows)

    -- so is one at its number
    pub number_stop : (z : Digit) (s : Stop) → read_at core (a + 2 * k) ≡ Ok z → read_at core (a + 2 * k + 1) ≡ Err s → PairsGoing → (Err s ≡ whole.answer) × (panel ≡ panel_after start (lamps_of whole.effects))
    unfolding pair_text
    number_stop z s zone stops going = let rest = rw (more_pairs, zone, stops) at going in (rest.answers, rest.shows)

    -- the next pair is read, and the reading goes on
    pub pair_on : (z n : Digit) → read_at core (a + 2 * k) ≡ Ok z → read_at core (a + 2 * k + 1) ≡ Ok n → k < length columns → PairsGoing
        → Going (take (k + 1) (set columns k (written_char (pair_char z n)))) (panel_after_pair (pair_char z n) panel) (pair_text core (a + 2 * (k + 1)) (80 - (k + 1))) start whole
    unfolding pair_text
    pair_on z n zone number fits going =
        let rest = rw (more_pairs, zone, number) at going in
        let next : a + 2 * k + 2 ≡ a + 2 * (k + 1) = omega arith in
        rw (take_more_set columns k (written_char (pair_char z n)) fits, ← next) (going_on (take k columns) panel (pair_char z n) _ start whole rest)

  -- after all of them nothing is left to read
  pub pairs_read : 80 ≤ k → PairsGoing → (Ok (take k columns) ≡ whole.answer) × (panel ≡ panel_after start (lamps_of whole.effects))
  unfolding pair_text
  pairs_read all going =
      let none_left : 80 - k ≡ 0 = omega arith in
      let rest = rw none_left at going in (ap Ok (sym (append-nil (take k columns))) ∙ rest.answers, rest.shows)

-- a digit of a word that has core's cells is the one read there
pub read_good : (core : List ℕ) (a w j : ℕ) (d : Digit) → HasGoodTen core a w → j < 10 → read_cell (six w j) ≡ Ok d → Ok d ≡ read_at core (a + j)
unfolding read_at
read_good core a w j d held below reads =
    let room = held.room in
    let test : nat_lt (a + j) (length core) ≡ true = grind (arith, nat_tests) in
    let is = rw (held.cells j below) at reads in
    rw (test, is) refl
