-- A sector's bytes, one by one.
use Rattle.std.proofs.Common.{◌≡◌, ℕ, suc, ◌+◌, ◌-◌, ◌<◌, ◌≤◌, true, false, List, [], ◌∷◌, ◌++◌, length, map, take, drop, set, get_or, Result, Ok, Err, refl, sym, ap, arith, append_assoc}
use Rattle.std.proofs.lemmas.List.{drop_more, drop_all, take_more_set, take_all, append-nil}
use Rattle.std.specs.Prelude.{Some, None, ⊤}
use Rattle.digit_core.specs.declared.Digit.{Digit}
use Rattle.digit_core.specs.Cell.{store, unflagged_digit}
use Rattle.indicators.specs.declared.Panel.{Panel}
use Rattle.indicators.specs.Panel.{set as set_lamp}
use Rattle.addr_indirect.specs.declared.Stop.{Stop}
use Rattle.addr_indirect.specs.Steps.{◌>>=◌}
use Rattle.addr_indirect.specs.Reading.{read_at, read_up}
use Rattle.traces.specs.Trace.{Trace, map_answer}
use Rattle.traces.specs.Change.{Change, Changed}
use Rattle.card_code.specs.Characters.{object_digit, object_char}
use Rattle.card_code.proofs.TextsStored.{Rest}
use Rattle.disk_1311.specs.Sector.{read_sector, compare_sector, differs}
use Rattle.indicators.specs.Codes.{DISK_LENGTH}

-- Some cells and a panel, with k bytes of a sector done from a upwards.
module _ (core start : List ℕ) (panel start_panel : Panel) (whole : Trace Change ⊤ Stop) (a k : ℕ) (bytes : List ℕ) where
  abbrev pub Reading : Type 0
  Reading = Rest core panel (read_sector (a + k) (drop k bytes)) start start_panel whole

  -- all are read
  pub read_all : length bytes ≤ k → Reading → Changed start start_panel whole core panel (Ok tt)
  unfolding read_sector
  read_all over reading = let rest = rw (drop_all k bytes over) at reading in record { leaves = rest.leaves; shows = rest.shows; answers = rest.answers }

  module _ (more : k < length bytes) where
    next : a + k + 1 ≡ a + (k + 1)
    next = omega arith

    -- the next one is a digit
    pub read_digit : (d : Digit) → object_digit (get_or bytes k 0) ≡ Some d → Reading → Rest (store core (a + k) d) panel (read_sector (a + (k + 1)) (drop (k + 1) bytes)) start start_panel whole
    unfolding read_sector
    read_digit d is reading = let rest = rw (drop_more bytes k 0 more, is, next) at reading in record { leaves = rest.leaves; shows = rest.shows; answers = rest.answers }

    -- the next one is bad
    pub read_bad : object_digit (get_or bytes k 0) ≡ None → Reading → Rest (store core (a + k) (unflagged_digit 0)) (set_lamp DISK_LENGTH true panel) (read_sector (a + (k + 1)) (drop (k + 1) bytes)) start start_panel whole
    unfolding read_sector
    read_bad is reading = let rest = rw (drop_more bytes k 0 more, is, next) at reading in record { leaves = rest.leaves; shows = rest.shows; answers = rest.answers }

-- A panel, with k bytes of a sector compared from a upwards.
module _ (core : List ℕ) (panel start_panel : Panel) (whole : Trace Change ⊤ Stop) (a k : ℕ) (bytes : List ℕ) where
  abbrev pub Comparing : Type 0
  Comparing = Rest core panel (compare_sector core (a + k) (drop k bytes)) core start_panel whole

  -- all are compared
  pub compare_all : length bytes ≤ k → Comparing → Changed core start_panel whole core panel (Ok tt)
  unfolding compare_sector
  compare_all over comparing = let rest = rw (drop_all k bytes over) at comparing in record { leaves = rest.leaves; shows = rest.shows; answers = rest.answers }

  module _ (more : k < length bytes) where
    next_byte : a + k + 1 ≡ a + (k + 1)
    next_byte = omega arith

    -- the next cell stops
    pub compare_stop : (s : Stop) → read_at core (a + k) ≡ Err s → Comparing → Changed core start_panel whole core panel (Err s)
    unfolding compare_sector
    compare_stop s stops comparing = let rest = rw (drop_more bytes k 0 more, stops) at comparing in record { leaves = rest.leaves; shows = rest.shows; answers = rest.answers }

    module _ (d : Digit) (reads : read_at core (a + k) ≡ Ok d) where
      -- the next byte differs
      pub compare_other : differs d (object_digit (get_or bytes k 0)) ≡ true → Comparing → Rest core (set_lamp DISK_LENGTH true panel) (compare_sector core (a + (k + 1)) (drop (k + 1) bytes)) core start_panel whole
      unfolding compare_sector
      compare_other other comparing = let rest = rw (drop_more bytes k 0 more, reads, other, next_byte) at comparing in record { leaves = rest.leaves; shows = rest.shows; answers = rest.answers }

      -- the next byte is the cell's
      pub compare_same : differs d (object_digit (get_or bytes k 0)) ≡ false → Comparing → Rest core panel (compare_sector core (a + (k + 1)) (drop (k + 1) bytes)) core start_panel whole
      unfolding compare_sector
      compare_same same comparing = let rest = rw (drop_more bytes k 0 more, reads, same, next_byte) at comparing in record { leaves = rest.leaves; shows = rest.shows; answers = rest.answers }

-- characters that were made, and those of the digits that a further reading gives
abbrev pub joined : List ℕ → Result (List Digit) Stop → Result (List ℕ) Stop
joined xs r = map_answer (λ ds. xs ++ map object_char ds) r

-- at the start all are of the further reading
pub joined_nil : (r : Result (List Digit) Stop) → joined [] r ≡ map_answer (map object_char) r
joined_nil (Ok ds) = refl
joined_nil (Err s) = refl

-- one digit goes over to the characters
joined_one : (xs : List ℕ) (d : Digit) (r : Result (List Digit) Stop) → joined xs (r >>= (λ ds. Ok (d ∷ ds))) ≡ joined (xs ++ object_char d ∷ []) r
joined_one xs d (Ok ds) = ap Ok (sym (append_assoc xs (object_char d ∷ []) (map object_char ds)))
joined_one xs d (Err s) = refl

module _ (core : List ℕ) (a k : ℕ) (text : List ℕ) where
  module _ (below : k < 10) where
    -- there is a cell left to read
    more_cells : 10 - k ≡ suc (10 - (k + 1))
    more_cells = omega arith

    -- a stop at the next cell is the whole reading's
    pub text_stop : (s : Stop) → read_at core (a + k) ≡ Err s → joined (take k text) (read_up core (a + k) (10 - k)) ≡ Err s
    unfolding read_up
    text_stop s stops = rw (more_cells, stops)

    -- the next cell is read, and the reading goes on
    pub text_on : (d : Digit) → read_at core (a + k) ≡ Ok d → k < length text →
        joined (take k text) (read_up core (a + k) (10 - k)) ≡ joined (take (k + 1) (set text k (object_char d))) (read_up core (a + (k + 1)) (10 - (k + 1)))
    unfolding read_up
    text_on d reads fits =
        let next_cell : a + k + 1 ≡ a + (k + 1) = omega arith in
        rw (more_cells, reads, take_more_set text k (object_char d) fits, next_cell) (joined_one (take k text) d _)

-- after all of them nothing is left to read
pub text_all : (core : List ℕ) (a k : ℕ) (text : List ℕ) (n : ℕ) → n ≤ k → length text ≡ n → joined (take k text) (read_up core (a + k) (n - k)) ≡ Ok text
unfolding read_up
text_all core a k text n all long =
    let none_left : n - k ≡ 0 = omega arith in
    rw (none_left, take_all k text (omega arith)) (ap Ok (append-nil text))
