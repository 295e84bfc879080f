-- The cycles of a turn leave the cells that are written at once.
use Rattle.std.proofs.Common.{ℕ, zero, suc, ◌≡◌, ◌≢◌, ◌+◌, ◌-◌, ◌*◌, ◌/◌, ◌%◌, ◌^◌, ◌==◌, ◌<◌, ◌≤◌, ◌⊎◌, inl, inr, Bool, true, false, not, List, length, get_or, set, Ok, Err, refl, sym, ap, ◌∙◌, arith}
use Rattle.std.proofs.lemmas.List.{get_or-set_other, get_or-set_same, length-set}
use Rattle.std.proofs.lemmas.Bool.{cases_eq}
use Rattle.std.specs.Prelude.{Result, ⊤, if◌then◌else◌, count_ones}
use Rattle.digit_core.specs.declared.Digit.{Digit}
use Rattle.digit_core.specs.declared.CellFault.TheVariants.{EvenParity, BadValue}
use Rattle.digit_core.specs.Cell.{cell, unflagged_digit, store, with_flag, read_cell, digit_of_cell, value_in, is_cell_value}
use Rattle.digit_core.specs.Packed.{six}
use Rattle.digit_core.specs.Search.{is_bad_cell}
use Rattle.digit_core.specs.Written.{core_with_word}
use Rattle.digit_core.proofs.Digits.{cell-read_cell}
use Rattle.digit_core.proofs.Sixes.{six_of_high}
use Rattle.digit_core.proofs.Writing.{length_written, written_in, written_out, written_is, written_none}
use Rattle.addr_indirect.specs.declared.Stop.{Stop}
use Rattle.addr_indirect.specs.Reading.{read_at}
use Rattle.addr_indirect.proofs.Windows.{reads_in}
use Rattle.traces.specs.Trace.{Trace}
use Rattle.traces.specs.Stored.{Stored, Did, Rest}
use Rattle.feature_ops.specs.Feature.{NUMBER_ZONE, strip_cycles, fill_cycles, core_with_pair}
use Rattle.feature_ops.specs.Five.{IsPlain, IsFlagged, flagged_digit, ArePairsApart, AreStripped, AreFilled, AreLastStripped, AreLastFilled}

-- who does the rest does the whole
pub rest_done : (core core0 new : List ℕ) (t t0 : Trace Stored ⊤ Stop) (r : Result ⊤ Stop) → Rest core t core0 t0 → Did core t new r
    → Did core0 t0 new r
rest_done core core0 new t t0 r rest did = record { leaves = did.leaves ∙ rest.leaves; answers = did.answers ∙ rest.answers }

pub rest_on : (core core1 core0 : List ℕ) (t t1 t0 : Trace Stored ⊤ Stop) → Rest core t core1 t1 → Rest core1 t1 core0 t0
    → Rest core t core0 t0
rest_on core core1 core0 t t1 t0 a b = record { leaves = a.leaves ∙ b.leaves; answers = a.answers ∙ b.answers }

-- whatever the tests of a cell that is not bad say
tested_ok : (even good : Bool) (d : Digit) → (if even then true else not good) ≡ false
    → (if even then Err EvenParity else if good then Ok d else Err BadValue) ≡ Ok d
tested_ok true good d h = cc
tested_ok false true d h = refl
tested_ok false false d h = cc

good_reads : (c : ℕ) → is_bad_cell c ≡ false → read_cell c ≡ Ok (digit_of_cell c)
unfolding read_cell
good_reads c h = tested_ok (count_ones c % 2 == 0) (is_cell_value (value_in c)) (digit_of_cell c) h

pub six_small : (w j : ℕ) → six w j < 64
six_small w j = omega arith

-- a plain cell of a word is that of its value
plain_cell : (w j c : ℕ) → six w j ≡ c → IsPlain c → c ≡ cell (unflagged_digit (value_in c))
plain_cell w j c is p =
    sym (ap (λ b. cell (record { flag = b; value = value_in c })) (sym p.1)
    ∙ cell-read_cell c (digit_of_cell c) (rw is at (six_small w j)) (good_reads c p.0))

-- one cell more, below those that were written
written_under : (core : List ℕ) (a low high m n w i j c : ℕ) → low ≡ a → high ≡ suc a → n ≡ suc m → j ≡ suc i → a < length core
    → six w i ≡ c
    → set (core_with_word core high m (w / 2 ^ (6 * j))) a c ≡ core_with_word core low n (w / 2 ^ (6 * i))
written_under core a low high m n w i j c lowest above more next inside is =
    let x = w / 2 ^ (6 * i) in
    let y = w / 2 ^ (6 * j) in
    let core1 = core_with_word core high m y in
    let long = length_written core high m y in
    written_is core low n x (set core1 a c) (length-set core1 a c ∙ long)
    (λ b h from to.
    elim (cases_eq b a) [
      | inl e ↦
          let first : b - low ≡ 0 = omega arith in
          let place : i + 0 ≡ i = omega arith in
          rw (first, e) (get_or-set_same core1 a c 0 (rw long inside) ∙ sym (six_of_high w i 0 ∙ ap (six w) place ∙ is))
      | inr ne ↦
          let higher : j + (b - high) ≡ i + (b - low) = omega arith in
          get_or-set_other core1 a b c 0 ne ∙ written_in core high m y b h (omega arith) (omega arith) ∙ six_of_high w j (b - high)
          ∙ ap (six w) higher
          ∙ sym (six_of_high w i (b - low))
    ])
    (λ b h out.
    get_or-set_other core1 a b c 0 (elim out as (λ _. b ≢ a) [ inl x ↦ omega arith | inr x ↦ omega arith ])
    ∙ written_out core high m y b h (elim out [ inl x ↦ inl (omega arith) | inr x ↦ inr (omega arith) ]))

-- core once the cells of so many cycles of k cells are written from a word, all but those of the lowest j, whose place is the lowest
abbrev core_at : ℕ → List ℕ → ℕ → ℕ → ℕ → ℕ → List ℕ
core_at k core place n w j = core_with_word core (place + k * j) (k * (n - j)) (w / 2 ^ (6 * (k * j)))

-- a good cell beside them is read as it was
read_beside : (k : ℕ) (core : List ℕ) (place n w j a : ℕ) → a < length core → (a < place + k * j) ⊎ (place + k * j + k * (n - j) ≤ a)
    → is_bad_cell (get_or core a 0) ≡ false → read_at (core_at k core place n w j) a ≡ Ok (digit_of_cell (get_or core a 0))
read_beside k core place n w j a inside beside good =
    let from = place + k * j in
    let rest = w / 2 ^ (6 * (k * j)) in
    let c = get_or core a 0 in
    let long = length_written core from (k * (n - j)) rest in
    reads_in (core_at k core place n w j) a a c (digit_of_cell c) refl (rw long inside)
    (sym (written_out core from (k * (n - j)) rest a inside beside)) (good_reads c good)

-- the next n cycles of a strip or a fill, each of which leaves k cells
module _ (cycles : List ℕ → ℕ → ℕ → Trace Stored ⊤ Stop) (k : ℕ) (core : List ℕ) (place pairs left n w : ℕ) (on_p : n ≤ pairs) (on_q : n ≤ left) where
  abbrev now : ℕ → List ℕ
  now j = core_at k core place n w j

  -- one of them, behind which j are left
  abbrev Follows : ℕ → Type 0
  Follows j = Rest (now j) (cycles (now j) (pairs - n + j) (left - n + j)) (now (suc j))
      (cycles (now (suc j)) (suc (pairs - n + j)) (suc (left - n + j)))

  all_there : now 0 ≡ core_with_word core place (k * n) w
  all_there =
      let none : k * 0 ≡ 0 = omega arith in
      let from : place + 0 ≡ place = omega arith in
      let all : n - 0 ≡ n = omega arith in
      let whole : w / 2 ^ (6 * 0) ≡ w = omega arith in
      rw (none, from, all, whole) refl

  -- all but the lowest i
  goes_down : (m i : ℕ) → m + i ≡ n → ((j : ℕ) → i ≤ j → j < n → Follows j)
      → Rest (now i) (cycles (now i) (pairs - n + i) (left - n + i)) core (cycles core pairs left)
  goes_down zero i all each =
      let p : pairs - n + i ≡ pairs = omega arith in
      let q : left - n + i ≡ left = omega arith in
      let none : n - i ≡ 0 = omega arith in
      let nought : k * (n - i) ≡ 0 = rw none (omega arith) in
      rw (p, q, ← written_none core (place + k * i) (k * (n - i)) (w / 2 ^ (6 * (k * i))) nought) (record { leaves = refl; answers = refl })
  goes_down (suc m) i all each =
      let p : suc (pairs - n + i) ≡ pairs - n + suc i = omega arith in
      let q : suc (left - n + i) ≡ left - n + suc i = omega arith in
      rest_on _ _ _ _ _ _ (rw (p, q) at (each i (omega arith) (omega arith)))
      (goes_down m (suc i) (omega arith) (λ j h l. each j (omega arith) l))

  goes_on : ((j : ℕ) → j < n → Follows j)
      → Rest (core_with_word core place (k * n) w) (cycles (core_with_word core place (k * n) w) (pairs - n) (left - n)) core
      (cycles core pairs left)
  goes_on each =
      let p : pairs - n + 0 ≡ pairs - n = omega arith in
      let q : left - n + 0 ≡ left - n = omega arith in
      rw (all_there, p, q) at (goes_down n 0 (omega arith) (λ j h l. each j l))

  -- and the lowest ends the field
  goes_to_end : 1 ≤ n → ((j : ℕ) → 0 < j → j < n → Follows j)
      → Did (now 1) (cycles (now 1) (suc (pairs - n + 0)) (suc (left - n + 0))) (now 0) (Ok tt)
      → Did core (cycles core pairs left) (core_with_word core place (k * n) w) (Ok tt)
  goes_to_end some each last =
      let p : suc (pairs - n + 0) ≡ pairs - n + 1 = omega arith in
      let q : suc (left - n + 0) ≡ left - n + 1 = omega arith in
      rw all_there at (rest_done _ _ _ _ _ _ (goes_down (n - 1) 1 (omega arith) each) (rw (p, q) at last))

-- one cycle of a strip: the field goes on, or ends
module _ (core : List ℕ) (pairs q : ℕ) (from to : Digit) (reads : read_at core (2 * pairs + 1) ≡ Ok from) (olds : read_at core q ≡ Ok to) where
  strip_on : to.flag ≡ false → Rest (store core q (with_flag false from))
      (strip_cycles (store core q (with_flag false from)) pairs q) core (strip_cycles core (suc pairs) (suc q))
  unfolding strip_cycles
  strip_on flag = rw (reads, olds, flag) (record { leaves = refl; answers = refl })

  strip_end : to.flag ≡ true → Did core (strip_cycles core (suc pairs) (suc q)) (store core q (with_flag true from)) (Ok tt)
  unfolding strip_cycles
  strip_end flag = rw (reads, olds, flag) (record { leaves = refl; answers = refl })

-- one of a fill
module _ (core : List ℕ) (pairs q : ℕ) (d : Digit) (reads : read_at core q ≡ Ok d) where
  abbrev after_pair : List ℕ
  after_pair = core_with_pair core (2 * pairs) NUMBER_ZONE d.value

  fill_on : d.flag ≡ false → Rest after_pair (fill_cycles after_pair pairs q) core (fill_cycles core (suc pairs) (suc q))
  unfolding fill_cycles
  fill_on flag = rw (reads, flag) (record { leaves = refl; answers = refl })

  fill_end : d.flag ≡ true → Did core (fill_cycles core (suc pairs) (suc q)) after_pair (Ok tt)
  unfolding fill_cycles
  fill_end flag = rw (reads, flag) (record { leaves = refl; answers = refl })

module _ (core : List ℕ) (pairs left n w : ℕ) (p_room : 2 * pairs ≤ length core) (q_room : left ≤ length core) (apart : ArePairsApart pairs left n) where
  on_p : n ≤ pairs
  on_p = apart.p

  on_q : n ≤ left
  on_q = apart.q

  -- the digit and the old cell of a cycle of a strip behind which j are left, and of one of a fill
  module _ (j : ℕ) (l : j < n) where
    abbrev at_p : ℕ
    at_p = 2 * (pairs - n + j) + 1

    abbrev at_q : ℕ
    at_q = left - n + j

    abbrev stripping : List ℕ
    stripping = core_at 1 core (left - n) n w (suc j)

    digit_read : is_bad_cell (get_or core at_p 0) ≡ false → read_at stripping at_p ≡ Ok (digit_of_cell (get_or core at_p 0))
    digit_read =
        read_beside 1 core (left - n) n w (suc j) at_p (omega (arith, l, on_p, p_room))
        (elim apart.apart [ inl x ↦ inr (omega (arith, l, on_p, on_q)) | inr x ↦ inl (omega (arith, l, on_p, on_q)) ])

    old_read : is_bad_cell (get_or core at_q 0) ≡ false → read_at stripping at_q ≡ Ok (digit_of_cell (get_or core at_q 0))
    old_read = read_beside 1 core (left - n) n w (suc j) at_q (omega (arith, l, on_q, q_room)) (inl (omega arith))

    stripped : (d : Digit) → six w j ≡ cell d → store stripping at_q d ≡ core_at 1 core (left - n) n w j
    stripped d is =
        written_under core at_q (left - n + 1 * j) (left - n + 1 * suc j) (1 * (n - suc j)) (1 * (n - j)) w (1 * j) (1 * suc j) (cell d)
        (omega arith) (omega arith) (omega (arith, l)) (omega arith) (omega (arith, l, on_q, q_room))
        (let e : 1 * j ≡ j = omega arith in rw e is)

    strip_one : IsPlain (get_or core at_q 0) → six w j ≡ get_or core at_p 0 → IsPlain (get_or core at_p 0)
        → Follows strip_cycles 1 core (left - n) pairs left n w on_p on_q j
    strip_one old is plain =
        let c = get_or core at_p 0 in
        rw (stripped (unflagged_digit (value_in c)) (is ∙ plain_cell w j c is plain)) at
        (strip_on stripping (pairs - n + j) at_q (digit_of_cell c) (digit_of_cell (get_or core at_q 0)) (digit_read plain.0)
        (old_read old.0) old.1)

    abbrev filling : List ℕ
    filling = core_at 2 core (2 * (pairs - n)) n w (suc j)

    source_read : is_bad_cell (get_or core at_q 0) ≡ false → read_at filling at_q ≡ Ok (digit_of_cell (get_or core at_q 0))
    source_read =
        read_beside 2 core (2 * (pairs - n)) n w (suc j) at_q (omega (arith, l, on_q, q_room))
        (elim apart.apart [ inl x ↦ inl (omega (arith, l, on_p, on_q)) | inr x ↦ inr (omega (arith, l, on_p, on_q)) ])

    filled : (v : ℕ) → six w (2 * j + 1) ≡ cell (unflagged_digit v) → six w (2 * j) ≡ cell (unflagged_digit NUMBER_ZONE)
        → core_with_pair filling (2 * (pairs - n + j)) NUMBER_ZONE v ≡ core_at 2 core (2 * (pairs - n)) n w j
    filled v digit zone =
        let at = 2 * (pairs - n + j) in
        let m = 2 * (n - suc j) in
        ap (λ c. set c at (cell (unflagged_digit NUMBER_ZONE)))
        (written_under core (at + 1) (at + 1) (2 * (pairs - n) + 2 * suc j) m (suc m) w (2 * j + 1) (2 * suc j) (cell (unflagged_digit v))
        refl (omega arith) refl (omega arith) (omega (arith, l, on_p, p_room)) digit)
        ∙ written_under core at (2 * (pairs - n) + 2 * j) (at + 1) (suc m) (2 * (n - j)) w (2 * j) (2 * j + 1)
        (cell (unflagged_digit NUMBER_ZONE))
        (omega arith) (omega arith) (omega (arith, l)) (omega arith) (omega (arith, l, on_p, p_room)) zone

    fill_one : IsPlain (get_or core at_q 0) → six w (2 * j + 1) ≡ get_or core at_q 0 → six w (2 * j) ≡ cell (unflagged_digit NUMBER_ZONE)
        → Follows fill_cycles 2 core (2 * (pairs - n)) pairs left n w on_p on_q j
    fill_one plain is zone =
        let c = get_or core at_q 0 in
        rw (filled (value_in c) (is ∙ plain_cell w (2 * j + 1) c is plain) zone) at
        (fill_on filling (pairs - n + j) at_q (digit_of_cell c) (source_read plain.0) plain.1)

  -- the next n
  pub strip_next : AreStripped core pairs left n w
      → Rest (core_with_word core (left - n) n w) (strip_cycles (core_with_word core (left - n) n w) (pairs - n) (left - n)) core
      (strip_cycles core pairs left)
  strip_next s =
      let e : 1 * n ≡ n = omega arith in
      rw e at (goes_on strip_cycles 1 core (left - n) pairs left n w on_p on_q
      (λ j l. strip_one j l (s.olds j l) (s.digits j l) (rw (s.digits j l) at (s.unflagged j l))))

  pub fill_next : AreFilled core pairs left n w
      → Rest (core_with_word core (2 * (pairs - n)) (2 * n) w)
      (fill_cycles (core_with_word core (2 * (pairs - n)) (2 * n) w) (pairs - n) (left - n)) core (fill_cycles core pairs left)
  fill_next s = goes_on fill_cycles 2 core (2 * (pairs - n)) pairs left n w on_p on_q
      (λ j l. fill_one j l (s.olds j l) (s.digits j l) (s.zones j l))

  -- the last n
  module _ (some : 1 ≤ n) where
    pub strip_last : AreLastStripped core pairs left n w
        → Did core (strip_cycles core pairs left) (core_with_word core (left - n) n w) (Ok tt)
    strip_last s =
        let e : 1 * n ≡ n = omega arith in
        let p : pairs - n + 0 ≡ pairs - n = omega arith in
        let q : left - n + 0 ≡ left - n = omega arith in
        let c = get_or core (at_p 0 some) 0 in
        let old = get_or core (at_q 0 some) 0 in
        let ends : IsFlagged old = rw q s.ends in
        rw e at
        (goes_to_end strip_cycles 1 core (left - n) pairs left n w on_p on_q some
        (λ j pos l. strip_one j l (s.goes_on j pos l) (s.digits j pos l) (s.unflagged j l))
        (rw (stripped 0 some (flagged_digit c) (rw p s.lowest)) at
        (strip_end (stripping 0 some) (pairs - n + 0) (at_q 0 some) (digit_of_cell c) (digit_of_cell old)
        (digit_read 0 some (s.unflagged 0 some).0)
        (old_read 0 some ends.0) ends.1)))

    pub fill_last : AreLastFilled core pairs left n w
        → Did core (fill_cycles core pairs left) (core_with_word core (2 * (pairs - n)) (2 * n) w) (Ok tt)
    fill_last s =
        let q : left - n + 0 ≡ left - n = omega arith in
        let old = get_or core (at_q 0 some) 0 in
        let ends : IsFlagged old = rw q s.ends in
        goes_to_end fill_cycles 2 core (2 * (pairs - n)) pairs left n w on_p on_q some
        (λ j pos l. fill_one j l (s.goes_on j pos l) (s.digits j pos l) (s.zones j l))
        (rw (filled 0 some (value_in old) (rw q s.lowest) (s.zones 0 some)) at
        (fill_end (filling 0 some) (pairs - n + 0) (at_q 0 some) (digit_of_cell old) (source_read 0 some ends.0) ends.1))
