-- Fields and records that move whole, by what searches found and what a copy leaves.
use Rattle.std.proofs.Common.{ℕ, ◌≡◌, ◌+◌, ◌-◌, ◌%◌, ◌==◌, ◌<◌, ◌≤◌, Bool, true, false, not, List, length, get_or, Ok, Err, Some, None, refl, sym, ◌∙◌, arith, All, ◌/◌, ◌*◌, ◌^◌}
use Rattle.std.specs.Prelude.{IsOk, if◌then◌else◌, count_ones, nat_le}
use Rattle.std.proofs.lemmas.List.Elements.{All-get_or}
use Rattle.std.proofs.lemmas.Bool.Decides.{nat_tests}
use Rattle.digit_core.specs.declared.Digit.{Digit}
use Rattle.digit_core.specs.declared.CellFault.TheVariants.{EvenParity, BadValue}
use Rattle.digit_core.specs.Cell.{read_cell, is_cell_value, has_flag}
use Rattle.digit_core.specs.Search.{has_mark, is_bad_cell, first_up, flag_below, mark_above, first_bad}
use Rattle.digit_core.specs.Copied.{core_after_copy}
use Rattle.digit_core.proofs.Passing.{said_down, said_up}
use Rattle.digit_core.specs.Packed.{six}
use Rattle.digit_core.specs.Within.{EndsField, EndsRecord}
use Rattle.digit_core.specs.Written.{core_with_word}
use Rattle.digit_core.proofs.Moving.{copied_is}
use Rattle.digit_core.proofs.Sixes.{six_of_high}
use Rattle.digit_core.proofs.Writing.{length_written, written_in, written_out}
use Rattle.traces.specs.Stored.{core_after, Did}
use Rattle.field_moves.specs.Move.{move_field, move_record}
use Rattle.field_moves.specs.Whole.{IsGoodCell, IsField, IsRecord, AreMoved, MovesWholeDown, MovesWholeUp, ReadsFirstDown, ReadsFirstUp}
use Rattle.field_moves.proofs.Fields.{field_moves}
use Rattle.field_moves.proofs.Records.{record_moves}

-- whatever the two tests of a cell say
tested_good : (even good : Bool) (d : Digit) → (if even then true else not good) ≡ false → IsOk (if even then Err EvenParity else if good then Ok d else Err BadValue)
tested_good true good d h = cc
tested_good false true d h = refl
tested_good false false d h = cc

-- a cell that is not bad is good
not_bad : (c : ℕ) → c < 64 → is_bad_cell c ≡ false → IsGoodCell c
unfolding read_cell
not_bad c small h = (small, tested_good (count_ones c % 2 == 0) (is_cell_value (c % 16)) _ h)

-- the cells that moved are those that were copied
moved_copied : (core new : List ℕ) (to from n : ℕ) → AreMoved core new to from n → new ≡ core_after_copy core to from n
moved_copied core new to from n m =
    copied_is core to from n new m.long
    (λ a h low high.
    let e : to + (a - to) ≡ a = omega arith in
    let k = m.moved (a - to) (omega arith) in
    rw e at k)
    (λ a h out. m.others a out)

module _ (core new : List ℕ) (p q n : ℕ) (p_high : p < length core) where
  -- a field that moves whole is moved by a copy
  pub field_copied : MovesWholeDown core p q n → new ≡ core_after_copy core (p + 1 - n) (q + 1 - n) n → Did core (move_field core p q) new (Ok tt)
  field_copied w is =
      let l = field_moves core (core_after core (move_field core p q).effects) p q n (move_field core p q).answer (record { leaves = refl; answers = refl }) p_high w in
      record {
        leaves = is ∙ sym (moved_copied core (core_after core (move_field core p q).effects) (p + 1 - n) (q + 1 - n) n l.1);
        answers = sym l.0;
      }

  -- a record that moves whole is moved by a copy
  pub record_copied : MovesWholeUp core p q n → new ≡ core_after_copy core p q n → Did core (move_record core p q) new (Ok tt)
  record_copied w is =
      let l = record_moves core (core_after core (move_record core p q).effects) p q n (move_record core p q).answer (record { leaves = refl; answers = refl }) w in
      record {
        leaves = is ∙ sym (moved_copied core (core_after core (move_record core p q).effects) p q n l.1);
        answers = sym l.0;
      }

module _ (core : List ℕ) (small : All (λ c. c < 64) core) where
  -- no cell on the way up is bad
  all_good : (a b : ℕ) → a ≤ b → b < length core → None ≡ first_bad core a b → (k : ℕ) → a ≤ k → k ≤ b → IsGoodCell (get_or core k 0)
  all_good a b order high none k low le =
      let up : nat_le a b ≡ true = grind (arith, nat_tests) in
      let f : None ≡ first_up is_bad_cell core a (b + 1 - a) = rw up at none in
      let s = said_up is_bad_cell core a (b + 1 - a) None f in
      not_bad (get_or core k 0) (All-get_or (λ c. c < 64) core k 0 (omega arith) small) (s k low (omega arith))

  pub field_found : (q e : ℕ) → q < length core → Some e ≡ flag_below core q → None ≡ first_bad core e q → IsField core q (q - e + 1)
  field_found q e high found none =
      let s = said_down has_flag core q q (Some e) (omega arith) found in
      let below : e < q = s.high in
      let lowest : q + 1 - (q - e + 1) ≡ e = omega arith in
      record {
        some = omega arith;
        low = omega arith;
        high = high;
        good = λ i l. all_good e q (omega arith) high none (q - i) (omega arith) (omega arith);
        ends = rw lowest s.here;
        goes_on = λ i pos l. s.between (q - i) (omega arith) (omega arith);
      }

  pub record_found : (q e : ℕ) → q < length core → Some e ≡ mark_above core q → None ≡ first_bad core q e → IsRecord core q (e - q + 1)
  record_found q e high found none =
      let s = said_up has_mark core q (length core - q) (Some e) found in
      let above : q ≤ e = s.low in
      let inside : e < q + (length core - q) = s.high in
      let highest : q + (e - q + 1) - 1 ≡ e = omega arith in
      record {
        some = omega arith;
        high = omega arith;
        good = λ i l. all_good q e (omega arith) (omega arith) none (q + i) (omega arith) (omega arith);
        ends = rw highest s.here;
        goes_on = λ i l. s.between (q + i) (omega arith) (omega arith);
      }

-- the cells that were written from a word are those that it was read from
written_copied : (core new : List ℕ) (to from n w : ℕ) → ((j : ℕ) → j < n → six w j ≡ get_or core (from + j) 0) → new ≡ core_with_word core to n w → new ≡ core_after_copy core to from n
written_copied core new to from n w cells is =
    is ∙ copied_is core to from n (core_with_word core to n w) (length_written core to n w) (λ a h low high. written_in core to n w a h low high ∙ cells (a - to) (omega arith)) (λ a h out. written_out core to n w a h out)

-- a cell of a word has six bits
six_small : (w j : ℕ) → six w j < 64
six_small w j = omega arith

-- a good cell that was read within a word
good_within : (w j c : ℕ) → six w j ≡ c → is_bad_cell (six w j) ≡ false → IsGoodCell c
good_within w j c e good = not_bad c (rw e at (six_small w j)) (rw e at good)

-- a field whose units are the highest cell of a word, and the move of its cells
module _ (core new : List ℕ) (p q n w : ℕ) (p_high : p < length core) (low : 9 ≤ q) (high : q < length core) (cells : (j : ℕ) → j < 10 → six w j ≡ get_or core (q - 9 + j) 0)
    (ends : EndsField w n) (good : (j : ℕ) → 10 - n ≤ j → j < 10 → is_bad_cell (six w j) ≡ false) where
  field_cell : (i j : ℕ) → i + j ≡ 9 → six w j ≡ get_or core (q - i) 0
  field_cell i j e = let f : q - 9 + j ≡ q - i = omega arith in rw f at (cells j (omega arith))

  field_within : IsField core q n
  field_within =
      let two : 2 ≤ n = ends.two in
      let ten : n ≤ 10 = ends.ten in
      let lowest : q - (n - 1) ≡ q + 1 - n = omega arith in
      let e : six w (10 - n) ≡ get_or core (q + 1 - n) 0 = rw lowest at (field_cell (n - 1) (10 - n) (omega arith)) in
      record {
        some = two;
        low = omega arith;
        high = high;
        good = λ i l. good_within w (9 - i) (get_or core (q - i) 0) (field_cell i (9 - i) (omega arith)) (good (9 - i) (omega arith) (omega arith));
        ends = rw e at ends.flag;
        goes_on = λ i pos l. rw (field_cell i (9 - i) (omega arith)) at (ends.between (9 - i) (omega arith) (omega arith));
      }

  field_shifted : (j : ℕ) → j < n → six (w / 2 ^ (6 * (10 - n))) j ≡ get_or core (q + 1 - n + j) 0
  field_shifted j l =
      let ten : n ≤ 10 = ends.ten in
      let f : q - 9 + (10 - n + j) ≡ q + 1 - n + j = omega arith in
      six_of_high w (10 - n) j ∙ (rw f at (cells (10 - n + j) (omega arith)))

  pub field_moved : n ≤ p + 1 → ReadsFirstDown p q n → new ≡ core_with_word core (p + 1 - n) n (w / 2 ^ (6 * (10 - n))) → Did core (move_field core p q) new (Ok tt)
  field_moved room first is =
      field_copied core new p q n p_high (record { field = field_within; room = room; reads_first = first })
      (written_copied core new (p + 1 - n) (q + 1 - n) n (w / 2 ^ (6 * (10 - n))) field_shifted is)

-- a record whose first digit is the lowest cell of a word, and the move of its cells
module _ (core new : List ℕ) (p q n w : ℕ) (p_high : p < length core) (high : q + 10 ≤ length core) (cells : (j : ℕ) → j < 10 → six w j ≡ get_or core (q + j) 0)
    (ends : EndsRecord w n) (good : (j : ℕ) → j < n → is_bad_cell (six w j) ≡ false) where
  record_within : IsRecord core q n
  record_within =
      let some : 1 ≤ n = ends.some in
      let ten : n ≤ 10 = ends.ten in
      let highest : q + (n - 1) ≡ q + n - 1 = omega arith in
      let e : six w (n - 1) ≡ get_or core (q + n - 1) 0 = rw highest at (cells (n - 1) (omega arith)) in
      record {
        some = some;
        high = omega arith;
        good = λ i l. good_within w i (get_or core (q + i) 0) (cells i (omega arith)) (good i l);
        ends = rw e at ends.mark;
        goes_on = λ i l. rw (cells i (omega arith)) at (ends.before i l);
      }

  pub record_moved : p + n ≤ length core → ReadsFirstUp p q n → new ≡ core_with_word core p n w → Did core (move_record core p q) new (Ok tt)
  record_moved room first is =
      record_copied core new p q n p_high (record { whole = record_within; room = room; reads_first = first })
      (written_copied core new p q n w (λ j l. let ten : n ≤ 10 = ends.ten in cells j (omega arith)) is)
