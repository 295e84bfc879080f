-- What words say of a turn: the cells that its cycles leave.
use Rattle.std.proofs.Common.{ℕ, ◌≡◌, ◌+◌, ◌-◌, ◌*◌, ◌/◌, ◌%◌, ◌^◌, ◌<◌, ◌≤◌, inl, inr, Bool, true, false, not, List, length, get_or, sym, ap, ◌∙◌, arith}
use Rattle.std.proofs.lemmas.Bool.{cases_lt}
use Rattle.std.specs.Prelude.{bit_xor}
use Rattle.digit_core.specs.Cell.{cell, unflagged_digit, has_flag, value_in}
use Rattle.digit_core.specs.Packed.{six, HasCells}
use Rattle.digit_core.specs.Search.{is_bad_cell}
use Rattle.digit_core.specs.Within.{AreGood, AreGoodUpTo}
use Rattle.digit_core.specs.Written.{core_with_word}
use Rattle.digit_core.proofs.Sixes.{six_of_high, six_of_low}
use Rattle.digit_core.proofs.Writing.{written_out}
use Rattle.feature_ops.specs.Feature.{NUMBER_ZONE}
use Rattle.feature_ops.specs.declared.fives.Turn.{Turn}
use Rattle.feature_ops.specs.Five.{AreOdd, AreZoned, IsPlain, IsFlagged, ArePairsApart, AreStillApart, EndsAmong, AreStripped, AreLastStripped, AreLastFilled, FiveAreGood, Strips, StripsOf, IsNextTen, Fills, FillsOf}
use Rattle.feature_ops.proofs.Flags.{flag_turns, joined, joined_low, joined_high}
use Rattle.feature_ops.proofs.Turns.{six_small}

-- the lowest n cells of a word are the digits of the highest of so many pairs
abbrev HasDigits : ℕ → List ℕ → ℕ → ℕ → Type 0
HasDigits digits core pairs n = (j : ℕ) → j < n → six digits j ≡ get_or core (2 * (pairs - n + j) + 1) 0

-- the upper five of the ten cells below a position
pub upper : (core : List ℕ) (left w : ℕ) → 10 ≤ left → HasCells w core (left - 10) 10 → HasCells (w / 2 ^ 30) core (left - 5) 5
upper core left w ten cells j l =
    let e : left - 10 + (5 + j) ≡ left - 5 + j = omega arith in
    six_of_high w 5 j ∙ (rw e at (cells (5 + j) (omega arith)))

-- the lower five, which stay where others are written over the upper five pairs
pub lower : (core : List ℕ) (pairs left w cells : ℕ) → left ≤ length core → 10 ≤ left → AreStillApart (pairs - 5) (left - 5)
    → HasCells w core (left - 10) 10
    → HasCells (w % 2 ^ 30) (core_with_word core (2 * (pairs - 5)) (2 * 5) cells) (left - 5 - 5) 5
lower core pairs left w cells q_room ten apart olds j l =
    let on_p : 5 ≤ pairs - 5 = apart.p in
    let e : left - 10 + j ≡ left - 5 - 5 + j = omega arith in
    let stays =
    written_out core (2 * (pairs - 5)) (2 * 5) cells (left - 5 - 5 + j) (omega arith)
    (elim apart.apart [ inl x ↦ inl (omega arith) | inr x ↦ inr (omega arith) ]) in
    six_of_low w 5 j l ∙ (rw e at (olds j (omega arith))) ∙ sym stays

-- digits of P, at the odd ones of ten cells
pub odd_digits : (core : List ℕ) (pairs w five : ℕ) → 5 ≤ pairs → HasCells w core (2 * pairs - 10) 10 → AreOdd five w
    → HasDigits five core pairs 5
odd_digits core pairs w five some digits odd j l =
    let e : 2 * pairs - 10 + (2 * j + 1) ≡ 2 * (pairs - 5 + j) + 1 = omega arith in
    odd j l ∙ (rw e at (digits (2 * j + 1) (omega arith)))

-- those of twenty
pub odd_joined : (core : List ℕ) (pairs w v low high : ℕ) → 10 ≤ pairs → (low_small : low < 2 ^ 30) (high_small : high < 2 ^ 30)
    → HasCells w core (2 * pairs - 20) 10 → AreOdd low w
    → HasCells v core (2 * pairs - 10) 10 → AreOdd high v
    → HasDigits (joined low high low_small high_small) core pairs 10
odd_joined core pairs w v low high some low_small high_small lows low_odd highs high_odd j l =
    elim (cases_lt j 5) as (λ _. six (joined low high low_small high_small) j ≡ get_or core (2 * (pairs - 10 + j) + 1) 0) [
      | inl h ↦
          let e : 2 * pairs - 20 + (2 * j + 1) ≡ 2 * (pairs - 10 + j) + 1 = omega arith in
          joined_low low high low_small high_small j h ∙ low_odd j h ∙ (rw e at (lows (2 * j + 1) (omega arith)))
      | inr g ↦
          let e : 2 * (pairs - 5 + (j - 5)) + 1 ≡ 2 * (pairs - 10 + j) + 1 = omega arith in
          joined_high low high low_small high_small j g
          ∙ (rw e at (odd_digits core pairs v high (omega arith) highs high_odd (j - 5) (omega arith)))
    ]

-- a part of what lies apart
fewer_apart : (pairs left n m : ℕ) → m ≤ n → ArePairsApart pairs left n → ArePairsApart pairs left m
fewer_apart pairs left n m fewer a =
    let on_p : n ≤ pairs = a.p in
    let on_q : n ≤ left = a.q in
    record { p = omega arith; q = omega arith; apart = elim a.apart [ inl x ↦ inl (omega arith) | inr x ↦ inr (omega arith) ] }

-- the lowest n cells of a word are those of n places below a top: the highest m of them are those of the m places below it
highest : (core : List ℕ) (place : ℕ → ℕ) (top n m word : ℕ) → m ≤ n → n ≤ top
    → ((j : ℕ) → j < n → six word j ≡ get_or core (place (top - n + j)) 0)
    → (j : ℕ) → j < m → six word (n - m + j) ≡ get_or core (place (top - m + j)) 0
highest core place top n m word fewer on cells j l =
    let e : top - n + (n - m + j) ≡ top - m + j = omega (arith, fewer, on) in
    rw e at (cells (n - m + j) (omega (arith, fewer)))

-- a cell with its flag turned round
turned : (w j c : ℕ) (flag : Bool) → is_bad_cell (six w j) ≡ false → has_flag (six w j) ≡ flag → six w j ≡ c
    → bit_xor (six w j) 48 ≡ cell (record { flag = not flag; value = value_in c })
turned w j c flag good flagged is =
    flag_turns (six w j) (six_small w j) good ∙ ap (λ b. cell (record { flag = not b; value = value_in (six w j) })) flagged
    ∙ ap (λ x. cell (record { flag = not flag; value = value_in x })) is

-- a turn takes the highest m of n good cells of a word, which are the n below a position
module _ (core : List ℕ) (pairs left n m olds : ℕ) (some : 1 ≤ m) (most : m ≤ n) (apart : ArePairsApart pairs left n)
    (cells : HasCells olds core (left - n) n) (good : AreGoodUpTo olds n) where
  place : (j : ℕ) → j < m → n - m + j < n
  place j l = omega (arith, most)

  first_place : n - m + 0 ≡ n - m
  first_place = omega arith

  first_left : left - m + 0 ≡ left - m
  first_left = omega arith

  first_pair : pairs - m + 0 ≡ pairs - m
  first_pair = omega arith

  old_cell : (j : ℕ) → j < m → six olds (n - m + j) ≡ get_or core (left - m + j) 0
  old_cell = highest core (λ i. i) left n m olds most apart.q cells

  old_plain : (j : ℕ) → j < m → has_flag (six olds (n - m + j)) ≡ false → IsPlain (get_or core (left - m + j) 0)
  old_plain j l unflagged = (rw (old_cell j l) at (good (n - m + j) (place j l)), rw (old_cell j l) at unflagged)

  module _ (ended : EndsAmong n olds m) where
    old_goes_on : (j : ℕ) → 0 < j → j < m → IsPlain (get_or core (left - m + j) 0)
    old_goes_on j pos l = old_plain j l (ended.goes_on (n - m + j) (omega (arith, most)) (place j l))

    old_lowest : six olds (n - m) ≡ get_or core (left - m) 0
    old_lowest = rw (first_place, first_left) at (old_cell 0 some)

    old_good : is_bad_cell (six olds (n - m)) ≡ false
    old_good = good (n - m) (omega (arith, some, most))

    old_ends : IsFlagged (get_or core (left - m) 0)
    old_ends = (rw old_lowest at old_good, rw old_lowest at ended.flag)

    last_is_filled : (w : ℕ) → six w 1 ≡ bit_xor (six olds (n - m)) 48
        → ((j : ℕ) → 0 < j → j < m → six w (2 * j + 1) ≡ six olds (n - m + j))
        → ((j : ℕ) → j < m → six w (2 * j) ≡ cell (unflagged_digit NUMBER_ZONE)) → AreLastFilled core pairs left m w
    last_is_filled w lowest others zones = record {
      goes_on = old_goes_on;
      ends = old_ends;
      digits = λ j pos h. others j pos h ∙ old_cell j h;
      lowest = lowest ∙ turned olds (n - m) (get_or core (left - m) 0) true old_good ended.flag old_lowest;
      zones = zones;
    }

  -- the digits of a strip, which are plain
  module _ (digits : ℕ) (are : HasDigits digits core pairs n) (plains : (j : ℕ) → j < n → IsPlain (six digits j)) where
    digit : (j : ℕ) → j < m → six digits (n - m + j) ≡ get_or core (2 * (pairs - m + j) + 1) 0
    digit = highest core (λ i. 2 * i + 1) pairs n m digits most apart.p are

    next_is_stripped : ((j : ℕ) → j < n → has_flag (six olds j) ≡ false) → AreStripped core pairs left m (digits / 2 ^ (6 * (n - m)))
    next_is_stripped unflagged = record {
      olds = λ j l. old_plain j l (unflagged (n - m + j) (place j l));
      digits = λ j l. six_of_high digits (n - m) j ∙ digit j l;
      unflagged = λ j l. rw (six_of_high digits (n - m) j) (plains (n - m + j) (place j l));
    }

    last_is_stripped : (w : ℕ) → EndsAmong n olds m → six w 0 ≡ bit_xor (six digits (n - m)) 48
        → ((j : ℕ) → 0 < j → six w j ≡ six digits (n - m + j))
        → AreLastStripped core pairs left m w
    last_is_stripped w ended lowest others =
        let plain = plains (n - m) (omega (arith, some, most)) in
        record {
          goes_on = old_goes_on ended;
          ends = old_ends ended;
          digits = λ j pos h. others j pos ∙ digit j h;
          lowest = lowest ∙ turned digits (n - m) (get_or core (2 * (pairs - m) + 1) 0) false plain.0 plain.1
              (rw (first_place, first_pair) at (digit 0 some));
          unflagged = λ j h. rw (digit j h) at (plains (n - m + j) (place j h));
        }

-- what two words say of a turn of a strip
pub strips_of : (core : List ℕ) (pairs left n olds digits : ℕ) (turn : Turn) → n ≤ 10 → ArePairsApart pairs left n
    → HasCells olds core (left - n) n → HasDigits digits core pairs n
    → AreGoodUpTo olds n → ((j : ℕ) → j < n → IsPlain (six digits j)) → StripsOf n olds digits turn → Strips core pairs left turn
strips_of core pairs left n olds digits turn ten apart cells are good plains s =
    let fewer : turn.count ≤ n = s.most in
    record {
      apart = fewer_apart pairs left n turn.count fewer apart;
      some = s.some;
      most = omega arith;
      on = λ h. rw (s.on h).1 (next_is_stripped core pairs left n turn.count olds s.some fewer apart cells good digits are plains
          (s.on h).0);
      end = λ h. last_is_stripped core pairs left n turn.count olds s.some fewer apart cells good digits are plains turn.cells (s.end h)
          (s.lowest h) (s.others h);
    }

-- what one says of a turn of a fill
pub fills_of : (core : List ℕ) (pairs left five whole : ℕ) (turn : Turn) → ArePairsApart pairs left 5 → HasCells five core (left - 5) 5
    → FillsOf five whole turn → Fills core pairs left turn
fills_of core pairs left five whole turn apart cells s = record {
  apart = fewer_apart pairs left 5 turn.count s.most apart;
  some = s.some;
  most = s.most;
  on = λ h.
      let zoned : AreZoned turn.cells (five / 2 ^ (6 * (5 - turn.count))) = (s.on h).1.1 in
      let fewer : turn.count ≤ 5 = s.most in
      record {
        olds = λ j l. old_plain core pairs left 5 turn.count five s.some fewer apart cells s.good j l
            ((s.on h).1.0 (5 - turn.count + j) (omega arith));
        digits = λ j l.
            zoned.digits j (omega arith) ∙ six_of_high five (5 - turn.count) j
            ∙ old_cell core pairs left 5 turn.count five s.some fewer apart cells s.good j l;
        zones = λ j l. zoned.zones j (omega arith);
      };
  end = λ h. last_is_filled core pairs left 5 turn.count five s.some s.most apart cells s.good (s.end h) turn.cells (s.lowest h)
      (s.others h) (s.zones h);
}

rest_apart : (pairs left : ℕ) → AreStillApart pairs left → ArePairsApart pairs left 5
rest_apart pairs left a = record { p = a.p; q = a.q; apart = elim a.apart [ inl x ↦ inl (omega arith) | inr x ↦ inr (omega arith) ] }

-- the two turns of ten digits of a fill
module _ (core : List ℕ) (pairs left w : ℕ) (first : Turn) (is : IsNextTen core pairs left w) (s : FillsOf (w / 2 ^ 30) 5 first) where
  pub fills_first : Fills core pairs left first
  fills_first = fills_of core pairs left (w / 2 ^ 30) 5 first is.apart (upper core left w is.room is.cells) s

  pub fills_second : (whole : ℕ) (second : Turn) → left ≤ length core → AreStillApart (pairs - first.count) (left - first.count)
      → first.count ≡ 5 → FillsOf (w % 2 ^ 30) whole second
      → Fills (core_with_word core (2 * (pairs - first.count)) (2 * first.count) first.cells) (pairs - first.count)
      (left - first.count) second
  fills_second whole second q_room apart five t =
      let apart : AreStillApart (pairs - 5) (left - 5) = rw five at apart in
      rw five
      (fills_of (core_with_word core (2 * (pairs - 5)) (2 * 5) first.cells) (pairs - 5) (left - 5) (w % 2 ^ 30) whole second
      (rest_apart (pairs - 5) (left - 5) apart)
      (lower core pairs left w first.cells q_room is.room apart is.cells) t)

-- the parts of ten good cells
pub upper_good : (w : ℕ) → AreGood w → FiveAreGood (w / 2 ^ 30)
upper_good w good j l = rw (six_of_high w 5 j) (good (5 + j) (omega arith))

pub lower_good : (w : ℕ) → AreGood w → FiveAreGood (w % 2 ^ 30)
lower_good w good j l = rw (six_of_low w 5 j l) (good j (omega arith))
