-- Digits that cells can hold: those of addresses, of instructions and of cards.
use Rattle.std.proofs.Common.{ℕ, zero, suc, ◌≡◌, ◌/◌, ◌%◌, ◌<◌, ◌≤◌, List, [], ◌∷◌, ◌++◌, length, take, drop, replicate, arith}
use Rattle.std.proofs.lemmas.Bool.Decides.{nat_tests}
use Rattle.std.specs.List.{All}
use Rattle.digit_core.specs.declared.Digit.{Digit}
use Rattle.digit_core.specs.Cell.{IsGood, unflagged_digit}
use Rattle.card_columns.specs.Orders.{nth, address, order}

-- each of the digits is good
abbrev pub Good : List Digit → Type 0
Good [] = Unit {0}
Good (d ∷ ds) = IsGood d × Good ds

pub good_of : (ds : List Digit) → All IsGood ds → Good ds
good_of [] all = tt
good_of (d ∷ ds) all = (all 0 (unflagged_digit 0) (omega arith), good_of ds (λ k e l. all (suc k) e (omega arith)))

pub good_by : (ds : List Digit) → ((i : ℕ) → i < length ds → IsGood (nth ds i)) → Good ds
good_by [] all = tt
good_by (d ∷ ds) all = (all 0 (omega arith), good_by ds (λ i l. all (suc i) (omega arith)))

pub decimal_is_good : (v : ℕ) → v ≤ 9 → IsGood (unflagged_digit v)
decimal_is_good v h = grind (arith, nat_tests)

pub good_address : (a : ℕ) (ds : List Digit) → Good ds → Good (address a ds)
good_address a ds g = (
  decimal_is_good (a / 10000 % 10) (omega arith),
  (
    decimal_is_good (a / 1000 % 10) (omega arith),
    (
      decimal_is_good (a / 100 % 10) (omega arith),
      (decimal_is_good (a / 10 % 10) (omega arith), (decimal_is_good (a % 10) (omega arith), g)),
    ),
  ),
)

pub good_order : (o0 o1 p q : ℕ) (ds : List Digit) → o0 ≤ 9 → o1 ≤ 9 → Good ds → Good (order o0 o1 p q ds)
good_order o0 o1 p q ds x y g = (decimal_is_good o0 x, (decimal_is_good o1 y, good_address p (address q ds) (good_address q ds g)))

pub good_zeros : (n : ℕ) (ds : List Digit) → Good ds → Good (replicate n (unflagged_digit 0) ++ ds)
good_zeros zero ds g = g
good_zeros (suc n) ds g = (decimal_is_good 0 (omega arith), good_zeros n ds g)

-- what a card that is read has: 80 good digits, and the jump at 00036
pub record IsCard (ds : List Digit) : Type 0 where
  pub whole : length ds ≡ 80
  pub good : Good ds
  pub jump : take 12 (drop 36 ds) ≡ order 4 9 0 0 []
