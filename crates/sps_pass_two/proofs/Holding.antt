-- What the cells of an image hold, and what its pieces keep by it.
use Rattle.std.proofs.Common.{◌≡◌, ℕ, zero, suc, ◌+◌, ◌-◌, ◌<◌, ◌≤◌, ◌==◌, nat_le, inl, inr, Bool, true, false, List, [], ◌∷◌, length, refl, sym, ◌∙◌, Option, Some, None, arith, All}
use Rattle.std.specs.Prelude.{⊤, IfSome, if◌then◌else◌}
use Rattle.std.proofs.lemmas.Bool.{cases_lt}
use Rattle.std.proofs.lemmas.Bool.Decides.{nat_tests}
use Rattle.std.proofs.lemmas.List.Elements.{All-cons, All-nil}
use Rattle.digit_core.specs.declared.Digit.{Digit}
use Rattle.digit_core.specs.Cell.{IsGood, unflagged_digit}
use Rattle.sps_expr.proofs.Cases.{by_option}
use Rattle.sps_pass_two.specs.Image.{DigitRun, run_with, digit_at, or_else, declared_digit, cells_from, onto_piece, pieces_from}
use Rattle.sps_pass_two.specs.Kept.{IsRunBelow, rises, lowest_declared, digit_count}
use Rattle.sps_pass_two.proofs.DigitAt.{outside, within}
use Rattle.sps_pass_two.proofs.KeptPieces.{both, tail}

pub length_cells : (fields : List DigitRun) (n a : ℕ) → length (cells_from fields a n) ≡ n
unfolding cells_from
length_cells fields zero a = refl
length_cells fields (suc n) a = let k = length_cells fields n (a + 1) in omega arith

-- each run has good digits
abbrev pub AllGoodRuns : List DigitRun → Type 0
AllGoodRuns [] = ⊤
AllGoodRuns (r ∷ rs) = All IsGood r.digits × AllGoodRuns rs

good_at : (r : DigitRun) (a : ℕ) → All IsGood r.digits → IfSome (digit_at r a) IsGood
good_at r a good =
    elim (cases_lt a r.from) [
      | inl low ↦ rw (outside r a (inl low)) tt
      | inr h ↦ elim (cases_lt a (r.from + length r.digits)) [
        | inl l ↦ rw (within r a h l) (good (a - r.from) (unflagged_digit 0) (omega arith))
        | inr o ↦ rw (outside r a (inr o)) tt
      ]
    ]

either_good : (x y : Option Digit) → IfSome x IsGood → IfSome y IsGood → IfSome (or_else x y) IsGood
either_good None y a b = b
either_good (Some d) y a b = a

good_declared : (rs : List DigitRun) (a : ℕ) → AllGoodRuns rs → IfSome (declared_digit rs a) IsGood
unfolding declared_digit
good_declared [] a good = tt
good_declared (r ∷ rs) a good = either_good (declared_digit rs a) (digit_at r a) (good_declared rs a good.1) (good_at r a good.0)

pub good_cells : (rs : List DigitRun) (n a : ℕ) → AllGoodRuns rs → All (λ o. IfSome o IsGood) (cells_from rs a n)
unfolding cells_from
good_cells rs zero a good = All-nil (λ (o : Option Digit). IfSome o IsGood)
good_cells rs (suc n) a good = All-cons (λ (o : Option Digit). IfSome o IsGood) (declared_digit rs a) (cells_from rs (a + 1) n) (good_declared rs a good) (good_cells rs n (a + 1) good)

-- no run has a digit below the least address that may be declared
abbrev pub LiesAbove : DigitRun → Type 0
LiesAbove r = 0 < length r.digits → lowest_declared ≤ r.from

abbrev pub AllAbove : List DigitRun → Type 0
AllAbove [] = ⊤
AllAbove (r ∷ rs) = LiesAbove r × AllAbove rs

none_at : (r : DigitRun) (a : ℕ) → a < 100 → LiesAbove r → digit_at r a ≡ None
none_at r a low above =
    elim (cases_lt a r.from) [
      | inl l ↦ outside r a (inl l)
      | inr h ↦ elim (cases_lt 0 (length r.digits)) [
        | inl some ↦ absurd (let k = above some in omega arith)
        | inr none ↦ outside r a (inr (omega arith))
      ]
    ]

none_declared : (rs : List DigitRun) (a : ℕ) → a < 100 → AllAbove rs → declared_digit rs a ≡ None
unfolding declared_digit
none_declared [] a low above = refl
none_declared (r ∷ rs) a low above = rw (none_declared rs a low above.1) (none_at r a low above.0)

abbrev IsAbove : DigitRun → Type 0
IsAbove r = lowest_declared ≤ r.from

onto_above : (a : ℕ) (d : Digit) (ps : List DigitRun) → 100 ≤ a → All IsAbove ps → All IsAbove (onto_piece a d ps)
onto_above a d [] h all = All-cons IsAbove (run_with a (d ∷ [])) [] h (All-nil IsAbove)
onto_above a d (p ∷ ps) h all = by_near (p.from == a + 1)
  where
    by_near : (t : Bool) → All IsAbove (if t then run_with a (d ∷ p.digits) ∷ ps else run_with a (d ∷ []) ∷ p ∷ ps)
    by_near true = All-cons IsAbove (run_with a (d ∷ p.digits)) ps h (tail IsAbove p ps all)
    by_near false = All-cons IsAbove (run_with a (d ∷ [])) (p ∷ ps) h all

pub above_pieces : (rs : List DigitRun) (n a : ℕ) → AllAbove rs → All IsAbove (pieces_from a (cells_from rs a n))
unfolding cells_from pieces_from
above_pieces rs zero a above = All-nil IsAbove
above_pieces rs (suc n) a above = by_option (declared_digit rs a)
    (λ none. rw none (above_pieces rs n (a + 1) above))
    (λ d some. elim (cases_lt a 100) [
      | inl low ↦ absurd (let k = sym some ∙ none_declared rs a low above in cc)
      | inr h ↦ rw some (onto_above a d (pieces_from (a + 1) (cells_from rs (a + 1) n)) h (above_pieces rs n (a + 1) above))
    ])

-- runs of which the first begins there or above
abbrev From : ℕ → List DigitRun → Type 0
From b [] = ⊤
From b (r ∷ rs) = b ≤ r.from

count_from : (rs : List DigitRun) (b : ℕ) → b ≤ 60000 → From b rs → rises rs ≡ true → All (IsRunBelow 60000) rs → digit_count rs + b ≤ 60000
unfolding digit_count
count_from [] b low from up below = omega arith
count_from (r ∷ []) b low from up below =
    let high : r.from + length r.digits ≤ 60000 = below 0 r (omega arith) in
    omega arith
count_from (r ∷ s ∷ rs) b low from up below =
    let high : r.from + length r.digits ≤ 60000 = below 0 r (omega arith) in
    let two = both (nat_le (r.from + length r.digits) s.from) (rises (s ∷ rs)) up in
    let next : r.from + length r.digits ≤ s.from = let t = two.0 in grind (arith, nat_tests) in
    let rest = count_from (s ∷ rs) (r.from + length r.digits) high next two.1 (tail (IsRunBelow 60000) r (s ∷ rs) below) in
    omega arith

from_0 : (rs : List DigitRun) → From 0 rs
from_0 [] = tt
from_0 (r ∷ rs) = omega arith

-- pieces that rise within the largest core have no more digits than it has positions
pub few_digits : (rs : List DigitRun) → rises rs ≡ true → All (IsRunBelow 60000) rs → digit_count rs ≤ 60000
few_digits rs up below = let k = count_from rs 0 (omega arith) (from_0 rs) up below in omega (arith, k)
