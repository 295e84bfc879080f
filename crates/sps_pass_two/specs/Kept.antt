-- The conditions that every image meets, and further conditions for a program that breaks no rule.
use Rattle.std.specs.Prelude.{ℕ, ◌≡◌, ◌+◌, ◌-◌, ◌%◌, ◌≤◌, Bool, true, ◌&&◌, nat_le, nat_lt, List, [], ◌∷◌, length, slice_index_or, Option, None, IfSome, if◌then◌else◌}
use Rattle.std.specs.List.{All}
use Rattle.digit_core.specs.declared.Digit.{Digit}
use Rattle.digit_core.specs.Cell.{IsGood}
use Rattle.sps_pass_two.specs.Image.{DigitRun, declared_digit, pieces_from}
use Rattle.digit_core.specs.declared.TheConstants.{MOST_POSITIONS}

-- a piece has at least one digit, and all its digits are good
pub record IsPiece (r : DigitRun) : Type 0 where
  pub some : 1 ≤ length r.digits
  pub good : All IsGood r.digits

-- all its addresses are below n
abbrev pub IsRunBelow : ℕ → DigitRun → Type 0
IsRunBelow n r = r.from + length r.digits ≤ n

-- one run ends before the next begins
abbrev pub rises : List DigitRun → Bool
rises [] = true
rises (r ∷ []) = true
rises (r ∷ s ∷ rs) = nat_le (r.from + length r.digits) s.from && rises (s ∷ rs)

-- the pieces of an image, rising, all within the largest core
pub record IsImage (pieces : List DigitRun) : Type 0 where
  pub each : All IsPiece pieces
  pub below : All (IsRunBelow MOST_POSITIONS) pieces
  pub rising : rises pieces ≡ true

-- between a piece and the next there is an address that isn't declared
abbrev pub are_apart : List DigitRun → Bool
are_apart [] = true
are_apart (r ∷ []) = true
are_apart (r ∷ s ∷ rs) = nat_lt (r.from + length r.digits) s.from && are_apart (s ∷ rs)

-- the least address that a statement may declare
abbrev pub lowest_declared : ℕ
lowest_declared = 100

-- the least address that a program may start at
abbrev pub lowest_start : ℕ
lowest_start = 400

-- the pieces and the start of a program without a broken rule
pub record IsProgram (pieces : List DigitRun) (start : ℕ) : Type 0 where
  pub above : All (λ r. lowest_declared ≤ r.from) pieces
  pub apart : are_apart pieces ≡ true
  pub start_even : start % 2 ≡ 0
  pub start_above : lowest_start ≤ start
  pub start_below : start + 12 ≤ MOST_POSITIONS

-- how many digits some runs have
unfoldable pub digit_count : List DigitRun → ℕ
digit_count [] = 0
digit_count (r ∷ rs) = length r.digits + digit_count rs

-- THE LAWS of the pieces of an image

-- the digit that cells from a on declare at address b
abbrev pub declared_in : ℕ → List (Option Digit) → ℕ → Option Digit
declared_in a cells b = if nat_lt b a then None else slice_index_or cells (b - a) None

-- the pieces declare the digits that the cells have, and between a piece and the next an address isn't declared
pub record ArePieces (a : ℕ) (cells : List (Option Digit)) (ps : List DigitRun) : Type 0 where
  pub declares : (b : ℕ) → declared_digit ps b ≡ declared_in a cells b
  pub apart : are_apart ps ≡ true

-- the pieces have good digits, end within the cells, and rise
pub record AreKept (a : ℕ) (cells : List (Option Digit)) (ps : List DigitRun) : Type 0 where
  pub each : All IsPiece ps
  pub below : All (IsRunBelow (a + length cells)) ps
  pub rising : rises ps ≡ true

abbrev pub PiecesLaw : Type 0
PiecesLaw = (cells : List (Option Digit)) (a : ℕ) → ArePieces a cells (pieces_from a cells)

-- each digit of the cells is good
abbrev pub HoldGood : List (Option Digit) → Type 0
HoldGood cells = All (λ o. IfSome o IsGood) cells

abbrev pub KeptLaw : Type 0
KeptLaw = (cells : List (Option Digit)) (a : ℕ) → HoldGood cells → AreKept a cells (pieces_from a cells)
