-- The image: at each address the digit of the last statement that declares it.
-- Source: SPS manual, assembling.
use Rattle.std.specs.Prelude.{ℕ, zero, suc, ◌+◌, ◌-◌, ◌&&◌, ◌==◌, Bool, List, [], ◌∷◌, length, slice_index_or, Option, Some, None, if◌then◌else◌, nat_le, nat_lt}
use Rattle.digit_core.specs.declared.Digit.{Digit}
use Rattle.digit_core.specs.Cell.{unflagged_digit}

-- digits from an address on: the digits that a statement declares, or a piece of the image
pub record DigitRun : Type 0 where
  pub from : ℕ
  pub digits : List Digit

abbrev pub run_with : ℕ → List Digit → DigitRun
run_with from digits = record { from = from; digits = digits }

-- the address is one of a run's
abbrev pub is_in_run : DigitRun → ℕ → Bool
is_in_run r a = nat_le r.from a && nat_lt a (r.from + length r.digits)

-- the digit that a run has at an address
unfoldable pub digit_at : DigitRun → ℕ → Option Digit
digit_at r a = if is_in_run r a then Some (slice_index_or r.digits (a - r.from) (unflagged_digit 0)) else None

-- one digit, or else another
abbrev pub or_else : Option Digit → Option Digit → Option Digit
or_else None other = other
or_else (Some d) other = Some d

-- the digit that some runs have at an address: the last run with a digit there gives it
unfoldable pub declared_digit : List DigitRun → ℕ → Option Digit
declared_digit [] a = None
declared_digit (r ∷ rs) a = or_else (declared_digit rs a) (digit_at r a)

-- the digits that fields declare at n addresses from a on
unfoldable pub cells_from : List DigitRun → ℕ → ℕ → List (Option Digit)
cells_from fields a zero = []
cells_from fields a (suc n) = declared_digit fields a ∷ cells_from fields (a + 1) n

-- a declared digit goes in front of the piece that begins at the next address; otherwise it begins a piece
abbrev pub onto_piece : ℕ → Digit → List DigitRun → List DigitRun
onto_piece a d [] = run_with a (d ∷ []) ∷ []
onto_piece a d (p ∷ ps) = if p.from == a + 1 then run_with a (d ∷ p.digits) ∷ ps else run_with a (d ∷ []) ∷ p ∷ ps

-- the maximal runs of declared addresses, rising; the first cell has address a
unfoldable pub pieces_from : ℕ → List (Option Digit) → List DigitRun
pieces_from a [] = []
pieces_from a (None ∷ cells) = pieces_from (a + 1) cells
pieces_from a (Some d ∷ cells) = onto_piece a d (pieces_from (a + 1) cells)

-- the pieces that fields declare in a core with this number of positions
abbrev pub pieces_of : ℕ → List DigitRun → List DigitRun
pieces_of positions fields = pieces_from 0 (cells_from fields 0 positions)
