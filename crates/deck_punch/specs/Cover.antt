-- The segments of a piece are its cover.
use Rattle.std.specs.Prelude.{ℕ, ◌≡◌, ◌+◌, ◌-◌, ◌<◌, ◌≤◌, ◌⊎◌, true, false, List, [], ◌∷◌, ◌++◌, length}
use Rattle.digit_core.specs.declared.Digit.{Digit}
use Rattle.sps_pass_two.specs.Image.{DigitRun}
use Rattle.deck_punch.specs.Cut.{SEGMENT_DIGITS, cut_piece}
use Rattle.card_columns.specs.Orders.{nth}

-- the last digit is flagged, and isn't the first
abbrev pub EndsBehindFlag : List Digit → Type 0
EndsBehindFlag ds = (2 ≤ length ds) × ((nth ds (length ds - 1)).flag ≡ true)

-- the first digits of a piece are a segment, and the rest follows it: it ends after a flagged digit that isn't its first, after
-- `SEGMENT_DIGITS`, or with the piece, whichever comes first
pub record IsCutBefore (ds rest : List Digit) : Type 0 where
  pub some : 1 ≤ length ds
  pub most : length ds ≤ SEGMENT_DIGITS
  pub none_inside : (i : ℕ) → 0 < i → i + 1 < length ds → (nth ds i).flag ≡ false
  pub ends : EndsBehindFlag ds ⊎ ((length ds ≡ SEGMENT_DIGITS) ⊎ (rest ≡ []))

-- segments cover the digits from an address on: one after the other they are these digits, and `IsCut` holds for each and the
-- digits after it
pub data Covers (IsCut : List Digit → List Digit → Type 0) : ℕ → List Digit → List DigitRun → Type 0 where
  no_digits : {a : ℕ} → Covers IsCut a [] []
  segment : {a : ℕ} (ds rest : List Digit) {gs : List DigitRun} → IsCut ds rest → Covers IsCut (a + length ds) rest gs
      → Covers IsCut a (ds ++ rest) (record { from = a; digits = ds } ∷ gs)

-- a piece's segments cover it
abbrev pub CutLaw : Type 0
CutLaw = (piece : DigitRun) → Covers IsCutBefore piece.from piece.digits (cut_piece piece)
