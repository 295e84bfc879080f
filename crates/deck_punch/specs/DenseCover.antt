-- The dense segments of a piece are its cover.
use Rattle.std.specs.Prelude.{ℕ, ◌≡◌, ◌-◌, ◌<◌, ◌≤◌, ◌⊎◌, true, List, [], length, take, drop, count_by}
use Rattle.digit_core.specs.declared.Digit.{Digit}
use Rattle.sps_pass_two.specs.Image.{DigitRun}
use Rattle.card_columns.specs.Orders.{nth}
use Rattle.deck_punch.specs.Cover.{Covers}
use Rattle.deck_punch.specs.Cut.{DENSE_DIGITS, flags_within, cut_piece_dense}

-- how many digits after the first have a flag
abbrev pub inner_flags : List Digit → ℕ
inner_flags ds = count_by (λ d. d.flag) (drop 1 ds)

-- the last digit is flagged and isn't the first, and its flag is the last inner flag that a dense segment may have
abbrev pub EndsBehindInner : List Digit → Type 0
EndsBehindInner ds =
    (2 ≤ length ds) × ((nth ds (length ds - 1)).flag ≡ true) × (inner_flags ds ≡ flags_within (nth ds 0))

-- the first digits of a piece are a dense segment, and the rest follows it: it ends after its first inner flag, or after its
-- second if its first digit has a flag; after `DENSE_DIGITS`; or with the piece, whichever comes first
pub record IsDenseCutBefore (ds rest : List Digit) : Type 0 where
  pub some : 1 ≤ length ds
  pub most : length ds ≤ DENSE_DIGITS
  pub none_inside : inner_flags (take (length ds - 1) ds) < flags_within (nth ds 0)
  pub ends : EndsBehindInner ds ⊎ ((length ds ≡ DENSE_DIGITS) ⊎ (rest ≡ []))

-- a piece's dense segments cover it
abbrev pub DenseLaw : Type 0
DenseLaw = (piece : DigitRun) → Covers IsDenseCutBefore piece.from piece.digits (cut_piece_dense piece)
