-- How the pieces of an image are cut into segments, by the form of the deck.
use Rattle.std.specs.Prelude.{ℕ, zero, suc, ◌+◌, ◌-◌, List, [], ◌∷◌, ◌++◌, take, if◌then◌else◌}
use Rattle.digit_core.specs.declared.Digit.{Digit}
use Rattle.sps_pass_two.specs.Image.{DigitRun}
use Rattle.deck_punch.specs.declared.form.DeckForm.{DeckForm}
use Rattle.deck_punch.specs.declared.form.DeckForm.TheVariants.{SelfLoading, Dense}

-- how many digits a self-loading card has room for, and a dense one
abbrev pub SEGMENT_DIGITS : ℕ
SEGMENT_DIGITS = 32

abbrev pub DENSE_DIGITS : ℕ
DENSE_DIGITS = 69

-- how many digits a card has room for, by the form of the deck
abbrev pub room_in : DeckForm → ℕ
room_in SelfLoading = SEGMENT_DIGITS
room_in Dense = DENSE_DIGITS

-- a dense segment ends after its first inner flag, or after its second if its first digit has a flag
abbrev pub flags_within : Digit → ℕ
flags_within d = if d.flag then 2 else 1

-- a segment that begins with this digit ends after this number of inner flags
abbrev pub flags_in : DeckForm → Digit → ℕ
flags_in SelfLoading d = 1
flags_in Dense d = flags_within d

-- how many digits a segment takes after its first: at most `room`, and none after `flags` flagged digits
unfoldable pub take_count : ℕ → ℕ → List Digit → ℕ
take_count flags zero ds = 0
take_count zero (suc room) ds = 0
take_count (suc flags) (suc room) [] = 0
take_count (suc flags) (suc room) (d ∷ ds) = suc (take_count (if d.flag then flags else suc flags) room ds)

abbrev pub take_count_in : DeckForm → Digit → List Digit → ℕ
take_count_in form d ds = take_count (flags_in form d) (room_in form - 1) ds

-- the segment at the front of some digits; it has no more than a card has room for
abbrev pub front : DeckForm → List Digit → List Digit
front form [] = []
front form (d ∷ ds) = d ∷ take (take_count_in form d ds) ds

-- the segments of digits from address a on; the first `before` digits belong to the segment before
unfoldable pub segments_from : DeckForm → ℕ → ℕ → List Digit → List DigitRun
segments_from form a before [] = []
segments_from form a (suc before) (d ∷ ds) = segments_from form (a + 1) before ds
segments_from form a zero (d ∷ ds) =
    record { from = a; digits = front form (d ∷ ds) } ∷ segments_from form (a + 1) (take_count_in form d ds) ds

-- a piece is cut from its low end
abbrev pub cut_piece_as : DeckForm → DigitRun → List DigitRun
cut_piece_as form piece = segments_from form piece.from 0 piece.digits

-- the pieces, one after another
unfoldable pub cut_as : DeckForm → List DigitRun → List DigitRun
cut_as form [] = []
cut_as form (piece ∷ pieces) = cut_piece_as form piece ++ cut_as form pieces

-- for a self-loading deck
abbrev pub cut_piece : DigitRun → List DigitRun
cut_piece piece = cut_piece_as SelfLoading piece

abbrev pub cut : List DigitRun → List DigitRun
cut pieces = cut_as SelfLoading pieces

-- for a dense deck
abbrev pub cut_piece_dense : DigitRun → List DigitRun
cut_piece_dense piece = cut_piece_as Dense piece

abbrev pub cut_dense : List DigitRun → List DigitRun
cut_dense pieces = cut_as Dense pieces
