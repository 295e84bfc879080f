-- The code's walk over the pieces of an image, and what their segments are.
use Rattle.std.proofs.Common.{ℕ, suc, ◌≡◌, ◌+◌, ◌<◌, ◌≤◌, List, [], ◌∷◌, ◌++◌, length, map, drop, get_or, refl, sym, ap, ◌∙◌, arith, subst, length-append, All}
use Rattle.std.proofs.lemmas.List.{drop_more, drop_all, get_or-map, get_or_append_left, get_or-append-add, length-map}
use Rattle.std.proofs.lemmas.List.Elements.{All-cons, All-append}
use Rattle.digit_core.specs.declared.Digit.{Digit}
use Rattle.digit_core.specs.Cell.{IsGood}
use Rattle.sps_pass_two.specs.declared.image.Piece.{Piece}
use Rattle.sps_pass_two.specs.Types.{run_of}
use Rattle.sps_pass_two.specs.Image.{DigitRun}
use Rattle.sps_pass_two.specs.Kept.{IsPiece, IsRunBelow, IsImage}
use Rattle.deck_punch.specs.declared.form.DeckForm.{DeckForm}
use Rattle.deck_punch.specs.declared.segment.SegmentOf.{SegmentOf}
use Rattle.deck_punch.specs.Types.{segment_run}
use Rattle.deck_punch.specs.Cut.{cut_as, cut_piece_as}
use Rattle.deck_punch.specs.Cover.{Covers, no_digits, segment}
use Rattle.deck_punch.proofs.Covering.{form_covers}

-- the piece that is cut next, and the others
pub piece_on : (form : DeckForm) (pieces : List Piece) (i : ℕ) (piece : Piece) → i < length pieces → piece ≡ get_or pieces i piece →
    cut_as form (map run_of (drop i pieces)) ≡ cut_piece_as form (run_of piece) ++ cut_as form (map run_of (drop (i + 1) pieces))
unfolding cut_as
piece_on form pieces i piece more is =
    ap (λ (ps : List Piece). cut_as form (map run_of ps)) (drop_more pieces i piece more)
    ∙ ap (λ (p : Piece). cut_piece_as form (run_of p) ++ cut_as form (map run_of (drop (i + 1) pieces))) (sym is)

pub piece_none : (form : DeckForm) (pieces : List Piece) (i : ℕ) → length pieces ≤ i → cut_as form (map run_of (drop i pieces)) ≡ []
unfolding cut_as
piece_none form pieces i over = rw (drop_all i pieces over) refl

-- what holds of each run holds of each piece
pub piece_is : (P : DigitRun → Type 0) (pieces : List Piece) (runs : List DigitRun) (i : ℕ) (piece : Piece) → map run_of pieces ≡ runs → All P runs → i < length pieces → piece ≡ get_or pieces i piece → P (run_of piece)
piece_is P pieces runs i piece are all more is =
    let l : length (map run_of pieces) ≡ length pieces = length-map pieces run_of in
    let k : get_or runs i (run_of piece) ≡ run_of piece = ap (λ (rs : List DigitRun). get_or rs i (run_of piece)) (sym are) ∙ get_or-map run_of pieces i piece (run_of piece) more ∙ ap run_of (sym is) in
    subst P k (all i (run_of piece) (subst (λ (rs : List DigitRun). i < length rs) are (omega arith)))

-- a segment lies within the largest core, and its digits are good
pub record IsPlaced (r : DigitRun) : Type 0 where
  pub below : r.from + length r.digits ≤ 60000
  pub good : All IsGood r.digits

cover_each : {IsCut : List Digit → List Digit → Type 0} {a : ℕ} {ds : List Digit} {gs : List DigitRun} → Covers IsCut a ds gs → a + length ds ≤ 60000 → All IsGood ds → All IsPlaced gs
cover_each no_digits high good = λ k e l. absurd (omega arith)
cover_each {a = a} (segment ds rest cut more) high good =
    let l = length-append ds rest in
    All-cons IsPlaced (record { from = a; digits = ds }) _
    (record { below = omega arith; good = λ k e h. subst IsGood (get_or_append_left ds rest e k h) (good k e (omega arith)) })
    (cover_each more (omega arith) (λ k e h. subst IsGood (get_or-append-add ds rest k e) (good (length ds + k) e (omega arith))))

-- each segment of an image is such
pub cut_placed : (form : DeckForm) (pieces : List DigitRun) → All IsPiece pieces → All (IsRunBelow 60000) pieces → All IsPlaced (cut_as form pieces)
unfolding cut_as
cut_placed form [] each below = λ k e l. absurd (omega arith)
cut_placed form (r ∷ rs) each below =
    let p : IsPiece r = each 0 r (omega arith) in
    All-append IsPlaced (cut_piece_as form r) (cut_as form rs) (cover_each (form_covers form r) (below 0 r (omega arith)) p.good)
    (cut_placed form rs (λ k e l. each (suc k) e (omega arith)) (λ k e l. below (suc k) e (omega arith)))

-- and so is each segment on the code's walk over them
pub segment_placed : {n : ℕ} (form : DeckForm) (segments : List (SegmentOf n)) (pieces : List DigitRun) (i : ℕ) (s : SegmentOf n) → map segment_run segments ≡ cut_as form pieces → IsImage pieces → i < length segments → s ≡ get_or segments i s → IsPlaced (segment_run s)
segment_placed {n = n} form segments pieces i s are is more same =
    let all : All IsPlaced (cut_as form pieces) = cut_placed form pieces is.each is.below in
    let l : length (map (segment_run {n = n}) segments) ≡ length segments = length-map segments (segment_run {n = n}) in
    let k : get_or (cut_as form pieces) i (segment_run s) ≡ segment_run s =
    ap (λ (rs : List DigitRun). get_or rs i (segment_run s)) (sym are) ∙ get_or-map (segment_run {n = n}) segments i s (segment_run s) more ∙ ap (segment_run {n = n}) (sym same) in
    subst IsPlaced k (all i (segment_run s) (subst (λ (rs : List DigitRun). i < length rs) are (omega arith)))
