-- The lines of the image.
use Rattle.std.proofs.Common.{◌≡◌, ℕ, suc, ◌+◌, ◌-◌, ◌/◌, ◌≤◌, ◌<◌, min, List, [], ◌∷◌, ◌++◌, length, take, drop, refl, sym, ap, ◌∙◌, arith}
use Rattle.std.proofs.lemmas.List.{append_assoc, take_all, drop_all, drop_more}
use Rattle.std.proofs.Math.ListN.{get_or-map, length-map}
use Rattle.std.specs.Int.{div_ceil}
use Rattle.std.specs.List.{All}
use Rattle.std.specs.Prelude.{map, nat_le, slice_index_or}
use Rattle.std.proofs.lemmas.Bool.Decides.{nat_tests}
use Rattle.digit_core.specs.declared.Digit.{Digit}
use Rattle.card_code.specs.Characters.{object_char}
use Rattle.sps_expr.proofs.Cases.{by_bool}
use Rattle.sps_pass_two.specs.declared.image.Piece.{Piece}
use Rattle.sps_pass_two.specs.Image.{DigitRun}
use Rattle.sps_pass_two.specs.Types.{run_of}
use Rattle.sps_listing.specs.Texts.{object_text, image_line, image_lines, digits_text, piece_text, image_text}

-- one more digit is on the line, and the others are left
pub one_digit : (line : List ℕ) (ds : List Digit) (i : ℕ) (d : Digit) → i < length ds → (line ++ object_char (slice_index_or ds i d) ∷ []) ++ object_text (drop (i + 1) ds) ≡ line ++ object_text (drop i ds)
one_digit line ds i d h = rw (drop_more ds i d h) (append_assoc line (object_char (slice_index_or ds i d) ∷ []) (object_text (drop (i + 1) ds)))

take_min : (ds : List Digit) (n : ℕ) → n ≡ min (length ds) 50 → take n ds ≡ take 50 ds
take_min ds n e = by_bool (nat_le (length ds) 50)
    (λ t. let k : n ≡ length ds = grind (arith, nat_tests) in let s : length ds ≤ 50 = grind (arith, nat_tests) in take_all n ds (omega (arith, k)) ∙ sym (take_all 50 ds s))
    (λ t. let k : n ≡ 50 = grind (arith, nat_tests) in ap (λ m. take m ds) k)

drop_min : (ds : List Digit) (n : ℕ) → n ≡ min (length ds) 50 → drop n ds ≡ drop 50 ds
drop_min ds n e = by_bool (nat_le (length ds) 50)
    (λ t. let k : n ≡ length ds = grind (arith, nat_tests) in let s : length ds ≤ 50 = grind (arith, nat_tests) in drop_all n ds (omega (arith, k)) ∙ sym (drop_all 50 ds s))
    (λ t. let k : n ≡ 50 = grind (arith, nat_tests) in ap (λ m. drop m ds) k)

pub one_line : (lines line from n : ℕ) (ds : List Digit) → line < lines → n ≡ min (length ds) 50 → image_lines (lines - line) from ds ≡ image_line from (take n ds) ++ image_lines (lines - (line + 1)) (from + 50) (drop n ds)
unfolding image_lines
one_line lines line from n ds h e =
    let k : lines - line ≡ suc (lines - (line + 1)) = omega arith in
    rw (k, take_min ds n e, drop_min ds n e) refl

pub all_lines : (lines from : ℕ) (ds es : List Digit) → lines ≡ div_ceil (length ds) 50 → ds ≡ es → image_lines (lines - 0) from ds ≡ digits_text from es
all_lines lines from ds es h e =
    let k : lines - 0 ≡ (length ds + 49) / 50 = omega arith in
    rw k (ap (λ all. digits_text from all) e)

pub no_line : (lines line from : ℕ) (ds : List Digit) → lines ≤ line → image_lines (lines - line) from ds ≡ []
unfolding image_lines
no_line lines line from ds h = let k : lines - line ≡ 0 = omega arith in rw k refl

pub one_piece : (ps : List Piece) (i : ℕ) (p : Piece) → i < length ps → p ≡ slice_index_or ps i p → image_text (map run_of (drop i ps)) ≡ piece_text (run_of p) ++ image_text (map run_of (drop (i + 1) ps))
unfolding image_text
one_piece ps i p h e = rw (drop_more ps i p h, ← e) refl

pub no_piece : (ps : List Piece) (i : ℕ) → length ps ≤ i → image_text (map run_of (drop i ps)) ≡ []
unfolding image_text
no_piece ps i h = rw (drop_all i ps h) refl

-- what holds of each run holds of a piece
pub piece_at : (P : DigitRun → Type 0) (runs : List DigitRun) (ps : List Piece) (i : ℕ) (p : Piece) → map run_of ps ≡ runs → All P runs → i < length ps → p ≡ slice_index_or ps i p → P (run_of p)
piece_at P runs ps i p same all h e =
    let each : All P (map run_of ps) = rw same all in
    let there : i < length (map run_of ps) = simp length-map h in
    let it = each i (run_of p) there in
    rw (get_or-map run_of ps i p, ← e) at it
