-- The table piece and the other pieces: what they are, and what they declare.
use Rattle.std.proofs.Common.{ℕ, suc, ◌≡◌, ◌+◌, ◌-◌, ◌<◌, ◌≤◌, ◌⊎◌, ◌&&◌, nat_le, nat_lt, inl, inr, Bool, true, false, List, [], ◌∷◌, ◌++◌, length, map, drop, get_or, Option, Some, None, refl, sym, ap, ◌∙◌, arith, subst, length-drop, All}
use Rattle.std.proofs.lemmas.List.{get_or-drop, drop_more, drop_all}
use Rattle.std.proofs.lemmas.List.FromFn.{get_or-map-range_with_len, length-map-range_with_len, map-range_with_len_more}
use Rattle.std.proofs.lemmas.List.Elements.{All-cons, All-nil, All-drop}
use Rattle.std.specs.List.{range_with_len}
use Rattle.std.proofs.lemmas.Bool.{cases_lt}
use Rattle.std.proofs.lemmas.Bool.Decides.{nat_tests}
use Rattle.std.specs.Prelude.{IfSome, unwrap_or}
use Rattle.digit_core.specs.declared.Digit.{Digit}
use Rattle.digit_core.specs.Cell.{IsGood, is_cell_value, unflagged_digit}
use Rattle.digit_core.specs.Standard.{standard_digit}
use Rattle.digit_core.proofs.Below.{same_below}
use Rattle.sps_pass_two.specs.Image.{DigitRun, digit_at, declared_digit, or_else}
use Rattle.sps_pass_two.specs.Kept.{IsPiece, IsRunBelow, IsImage, rises}
use Rattle.card_columns.specs.Orders.{nth}
use Rattle.deck_punch.specs.Tables.{table_digit, table_piece, below_end, behind_end, left_of, other_pieces, with_tables}
use Rattle.sps_pass_two.specs.declared.image.Piece.{Piece}
use Rattle.sps_pass_two.specs.Types.{run_of}
use Rattle.deck_punch.proofs.Declaring.{below, above, within, or_none, or_assoc}

by_case : {P : Type 0} (b : Bool) → (b ≡ true → P) → (b ≡ false → P) → P
by_case true f g = f refl
by_case false f g = g refl

-- WHAT THEY DECLARE

-- from 00400 on, what is left of a piece has the piece's digits
behind_there : (r : DigitRun) (a : ℕ) → below_end r < length r.digits → 400 ≤ a → digit_at (behind_end r) a ≡ digit_at r a
behind_there r a some far =
    let l = length-drop (below_end r) r.digits in
    elim (cases_lt a (r.from + below_end r)) [
      | inl low ↦ below (behind_end r) a low ∙ sym (below r a (omega arith))
      | inr high ↦ elim (cases_lt a (r.from + length r.digits)) [
        | inl there ↦
            let e : below_end r + (a - (r.from + below_end r)) ≡ a - r.from = omega arith in
            within (behind_end r) a high (omega (arith, l))
            ∙ ap (λ (d : Digit). Some d) (get_or-drop (below_end r) r.digits (a - (r.from + below_end r)) (unflagged_digit 0) ∙ ap (nth r.digits) e)
            ∙ sym (within r a (omega arith) there)
        | inr past ↦ above (behind_end r) a (omega (arith, l)) ∙ sym (above r a past)
      ]
    ]

-- where nothing is left of a piece, it has nothing there
nothing_there : (r : DigitRun) (a : ℕ) → length r.digits ≤ below_end r → 400 ≤ a → digit_at r a ≡ None
nothing_there r a none far =
    elim (cases_lt a r.from) [
      | inl low ↦ below r a low
      | inr high ↦ above r a (omega arith)
    ]

-- below it, nothing is declared
pub others_low : (rs : List DigitRun) (a : ℕ) → a < 400 → declared_digit (other_pieces rs) a ≡ None
unfolding declared_digit other_pieces
others_low [] a low = refl
others_low (r ∷ rs) a low = by_case (nat_lt (below_end r) (length r.digits))
    (λ t. rw (t, others_low rs a low) (below (behind_end r) a (omega arith)))
    (λ f. rw f (others_low rs a low))

-- from there on, the other pieces declare what the image does
pub others_declare : (rs : List DigitRun) (a : ℕ) → 400 ≤ a → declared_digit (other_pieces rs) a ≡ declared_digit rs a
unfolding declared_digit other_pieces
others_declare [] a far = refl
others_declare (r ∷ rs) a far = by_case (nat_lt (below_end r) (length r.digits))
    (λ t. let some : below_end r < length r.digits = grind (arith, nat_tests) in rw (t, others_declare rs a far, behind_there r a some far) refl)
    (λ f. let none : length r.digits ≤ below_end r = grind (arith, nat_tests) in rw (f, others_declare rs a far, nothing_there r a none far) (sym (or_none (declared_digit rs a))))

-- THE TABLE PIECE

pub table_length : (image : List DigitRun) → length (table_piece image).digits ≡ 300
unfolding table_piece
table_length image = length-map-range_with_len (table_digit image) 100 300

pub table_from : (image : List DigitRun) → (table_piece image).from ≡ 100
unfolding table_piece
table_from image = refl

table_nth : (image : List DigitRun) (i : ℕ) (d : Digit) → i < 300 → get_or (table_piece image).digits i d ≡ table_digit image (100 + i)
unfolding table_piece
table_nth image i d l = get_or-map-range_with_len (table_digit image) 100 300 i (100 + i) d l refl

pub table_there : (image : List DigitRun) (a : ℕ) → 100 ≤ a → a < 400 → digit_at (table_piece image) a ≡ Some (table_digit image a)
unfolding table_piece
table_there image a low high =
    let e : 100 + (a - 100) ≡ a = omega arith in
    within (table_piece image) a low (omega (arith, table_length image)) ∙ ap (λ (d : Digit). Some d) (table_nth image (a - 100) (unflagged_digit 0) (omega arith) ∙ ap (table_digit image) e)

pub table_below : (image : List DigitRun) (a : ℕ) → a < 100 → digit_at (table_piece image) a ≡ None
unfolding table_piece
table_below image a low = below (table_piece image) a low

pub table_above : (image : List DigitRun) (a : ℕ) → 400 ≤ a → digit_at (table_piece image) a ≡ None
unfolding table_piece
table_above image a far = above (table_piece image) a (omega (arith, table_length image))

-- the standard digits are good
good_standard : (i : ℕ) → i < 300 → is_cell_value (standard_digit (100 + i)).value ≡ true
unfolding standard_digit
good_standard i l = same_below (λ i. is_cell_value (standard_digit (100 + i)).value) (λ i. true) 300 i true refl l

good_nth : (ds : List Digit) (i : ℕ) → All IsGood ds → i < length ds → IsGood (nth ds i)
good_nth ds i good l = good i (unflagged_digit 0) l

good_at : (r : DigitRun) (a : ℕ) → All IsGood r.digits → IfSome (digit_at r a) IsGood
good_at r a good =
    elim (cases_lt a r.from) [
      | inl low ↦ rw (below r a low) tt
      | inr high ↦ elim (cases_lt a (r.from + length r.digits)) [
        | inl there ↦ rw (within r a high there) (good_nth r.digits (a - r.from) good (omega arith))
        | inr past ↦ rw (above r a past) tt
      ]
    ]

either_good : (x y : Option Digit) → IfSome x IsGood → IfSome y IsGood → IfSome (or_else x y) IsGood
either_good None y a b = b
either_good (Some d) y a b = a

tail : (P : DigitRun → Type 0) (r : DigitRun) (rs : List DigitRun) → All P (r ∷ rs) → All P rs
tail P r rs all = λ k e l. all (suc k) e (omega arith)

good_declared : (rs : List DigitRun) (a : ℕ) → All IsPiece rs → IfSome (declared_digit rs a) IsGood
unfolding declared_digit
good_declared [] a each = tt
good_declared (r ∷ rs) a each =
    let p : IsPiece r = each 0 r (omega arith) in
    either_good (declared_digit rs a) (digit_at r a) (good_declared rs a (tail IsPiece r rs each)) (good_at r a p.good)

good_either : (o : Option Digit) (d : Digit) → IfSome o IsGood → IsGood d → IsGood (unwrap_or o d)
good_either None d a b = b
good_either (Some e) d a b = a

pub table_good : (image : List DigitRun) → All IsPiece image → All IsGood (table_piece image).digits
table_good image each i d l =
    let k : i < 300 = omega (arith, table_length image) in
    subst IsGood (sym (table_nth image i d k)) (good_either (declared_digit image (100 + i)) (standard_digit (100 + i)) (good_declared image (100 + i) each) (good_standard i k))

pub table_is_piece : (image : List DigitRun) → All IsPiece image → IsPiece (table_piece image)
table_is_piece image each = record { some = omega (arith, table_length image); good = table_good image each }

-- THE OTHER PIECES

behind_is_piece : (r : DigitRun) → IsPiece r → below_end r < length r.digits → IsPiece (behind_end r)
behind_is_piece r p some = record { some = omega (arith, length-drop (below_end r) r.digits); good = All-drop IsGood (below_end r) r.digits p.good }

pub others_each : (rs : List DigitRun) → All IsPiece rs → All IsPiece (other_pieces rs)
unfolding other_pieces
others_each [] each = All-nil IsPiece
others_each (r ∷ rs) each = by_case (nat_lt (below_end r) (length r.digits))
    (λ t. let some : below_end r < length r.digits = grind (arith, nat_tests) in rw t (All-cons IsPiece (behind_end r) (other_pieces rs) (behind_is_piece r (each 0 r (omega arith)) some) (others_each rs (tail IsPiece r rs each))))
    (λ f. rw f (others_each rs (tail IsPiece r rs each)))

pub others_below : (n : ℕ) (rs : List DigitRun) → All (IsRunBelow n) rs → All (IsRunBelow n) (other_pieces rs)
unfolding other_pieces
others_below n [] under = All-nil (IsRunBelow n)
others_below n (r ∷ rs) under = by_case (nat_lt (below_end r) (length r.digits))
    (λ t.
    let some : below_end r < length r.digits = grind (arith, nat_tests) in
    let l = length-drop (below_end r) r.digits in
    let high : r.from + length r.digits ≤ n = under 0 r (omega arith) in
    rw t (All-cons (IsRunBelow n) (behind_end r) (other_pieces rs) (omega arith) (others_below n rs (tail (IsRunBelow n) r rs under))))
    (λ f. rw f (others_below n rs (tail (IsRunBelow n) r rs under)))

-- they begin behind the tables
abbrev pub IsBehind : DigitRun → Type 0
IsBehind r = 400 ≤ r.from

pub others_behind : (rs : List DigitRun) → All IsBehind (other_pieces rs)
unfolding other_pieces
others_behind [] = All-nil IsBehind
others_behind (r ∷ rs) = by_case (nat_lt (below_end r) (length r.digits))
    (λ t. rw t (All-cons IsBehind (behind_end r) (other_pieces rs) (omega arith) (others_behind rs)))
    (λ f. rw f (others_behind rs))

-- runs that rise from an address on
abbrev Rise : ℕ → List DigitRun → Type 0
Rise b [] = Unit {0}
Rise b (r ∷ rs) = (b ≤ r.from) × Rise (r.from + length r.digits) rs

both : (a b : Bool) → (a && b) ≡ true → (a ≡ true) × (b ≡ true)
both true b h = (refl, h)
both false b h = absurd cc

rise_of : (r : DigitRun) (rs : List DigitRun) → rises (r ∷ rs) ≡ true → Rise (r.from + length r.digits) rs
rise_of r [] up = tt
rise_of r (s ∷ rs) up =
    let two = both (nat_le (r.from + length r.digits) s.from) (rises (s ∷ rs)) up in
    let low : r.from + length r.digits ≤ s.from = let t = two.0 in grind (arith, nat_tests) in
    (low, rise_of s rs two.1)

all_rise : (rs : List DigitRun) → rises rs ≡ true → Rise 0 rs
all_rise [] up = tt
all_rise (r ∷ rs) up = (omega arith, rise_of r rs up)

rises_behind : (r : DigitRun) (rs : List DigitRun) → Rise (r.from + length r.digits) rs → rises (r ∷ rs) ≡ true
rises_behind r [] up = refl
rises_behind r (s ∷ rs) up =
    let low : nat_le (r.from + length r.digits) s.from ≡ true = let h : r.from + length r.digits ≤ s.from = up.0 in grind (arith, nat_tests) in
    rw low (rises_behind s rs up.1)

pub rises_from : (b : ℕ) (rs : List DigitRun) → Rise b rs → rises rs ≡ true
rises_from b [] up = refl
rises_from b (r ∷ rs) up = rises_behind r rs up.1

others_rise : (rs : List DigitRun) (b c : ℕ) → Rise b rs → (c ≤ 400) ⊎ (c ≤ b) → Rise c (other_pieces rs)
unfolding other_pieces
others_rise [] b c up near = tt
others_rise (r ∷ rs) b c up near =
    let low : b ≤ r.from = up.0 in
    let l = length-drop (below_end r) r.digits in
    by_case (nat_lt (below_end r) (length r.digits))
    (λ t.
    let some : below_end r < length r.digits = grind (arith, nat_tests) in
    let first : c ≤ r.from + below_end r = elim near [ inl h ↦ omega arith | inr h ↦ omega arith ] in
    rw t (first, others_rise rs (r.from + length r.digits) (r.from + below_end r + length (drop (below_end r) r.digits)) up.1 (inr (omega arith))))
    (λ f. rw f (others_rise rs (r.from + length r.digits) c up.1 (elim near [ inl h ↦ inl h | inr h ↦ inr (omega arith) ])))

pub others_image : (image : List DigitRun) → IsImage image → IsImage (other_pieces image)
others_image image is = record {
  each = others_each image is.each;
  below = others_below 60000 image is.below;
  rising = rises_from 0 (other_pieces image) (others_rise image 0 0 (all_rise image is.rising) (inr (omega arith)));
}

table_is_below : (n : ℕ) (image : List DigitRun) → 400 ≤ n → IsRunBelow n (table_piece image)
table_is_below n image h = omega (arith, table_from image, table_length image)

pub table_image : (image : List DigitRun) → IsImage image → IsImage (table_piece image ∷ [])
table_image image is = record {
  each = All-cons IsPiece (table_piece image) [] (table_is_piece image is.each) (All-nil IsPiece);
  below = All-cons (IsRunBelow 60000) (table_piece image) [] (table_is_below 60000 image (omega arith)) (All-nil (IsRunBelow 60000));
  rising = refl;
}

-- together they are an image
pub with_tables_image : (image : List DigitRun) → IsImage image → IsImage (with_tables image)
with_tables_image image is =
    let others = others_image image is in
    record {
      each = All-cons IsPiece (table_piece image) (other_pieces image) (table_is_piece image is.each) others.each;
      below = All-cons (IsRunBelow 60000) (table_piece image) (other_pieces image) (table_is_below 60000 image (omega arith)) others.below;
      rising = rises_behind (table_piece image) (other_pieces image) (others_rise image 0 _ (all_rise image is.rising) (inl (omega (arith, table_from image, table_length image))));
    }

-- THE CODE'S WALKS

-- one more digit of the table piece, and all of them
pub table_more : (image : List DigitRun) (a : ℕ) → 100 ≤ a → map (table_digit image) (range_with_len 100 (a - 100)) ++ table_digit image a ∷ [] ≡ map (table_digit image) (range_with_len 100 (a + 1 - 100))
table_more image a h = let e : a + 1 - 100 ≡ a - 100 + 1 = omega arith in rw e (sym (map-range_with_len_more (table_digit image) 100 (a - 100) a (omega arith)))

pub table_all : (image : List DigitRun) (digits : List Digit) (a : ℕ) → digits ≡ map (table_digit image) (range_with_len 100 (a - 100)) → 400 ≤ a → a ≤ 400 → record { from = 100; digits = digits } ≡ table_piece image
unfolding table_piece
table_all image digits a is low high = let e : a - 100 ≡ 300 = omega arith in ap (λ (ds : List Digit). record { from = 100; digits = ds }) (rw e at is)

-- the digits of the pieces that are still to be looked at
pub declared_on : (pieces : List Piece) (i : ℕ) (piece : Piece) (a : ℕ) (found : Option Digit) → i < length pieces → piece ≡ get_or pieces i piece →
    or_else (declared_digit (map run_of (drop (i + 1) pieces)) a) (or_else (digit_at (run_of piece) a) found) ≡ or_else (declared_digit (map run_of (drop i pieces)) a) found
unfolding declared_digit
declared_on pieces i piece a found more is =
    sym (ap (λ (ps : List Piece). or_else (declared_digit (map run_of ps) a) found) (drop_more pieces i piece more)
    ∙ ap (λ (p : Piece). or_else (or_else (declared_digit (map run_of (drop (i + 1) pieces)) a) (digit_at (run_of p) a)) found) (sym is)
    ∙ or_assoc (declared_digit (map run_of (drop (i + 1) pieces)) a) (digit_at (run_of piece) a) found)

pub declared_all : (pieces : List Piece) (i : ℕ) (a : ℕ) (found : Option Digit) → length pieces ≤ i → or_else (declared_digit (map run_of (drop i pieces)) a) found ≡ found
unfolding declared_digit
declared_all pieces i a found over = rw (drop_all i pieces over) refl

-- the piece that is cut next, and the others
pub others_on : (pieces : List Piece) (i : ℕ) (piece : Piece) → i < length pieces → piece ≡ get_or pieces i piece → other_pieces (map run_of (drop i pieces)) ≡ left_of (run_of piece) ++ other_pieces (map run_of (drop (i + 1) pieces))
unfolding other_pieces
others_on pieces i piece more is =
    ap (λ (ps : List Piece). other_pieces (map run_of ps)) (drop_more pieces i piece more) ∙ ap (λ (p : Piece). left_of (run_of p) ++ other_pieces (map run_of (drop (i + 1) pieces))) (sym is)

pub others_none : (pieces : List Piece) (i : ℕ) → length pieces ≤ i → other_pieces (map run_of (drop i pieces)) ≡ []
unfolding other_pieces
others_none pieces i over = rw (drop_all i pieces over) refl

pub left_none : (r : DigitRun) → length r.digits ≤ below_end r → left_of r ≡ []
left_none r none = let t : nat_lt (below_end r) (length r.digits) ≡ false = grind (arith, nat_tests) in rw t

pub left_some : (r : DigitRun) → below_end r < length r.digits → left_of r ≡ behind_end r ∷ []
left_some r some = let t : nat_lt (below_end r) (length r.digits) ≡ true = grind (arith, nat_tests) in rw t
