-- The text of a hundred, as it is made piece by piece.
use Rattle.std.proofs.Common.{ℕ, ◌≡◌, ◌≢◌, ◌+◌, ◌-◌, ◌*◌, ◌<◌, ◌≤◌, nat_lt, max, min, inl, inr, Bool, true, false, List, [], ◌∷◌, ◌++◌, length, map, get_or, slice_set, take, Option, Some, None, refl, arith, sym, ap, ◌∙◌}
use Rattle.std.proofs.lemmas.List.{get_or-map, map-append, take_all, take_more, get_or-set_other, get_or-set_same, length-map, ext_get_or}
use Rattle.std.proofs.lemmas.List.FromFn.{get_or-map-range_with_len, length-map-range_with_len, length-range_with_len, get_or-range_with_len}
use Rattle.std.proofs.lemmas.List.Folds.{list_any_none, list_any_at}
use Rattle.std.proofs.lemmas.Bool.{cases_lt, cases_eq}
use Rattle.std.proofs.lemmas.Bool.Decides.{nat_tests}
use Rattle.std.specs.Prelude.{◌||◌, is_some, if◌then◌else◌}
use Rattle.std.specs.List.{list_any, range_with_len}
use Rattle.digit_core.specs.declared.Digit.{Digit}
use Rattle.digit_core.specs.Cell.{unflagged_digit}
use Rattle.card_code.specs.Characters.{object_char}
use Rattle.sps_pass_two.specs.declared.image.Piece.{Piece}
use Rattle.sps_pass_two.specs.Types.{run_of}
use Rattle.sps_pass_two.specs.Image.{DigitRun, digit_at, declared_digit, or_else}
use Rattle.card_columns.specs.Orders.{nth}
use Rattle.deck_punch.proofs.Declaring.{below, above, within, declared_joined}
use Rattle.disk_loader.specs.Hundreds.{char_over, digit_or, digit_beneath, digit_on_disk, hundred_text, holds_tables, holds_declared, is_needed, reaches, sector_text}

-- WHAT STANDS BENEATH

abbrev pub BeneathSoFar : ℕ → List ℕ → ℕ → Type 0
BeneathSoFar from text i = (j : ℕ) → j < i → get_or text j 0 ≡ object_char (digit_beneath (from + j))

pub beneath_on : (from : ℕ) (text : List ℕ) (i : ℕ) (d : Digit) → length text ≡ 100 → i < 100 → d ≡ digit_beneath (from + i) → BeneathSoFar from text i → BeneathSoFar from (slice_set text i (object_char d)) (i + 1)
beneath_on from text i d long more is so_far j l =
    elim (cases_eq j i) [
      | inl e ↦ rw e (get_or-set_same text i (object_char d) 0 (omega arith) ∙ ap object_char is)
      | inr ne ↦ get_or-set_other text i j (object_char d) 0 ne ∙ so_far j (omega arith)
    ]

pub beneath_all : (from : ℕ) (text : List ℕ) (i : ℕ) → length text ≡ 100 → 100 ≤ i → BeneathSoFar from text i → text ≡ map (λ a. object_char (digit_beneath a)) (range_with_len from 100)
beneath_all from text i long end so_far =
    let f : ℕ → ℕ = λ a. object_char (digit_beneath a) in
    let k = length-map-range_with_len f from 100 in
    ext_get_or 0 text _ (long ∙ sym k) (λ j l. so_far j (omega arith) ∙ sym (get_or-map-range_with_len f from 100 j (from + j) 0 (omega arith) refl))

-- A PIECE

-- the characters of a run below an address are laid over an old text, and those from there on are not
pub record LaidBelow (run : DigitRun) (from a : ℕ) (old text : List ℕ) : Type 0 where
  pub done : (i : ℕ) → i < 100 → from + i < a → get_or text i 0 ≡ char_over (digit_at run (from + i)) (get_or old i 0)
  pub left : (i : ℕ) → i < 100 → a ≤ from + i → get_or text i 0 ≡ get_or old i 0

module _ (run : DigitRun) (from : ℕ) where
  abbrev pub low : ℕ
  low = max run.from from

  abbrev pub high : ℕ
  high = min (run.from + length run.digits) (from + 100)

  pub laid_first : (old : List ℕ) → LaidBelow run from low old old
  laid_first old = record {
    done = λ i l b. rw (below run (from + i) (omega arith)) refl;
    left = λ i l b. refl;
  }

  pub laid_on : (a : ℕ) (old text : List ℕ) (d : Digit) → length text ≡ 100 → low ≤ a → a < high → d ≡ nth run.digits (a - run.from) → LaidBelow run from a old text → LaidBelow run from (a + 1) old (slice_set text (a - from) (object_char d))
  laid_on a old text d long some more is laid = record {
    done = λ i l b. elim (cases_eq i (a - from)) [
      | inl e ↦
          let at : from + (a - from) ≡ a = omega arith in
          let there = within run a (omega arith) (omega arith) in
          rw (e, at, there) (get_or-set_same text (a - from) (object_char d) 0 (omega arith) ∙ ap object_char is)
      | inr ne ↦ get_or-set_other text (a - from) i (object_char d) 0 ne ∙ laid.done i l (omega arith)
    ];
    left = λ i l b.
        let ne : i ≢ a - from = omega arith in
        get_or-set_other text (a - from) i (object_char d) 0 ne ∙ laid.left i l (omega arith);
  }

  pub laid_all : (a : ℕ) (old text : List ℕ) → high ≤ a → LaidBelow run from a old text → (i : ℕ) → i < 100 → get_or text i 0 ≡ char_over (digit_at run (from + i)) (get_or old i 0)
  laid_all a old text end laid i l =
      elim (cases_lt (from + i) a) [
        | inl b ↦ laid.done i l b
        | inr b ↦ rw (above run (from + i) (omega arith)) (laid.left i l b)
      ]

  -- an address of the hundred that the run hasn't got
  outside : (i : ℕ) → i < 100 → high ≤ low → is_some (digit_at run (from + i)) ≡ false
  outside i l none =
      elim (cases_lt (from + i) run.from) [
        | inl b ↦ rw (below run (from + i) b) refl
        | inr b ↦ rw (above run (from + i) (omega arith)) refl
      ]

  pub reach_is : nat_lt low high ≡ reaches run from
  unfolding reaches
  reach_is =
      elim (cases_lt low high) [
        | inl some ↦
            let t : nat_lt low high ≡ true = grind (arith, nat_tests) in
            let e : from + (low - from) ≡ low = omega arith in
            let n : low - from < 100 = omega arith in
            rw t (sym (list_any_at (λ a. is_some (digit_at run a)) (range_with_len from 100) (low - from) 0 (rw length-range_with_len n)
            (rw (get_or-range_with_len from 100 (low - from) 0 n, e, within run low (omega arith) (omega arith)) refl)))
        | inr none ↦
            let t : nat_lt low high ≡ false = grind (arith, nat_tests) in
            rw t (sym (list_any_none (λ a. is_some (digit_at run a)) (range_with_len from 100) (λ i e l.
            let n : i < 100 = rw length-range_with_len at l in
            rw (get_or-range_with_len from 100 i e n) (outside i n none))))
      ]

-- THE PIECES SO FAR

-- one more piece declares what it has
declared_on : (gs : List DigitRun) (r : DigitRun) (a : ℕ) → declared_digit (gs ++ r ∷ []) a ≡ or_else (digit_at r a) (declared_digit gs a)
unfolding declared_digit
declared_on gs r a = declared_joined gs (r ∷ []) a

char_of : (o p : Option Digit) (d : Digit) → char_over o (object_char (digit_or p d)) ≡ object_char (digit_or (or_else o p) d)
char_of (Some e) p d = refl
char_of None p d = refl

-- the text of a hundred with these pieces
pub record HasText (gs : List DigitRun) (from : ℕ) (text : List ℕ) : Type 0 where
  pub long : length text ≡ 100
  pub chars : (i : ℕ) → i < 100 → get_or text i 0 ≡ object_char (digit_on_disk gs (from + i))

pub text_first : (from : ℕ) (text : List ℕ) → text ≡ map (λ a. object_char (digit_beneath a)) (range_with_len from 100) → HasText [] from text
unfolding digit_on_disk declared_digit
text_first from text is =
    let f : ℕ → ℕ = λ a. object_char (digit_beneath a) in
    record {
      long = ap length is ∙ length-map-range_with_len f from 100;
      chars = λ i l. ap (λ (t : List ℕ). get_or t i 0) is ∙ get_or-map-range_with_len f from 100 i (from + i) 0 l refl;
    }

pub text_on : (gs : List DigitRun) (r : DigitRun) (from : ℕ) (text new : List ℕ) → length new ≡ 100 → ((i : ℕ) → i < 100 → get_or new i 0 ≡ char_over (digit_at r (from + i)) (get_or text i 0)) → HasText gs from text → HasText (gs ++ r ∷ []) from new
unfolding digit_on_disk
text_on gs r from text new long over has = record {
  long = long;
  chars = λ i l.
      over i l ∙ ap (char_over (digit_at r (from + i))) (has.chars i l)
      ∙ char_of (digit_at r (from + i)) (declared_digit gs (from + i)) (digit_beneath (from + i))
      ∙ ap (λ (o : Option Digit). object_char (digit_or o (digit_beneath (from + i)))) (sym (declared_on gs r (from + i)));
}

pub text_all : (gs : List DigitRun) (h : ℕ) (text : List ℕ) → HasText gs (100 * h) text → text ≡ hundred_text gs h
text_all gs h text has =
    let f : ℕ → Digit = digit_on_disk gs in
    let k : length (map object_char (map f (range_with_len (100 * h) 100))) ≡ 100 = length-map (map f (range_with_len (100 * h) 100)) object_char ∙ length-map-range_with_len f (100 * h) 100 in
    ext_get_or 0 text _ (has.long ∙ sym k)
    (λ i l.
    let n : i < 100 = let w = has.long in omega arith in
    has.chars i n
    ∙ sym (get_or-map object_char (map f (range_with_len (100 * h) 100)) i (unflagged_digit 0) 0 (let w = length-map-range_with_len f (100 * h) 100 in omega arith)
    ∙ ap object_char (get_or-map-range_with_len f (100 * h) 100 i (100 * h + i) (unflagged_digit 0) n refl)))

some_either : (o p : Option Digit) → is_some (or_else o p) ≡ (is_some o || is_some p)
some_either (Some d) p = refl
some_either None p = refl

swapped : (a b c d : Bool) → ((a || b) || (c || d)) ≡ ((a || c) || (b || d))
swapped true b c d = refl
swapped false true true d = refl
swapped false true false d = refl
swapped false false true d = refl
swapped false false false d = refl

any_either : (gs : List DigitRun) (r : DigitRun) (xs : List ℕ) → list_any (λ a. is_some (declared_digit (gs ++ r ∷ []) a)) xs ≡ (list_any (λ a. is_some (digit_at r a)) xs || list_any (λ a. is_some (declared_digit gs a)) xs)
any_either gs r [] = refl
any_either gs r (x ∷ xs) =
    rw (declared_on gs r x, some_either (digit_at r x) (declared_digit gs x), any_either gs r xs)
    (swapped (is_some (digit_at r x)) (is_some (declared_digit gs x)) (list_any (λ a. is_some (digit_at r a)) xs) (list_any (λ a. is_some (declared_digit gs a)) xs))

moved_out : (a b c : Bool) → (a || (b || c)) ≡ (b || (a || c))
moved_out true true c = refl
moved_out true false c = refl
moved_out false b c = refl

-- one more piece needs what it reaches
pub needed_on : (gs : List DigitRun) (r : DigitRun) (h : ℕ) → is_needed (gs ++ r ∷ []) h ≡ (reaches r (100 * h) || is_needed gs h)
unfolding holds_declared reaches
needed_on gs r h =
    ap (λ (b : Bool). holds_tables h || b) (any_either gs r (range_with_len (100 * h) 100))
    ∙ moved_out (holds_tables h) (list_any (λ a. is_some (digit_at r a)) (range_with_len (100 * h) 100)) (list_any (λ a. is_some (declared_digit gs a)) (range_with_len (100 * h) 100))

none_any : (xs : List ℕ) → list_any (λ a. is_some (declared_digit [] a)) xs ≡ false
unfolding declared_digit
none_any [] = refl
none_any (x ∷ xs) = none_any xs

or_false : (b : Bool) → (b || false) ≡ b
or_false true = refl
or_false false = refl

-- without a piece the hundreds of the tables are needed
pub needed_first : (h : ℕ) → holds_tables h ≡ is_needed [] h
unfolding holds_declared
needed_first h = rw (none_any (range_with_len (100 * h) 100)) (sym (or_false (holds_tables h)))

-- THE CODE'S WALK OVER THE PIECES

pub pieces_on : (pieces : List Piece) (i : ℕ) (piece : Piece) → i < length pieces → piece ≡ get_or pieces i piece →
    map run_of (take (i + 1) pieces) ≡ map run_of (take i pieces) ++ run_of piece ∷ []
pieces_on pieces i piece more is =
    ap (map run_of) (take_more pieces i piece more)
    ∙ map-append run_of (take i pieces) (get_or pieces i piece ∷ [])
    ∙ ap (λ (p : Piece). map run_of (take i pieces) ++ run_of p ∷ []) (sym is)

pub pieces_all : (pieces : List Piece) (i : ℕ) (image : List DigitRun) → length pieces ≤ i → map run_of pieces ≡ image → map run_of (take i pieces) ≡ image
pieces_all pieces i image past are = ap (map run_of) (take_all i pieces past) ∙ are

sector_of : (image : List DigitRun) (h : ℕ) (b : Bool) → is_needed image h ≡ b → sector_text image h ≡ (if b then Some (hundred_text image h) else None)
sector_of image h b is = rw is refl

-- all pieces are laid: the hundred is needed, or not
pub some_in : (gs image : List DigitRun) (h : ℕ) (text : List ℕ) {b : Bool} → gs ≡ image → HasText gs (100 * h) text → b ≡ is_needed gs h → b ≡ true → Some text ≡ sector_text image h
some_in gs image h text {b} are has need is =
    let n : is_needed image h ≡ true = ap (λ (g : List DigitRun). is_needed g h) (sym are) ∙ sym need ∙ is in
    ap (λ (t : List ℕ). Some t) (text_all gs h text has ∙ ap (λ (g : List DigitRun). hundred_text g h) are) ∙ sym (sector_of image h true n)

pub none_in : (gs image : List DigitRun) (h : ℕ) {b : Bool} → gs ≡ image → b ≡ is_needed gs h → b ≡ false → None ≡ sector_text image h
none_in gs image h {b} are need is =
    let n : is_needed image h ≡ false = ap (λ (g : List DigitRun). is_needed g h) (sym are) ∙ sym need ∙ is in
    sym (sector_of image h false n)

-- what was found needed by the pieces is needed by their image
pub needed_all : (gs image : List DigitRun) (h : ℕ) {b : Bool} → gs ≡ image → b ≡ is_needed gs h → b ≡ is_needed image h
needed_all gs image h are need = need ∙ ap (λ (g : List DigitRun). is_needed g h) are

-- and what a sector's text tells of it
abbrev text_or : Option (List ℕ) → List ℕ
text_or (Some t) = t
text_or None = []

told_some : (image : List DigitRun) (h : ℕ) (text : List ℕ) (b : Bool) → (if b then Some (hundred_text image h) else None) ≡ Some text → (b ≡ true) × (text ≡ hundred_text image h)
told_some image h text true e = (refl, ap text_or (sym e))
told_some image h text false e = absurd (cc)

told_none : (image : List DigitRun) (h : ℕ) (b : Bool) → (if b then Some (hundred_text image h) else None) ≡ None → b ≡ false
told_none image h true e = absurd (cc)
told_none image h false e = refl

pub in_some : (image : List DigitRun) (h : ℕ) (text : List ℕ) → sector_text image h ≡ Some text → (is_needed image h ≡ true) × (text ≡ hundred_text image h)
in_some image h text e = told_some image h text (is_needed image h) e

pub in_none : (image : List DigitRun) (h : ℕ) → sector_text image h ≡ None → is_needed image h ≡ false
in_none image h e = told_none image h (is_needed image h) e

-- the pieces reach the hundred with this one, or as they did before
pub needed_yes : (gs more : List DigitRun) (r : DigitRun) (h : ℕ) {reached now : Bool} → more ≡ gs ++ r ∷ [] → reached ≡ reaches r (100 * h) → reached ≡ true → now ≡ true → now ≡ is_needed more h
needed_yes gs more r h are is by so =
    so ∙ sym (ap (λ (g : List DigitRun). is_needed g h) are ∙ needed_on gs r h ∙ ap (λ (b : Bool). b || is_needed gs h) (sym is ∙ by))

pub needed_no : (gs more : List DigitRun) (r : DigitRun) (h : ℕ) {reached was now : Bool} → more ≡ gs ++ r ∷ [] → reached ≡ reaches r (100 * h) → reached ≡ false → was ≡ is_needed gs h → now ≡ was → now ≡ is_needed more h
needed_no gs more r h are is by before so =
    so ∙ before ∙ sym (ap (λ (g : List DigitRun). is_needed g h) are ∙ needed_on gs r h ∙ ap (λ (b : Bool). b || is_needed gs h) (sym is ∙ by))

some_by : (image : List DigitRun) (h : ℕ) (b : Bool) → is_some (if b then Some (hundred_text image h) else None) ≡ b
some_by image h true = refl
some_by image h false = refl

-- a hundred's sector has a text where the hundred is needed
pub some_told : (image : List DigitRun) (h : ℕ) → is_some (sector_text image h) ≡ is_needed image h
some_told image h = some_by image h (is_needed image h)
