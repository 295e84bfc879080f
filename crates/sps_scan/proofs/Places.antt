-- Where a statement's texts stand in its line.
use Rattle.std.proofs.Common.{◌≡◌, ◌∙◌, ℕ, zero, suc, ◌+◌, ◌-◌, ◌<◌, ◌≤◌, inl, inr, Bool, true, false, List, [], ◌∷◌, ◌++◌, length, slice_index_or, map, take, drop, min, Option, Some, None, ◌==◌, ◌||◌, refl, sym, ap, subst, arith, if◌then◌else◌}
use Rattle.std.proofs.lemmas.List.{get_or-take, get_or-drop, take-take, drop-take, drop-drop, length-take, take_min}
use Rattle.std.proofs.lemmas.Bool.Decides.{nat_tests}
use Rattle.std.proofs.Math.Seq.{take-append_seam, drop-nil}
use Rattle.sps_scan.specs.declared.statement.Shape.{Shape}
use Rattle.sps_scan.specs.Columns.{columns, before_comma, after_comma, has_comma}
use Rattle.sps_scan.specs.Numbers.{short_number}
use Rattle.sps_scan.specs.Operands.{OperandParts, parts_of, remark_of, parts_and_remark, behind_text, behind_number, dac_operands, most_parts, has_text, operands_of}
use Rattle.sps_scan.specs.Statement.{StatementText, without_parts, with_operands}
use Rattle.sps_scan.specs.Spans.{LineSpan, span_text, AreInOrder, Follows, FollowOn, ArePartedFrom, AreInPlace}

-- a line from one place to another
abbrev stretch : List ℕ → ℕ → ℕ → List ℕ
stretch line at to = take (to - at) (drop at line)

-- these parts and this remark stand between two places of a line
record Stand (line : List ℕ) (at to : ℕ) (parts : List (List ℕ)) (remark : List ℕ) : Type 0 where
  spans : List LineSpan
  behind : LineSpan
  parts_at : map (span_text line) spans ≡ parts
  remark_at : span_text line behind ≡ remark
  order : AreInOrder at to (spans ++ behind ∷ [])
  parted : ArePartedFrom line at (spans ++ behind ∷ [])

-- spans that lie from a place on lie from an earlier one on
sooner : (at next to : ℕ) (spans : List LineSpan) → at ≤ next → AreInOrder next to spans → AreInOrder at to spans
sooner at next to [] before o = omega arith
sooner at next to (span ∷ spans) before o = (omega (arith, o.0), o.1)

-- spans that begin at a place follow an end that the place follows
follow_on : (line : List ℕ) (end next : ℕ) (spans : List LineSpan) → Follows line end next → ArePartedFrom line next spans → FollowOn line end spans
follow_on line end next [] follows p = tt
follow_on line end next (span ∷ spans) follows p = (subst (Follows line end) (sym p.0) follows, p.1)

-- what follows an end comes no earlier
no_later : (line : List ℕ) (end next : ℕ) → Follows line end next → end ≤ next
no_later line end next (inl e) = omega arith
no_later line end next (inr e) = omega (arith, e.0)

-- a part in front of others
part_first : (line : List ℕ) (at next to size : ℕ) (part : List ℕ) (parts : List (List ℕ)) (remark : List ℕ) → Follows line (at + size) next → take size (drop at line) ≡ part → Stand line next to parts remark → Stand line at to (part ∷ parts) remark
part_first line at next to size part parts remark follows e s = record {
  spans = record { from = at; size = size } ∷ s.spans;
  behind = s.behind;
  parts_at = rw (e, s.parts_at);
  remark_at = s.remark_at;
  order = (omega arith, sooner _ _ _ _ (no_later line (at + size) next follows) s.order);
  parted = (refl, follow_on line (at + size) next (s.spans ++ s.behind ∷ []) follows s.parted);
}

-- the rest is the remark
rest_remark : (line : List ℕ) (at to : ℕ) → at ≤ to → Stand line at to [] (stretch line at to)
rest_remark line at to fits = record {
  spans = [];
  behind = record { from = at; size = to - at };
  parts_at = refl;
  remark_at = refl;
  order = (omega arith, omega arith);
  parted = (refl, tt);
}

-- no remark
no_remark : (line : List ℕ) (at to : ℕ) → at ≤ to → Stand line at to [] []
no_remark line at to fits = record {
  spans = [];
  behind = record { from = at; size = 0 };
  parts_at = refl;
  remark_at = refl;
  order = (omega arith, omega arith);
  parted = (refl, tt);
}

-- a first part of a stretch, and what is behind it
stretch_front : (line : List ℕ) (at to k : ℕ) → k ≤ to - at → take k (stretch line at to) ≡ take k (drop at line)
stretch_front line at to k fits = take-take k (to - at) (drop at line) fits

stretch_back : (line : List ℕ) (at to k : ℕ) → at + k ≤ to → drop k (stretch line at to) ≡ stretch line (at + k) to
stretch_back line at to k fits =
    let e : to - at ≡ k + (to - (at + k)) = omega arith in
    ap (λ n. drop k (take n (drop at line))) e ∙ (drop-take k (to - (at + k)) (drop at line) ∙ ap (take (to - (at + k))) (drop-drop k at line))

-- a byte of a stretch
stretch_byte : (line : List ℕ) (at to k : ℕ) → k < to - at → slice_index_or (stretch line at to) k 0 ≡ slice_index_or line (at + k) 0
stretch_byte line at to k inside = get_or-take (to - at) (drop at line) k 0 inside ∙ get_or-drop at line k 0

stretch_size : (line : List ℕ) (at to : ℕ) → length (stretch line at to) ≤ to - at
stretch_size line at to = omega (arith, length-take (to - at) (drop at line))

-- one more byte in front
suc_later : (n : ℕ) → suc (n + 1) ≡ suc n + 1
suc_later n = omega arith

-- the text before the first comma is a first part of the text
before_size : (text : List ℕ) → length (before_comma text) ≤ length text
before_size [] = omega arith
before_size (b ∷ bs) = elim (b == 44) as (λ t. length (if t then [] else b ∷ before_comma bs) ≤ suc (length bs)) [
  | true ↦ omega arith
  | false ↦ omega (arith, before_size bs)
]

before_front : (text : List ℕ) → before_comma text ≡ take (length (before_comma text)) text
before_front [] = refl
before_front (b ∷ bs) = elim (b == 44) as (λ t. (if t then [] else b ∷ before_comma bs) ≡ take (length (if t then [] else b ∷ before_comma bs)) (b ∷ bs)) [
  | true ↦ refl
  | false ↦ ap (λ l. b ∷ l) (before_front bs)
]

-- what is behind it comes one byte later
after_back : (text : List ℕ) → has_comma text ≡ true → after_comma text ≡ drop (length (before_comma text) + 1) text
after_back [] h = cc
after_back (b ∷ bs) h =
    let step = elim (b == 44) as (λ t. (t || has_comma bs) ≡ true → (if t then bs else after_comma bs) ≡ drop (length (if t then [] else b ∷ before_comma bs) + 1) (b ∷ bs)) [
      | true ↦ λ _. refl
      | false ↦ λ more. after_back bs more ∙ ap (λ k. drop k (b ∷ bs)) (suc_later (length (before_comma bs)))
    ] in
    step h

-- the byte that ends the text before the first comma is a comma
pub is_comma : (b : ℕ) → (b == 44) ≡ true → b ≡ 44
is_comma b e = grind (arith, nat_tests)

comma_at : (text : List ℕ) → has_comma text ≡ true → slice_index_or text (length (before_comma text)) 0 ≡ 44
comma_at [] h = cc
comma_at (b ∷ bs) h =
    let step = elim (b == 44) as (λ t. (b == 44) ≡ t → (t || has_comma bs) ≡ true → slice_index_or (b ∷ bs) (length (if t then [] else b ∷ before_comma bs)) 0 ≡ 44) [
      | true ↦ λ e _. is_comma b e
      | false ↦ λ _ more. comma_at bs more
    ] in
    step refl h

comma_fits : (text : List ℕ) → has_comma text ≡ true → length (before_comma text) + 1 ≤ length text
comma_fits [] h = cc
comma_fits (b ∷ bs) h =
    let step = elim (b == 44) as (λ t. (t || has_comma bs) ≡ true → length (if t then [] else b ∷ before_comma bs) + 1 ≤ suc (length bs)) [
      | true ↦ λ _. omega arith
      | false ↦ λ more. omega (arith, comma_fits bs more)
    ] in
    step h

pub after_none : (text : List ℕ) → has_comma text ≡ false → after_comma text ≡ []
after_none [] h = refl
after_none (b ∷ bs) h =
    let step = elim (b == 44) as (λ t. (t || has_comma bs) ≡ false → (if t then bs else after_comma bs) ≡ []) [
      | true ↦ λ none. cc
      | false ↦ λ more. after_none bs more
    ] in
    step h

-- one of two cases of a test
pub by_test : {A : Type 0} (b : Bool) → (b ≡ true → A) → (b ≡ false → A) → A
by_test true on off = on refl
by_test false on off = off refl

-- the same parts and remark under other names
stand_as : (line : List ℕ) (at to : ℕ) (ps qs : List (List ℕ)) (r q : List ℕ) → Stand line at to ps r → ps ≡ qs → r ≡ q → Stand line at to qs q
stand_as line at to ps qs r q s e f = record {
  spans = s.spans;
  behind = s.behind;
  parts_at = s.parts_at ∙ e;
  remark_at = s.remark_at ∙ f;
  order = s.order;
  parted = s.parted;
}

-- the text before the first comma of a stretch, and what is behind it
module _ (line : List ℕ) (at to : ℕ) (fits : at ≤ to) where
  size_fits : length (before_comma (stretch line at to)) ≤ to - at
  size_fits = omega (arith, before_size (stretch line at to), stretch_size line at to)

  before_at : take (length (before_comma (stretch line at to))) (drop at line) ≡ before_comma (stretch line at to)
  before_at = sym (before_front (stretch line at to) ∙ stretch_front line at to (length (before_comma (stretch line at to))) size_fits)

  behind_fits : has_comma (stretch line at to) ≡ true → at + (length (before_comma (stretch line at to)) + 1) ≤ to
  behind_fits h = omega (arith, comma_fits (stretch line at to) h, stretch_size line at to)

  behind_at : has_comma (stretch line at to) ≡ true → after_comma (stretch line at to) ≡ stretch line (at + (length (before_comma (stretch line at to)) + 1)) to
  behind_at h = after_back (stretch line at to) h ∙ stretch_back line at to (length (before_comma (stretch line at to)) + 1) (behind_fits h)

  behind_follows : has_comma (stretch line at to) ≡ true → Follows line (at + length (before_comma (stretch line at to))) (at + (length (before_comma (stretch line at to)) + 1))
  behind_follows h = inr (omega arith, sym (stretch_byte line at to (length (before_comma (stretch line at to))) (omega (arith, behind_fits h))) ∙ comma_at (stretch line at to) h)

  -- a part that a comma ends
  comma_part : (ps : List (List ℕ)) (r : List ℕ) → has_comma (stretch line at to) ≡ true → Stand line (at + (length (before_comma (stretch line at to)) + 1)) to ps r → Stand line at to (before_comma (stretch line at to) ∷ ps) r
  comma_part ps r h s = part_first line at _ to (length (before_comma (stretch line at to))) _ ps r (behind_follows h) before_at s

  -- a part that the end of the text ends
  only_part : Stand line at to (before_comma (stretch line at to) ∷ []) []
  only_part = part_first line at (at + length (before_comma (stretch line at to))) to (length (before_comma (stretch line at to))) _ [] [] (inl refl) before_at (no_remark line _ to (omega (arith, size_fits)))

  -- one part, and the remark behind its comma
  last_part : Stand line at to (before_comma (stretch line at to) ∷ []) (after_comma (stretch line at to))
  last_part = by_test (has_comma (stretch line at to))
      (λ h. stand_as line at to _ _ _ _ (comma_part [] _ h (rest_remark line _ to (behind_fits h))) refl (sym (behind_at h)))
      (λ h. stand_as line at to _ _ _ _ only_part refl (sym (after_none (stretch line at to) h)))

parts_more : (n : ℕ) (text rest : List ℕ) → has_comma text ≡ true → after_comma text ≡ rest → before_comma text ∷ parts_of n rest ≡ parts_of (suc n) text
unfolding parts_of
parts_more n text rest h e = rw (h, e)

remark_more : (n : ℕ) (text rest : List ℕ) → has_comma text ≡ true → after_comma text ≡ rest → remark_of n rest ≡ remark_of (suc n) text
unfolding remark_of
remark_more n text rest h e = rw (h, e)

parts_last : (n : ℕ) (text : List ℕ) → has_comma text ≡ false → before_comma text ∷ [] ≡ parts_of (suc n) text
unfolding parts_of
parts_last n text h = rw h

remark_last : (n : ℕ) (text : List ℕ) → has_comma text ≡ false → [] ≡ remark_of (suc n) text
unfolding remark_of
remark_last n text h = rw h

-- at most so many parts stand where their text stands
parts_stand : (n : ℕ) (line : List ℕ) (at to : ℕ) → at ≤ to → Stand line at to (parts_of n (stretch line at to)) (remark_of n (stretch line at to))
unfolding parts_of remark_of
parts_stand zero line at to fits = rest_remark line at to fits
parts_stand (suc n) line at to fits = by_test (has_comma (stretch line at to))
    (λ h. stand_as line at to _ _ _ _ (comma_part line at to fits _ _ h (parts_stand n line _ to (behind_fits line at to fits h))) (parts_more n (stretch line at to) _ h (behind_at line at to fits h)) (remark_more n (stretch line at to) _ h (behind_at line at to fits h)))
    (λ h. stand_as line at to _ _ _ _ (only_part line at to fits) (parts_last n (stretch line at to) h) (remark_last n (stretch line at to) h))

-- the first byte of a stretch
first_byte : (line : List ℕ) (c to x : ℕ) (xs : List ℕ) → c + 1 ≤ to → x ∷ xs ≡ stretch line c to → slice_index_or line c 0 ≡ x
first_byte line c to x xs later e =
    let here : c + 0 ≡ c = omega arith in
    ap (λ k. slice_index_or line k 0) (sym here) ∙ (sym (stretch_byte line c to 0 (omega arith)) ∙ ap (λ l. slice_index_or l 0 0) (sym e))

-- what stands from one place on, with two parts before it
module _ (line first second : List ℕ) (at c to : ℕ) (fits : c ≤ to) (front : (next : ℕ) (ps : List (List ℕ)) (r : List ℕ) → Follows line c next → Stand line next to ps r → Stand line at to (first ∷ second ∷ ps) r) where
  text_stands : (rest : List ℕ) → rest ≡ stretch line c to → Stand line at to (behind_text first second rest).parts (behind_text first second rest).remark
  text_stands [] e = front c [] [] (inl refl) (no_remark line c to fits)
  text_stands (x ∷ xs) e = by_test (x == 44)
      (λ h.
      let later : c + 1 ≤ to = omega (arith, ap length e, stretch_size line c to) in
      let tail : xs ≡ stretch line (c + 1) to = ap (λ l. drop 1 l) e ∙ stretch_back line c to 1 later in
      let third : Stand line (c + 1) to (before_comma xs ∷ []) (after_comma xs) = rw tail (last_part line (c + 1) to later) in
      let comma : slice_index_or line c 0 ≡ 44 = first_byte line c to x xs later e ∙ is_comma x h in
      rw h (front (c + 1) (before_comma xs ∷ []) (after_comma xs) (inr (refl, comma)) third))
      (λ h. rw h (front c [] (x ∷ xs) (inl refl) (stand_as line c to _ _ _ _ (rest_remark line c to fits) refl (sym e))))

drop_min : (n : ℕ) (xs : List ℕ) → drop n xs ≡ drop (min n (length xs)) xs
drop_min zero xs = let e : 0 ≡ min 0 (length xs) = omega arith in ap (λ k. drop k xs) e
drop_min (suc n) [] = sym (drop-nil _)
drop_min (suc n) (x ∷ xs) =
    let e : suc (min n (length xs)) ≡ min (suc n) (suc (length xs)) = omega arith in
    drop_min n xs ∙ ap (λ k. drop k (x ∷ xs)) e

-- what stands behind the first comma of a DAC
module _ (line first : List ℕ) (at b to : ℕ) (fits : b ≤ to) (front : (ps : List (List ℕ)) (r : List ℕ) → Stand line b to ps r → Stand line at to (first ∷ ps) r) where
  nothing_more : b ≡ b + 0
  nothing_more = omega arith

  number_stands : (n : Option ℕ) → Stand line at to (behind_number first (stretch line b to) n).parts (behind_number first (stretch line b to) n).remark
  number_stands None = front ([] ∷ []) (stretch line b to) (part_first line b b to 0 [] [] _ (inl nothing_more) refl (rest_remark line b to fits))
  number_stands (Some n) =
      let rest = stretch line b to in
      let m = min n (length (stretch line b to)) in
      let fitting : b + min n (length (stretch line b to)) ≤ to = omega (arith, stretch_size line b to) in
      let second : take m (drop b line) ≡ take n rest = sym (stretch_front line b to m (omega arith)) ∙ take_min n rest in
      let behind : drop n rest ≡ stretch line (b + m) to = drop_min n rest ∙ stretch_back line b to m fitting in
      text_stands line first (take n rest) at (b + m) to fitting (λ next ps r follows s. front (take n rest ∷ ps) r (part_first line b next to m _ ps r follows second s)) (drop n rest) behind

dac_stands : (line : List ℕ) (at to : ℕ) → at ≤ to → Stand line at to (dac_operands (stretch line at to)).parts (dac_operands (stretch line at to)).remark
dac_stands line at to fits = by_test (has_comma (stretch line at to))
    (λ h.
    let text = stretch line at to in
    let stands = number_stands line (before_comma text) at _ to (behind_fits line at to fits h) (λ ps r s. comma_part line at to fits ps r h s) (short_number (before_comma text)) in
    rw h (subst (λ rest. Stand line at to (behind_number (before_comma text) rest (short_number (before_comma text))).parts (behind_number (before_comma text) rest (short_number (before_comma text))).remark) (sym (behind_at line at to fits h)) stands))
    (λ h. rw h (only_part line at to fits))

either_stands : (line : List ℕ) (at to : ℕ) (b : Bool) (x y : OperandParts) → Stand line at to x.parts x.remark → Stand line at to y.parts y.remark → Stand line at to (if b then x else y).parts (if b then x else y).remark
either_stands line at to true x y s t = s
either_stands line at to false x y s t = t

operands_stand : (line : List ℕ) (name : List ℕ) → Stand line 15 75 (operands_of name (columns 16 75 line)).parts (operands_of name (columns 16 75 line)).remark
operands_stand line name = either_stands line 15 75 (has_text name) (dac_operands (columns 16 75 line)) (parts_and_remark (most_parts name) (columns 16 75 line)) (dac_stands line 15 75 (omega arith)) (parts_stand (most_parts name) line 15 75 (omega arith))

pub placed_without : (line : List ℕ) (shape : Shape) (s : StatementText) → s ≡ without_parts shape → AreInPlace line s
placed_without line shape s e = subst (AreInPlace line) (sym e) (
  record {
    label = record { from = 5; size = 0 };
    operation = record { from = 11; size = 0 };
    parts = [];
    remark = record { from = 15; size = 0 };
  },
  record {
    label = refl;
    operation = refl;
    parts = refl;
    remark = refl;
    label_columns = (omega arith, omega arith);
    operation_columns = (omega arith, omega arith);
    operand_columns = (omega arith, omega arith);
    parted = (refl, tt);
  },
)

pub placed_with : (line : List ℕ) (name : List ℕ) (s : StatementText) → s ≡ with_operands line (operands_of name (columns 16 75 line)) → AreInPlace line s
placed_with line name s e =
    let o = operands_of name (columns 16 75 line) in
    let stands = operands_stand line name in
    subst (AreInPlace line) (sym e) (
      record {
        label = record { from = 5; size = 6 };
        operation = record { from = 11; size = 4 };
        parts = stands.spans;
        remark = stands.behind;
      },
      record {
        label = refl;
        operation = refl;
        parts = stands.parts_at ∙ sym (take-append_seam o.parts _);
        remark = stands.remark_at;
        label_columns = (omega arith, omega arith);
        operation_columns = (omega arith, omega arith);
        operand_columns = stands.order;
        parted = stands.parted;
      },
    )
