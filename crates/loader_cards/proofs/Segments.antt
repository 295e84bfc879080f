-- Segments, and the cores in which they stand.
use Rattle.std.proofs.Common.{ℕ, suc, ◌≡◌, ◌+◌, ◌-◌, ◌<◌, ◌≤◌, ◌⊎◌, inl, inr, false, List, [], ◌∷◌, ◌++◌, length, length-append, subst, get_or, Option, Some, None, refl, arith}
use Rattle.std.proofs.lemmas.List.{get_or_append_left, get_or-append-add}
use Rattle.std.proofs.lemmas.Bool.{cases_lt}
use Rattle.std.specs.List.{All}
use Rattle.digit_core.specs.declared.Digit.{Digit}
use Rattle.digit_core.specs.Cell.{IsGood, cell, unflagged_digit}
use Rattle.sps_pass_two.specs.Image.{DigitRun, digit_at, declared_digit, or_else}
use Rattle.sps_pass_two.specs.Kept.{IsPiece, IsRunBelow, lowest_declared}
use Rattle.deck_punch.specs.Cut.{cut, cut_piece, cut_as}
use Rattle.card_columns.specs.Orders.{nth}
use Rattle.deck_punch.specs.Cover.{IsCutBefore, Covers, no_digits, segment}
use Rattle.deck_punch.proofs.Covering.{cut_covers}
use Rattle.deck_punch.proofs.Declaring.{below, above, within}
use Rattle.deck_punch.proofs.WithTables.{IsBehind}
use Rattle.deck_punch.specs.Overlay.{cell_or}

-- a segment within a core of n positions: 1 to 32 good digits from 00100 on, with no flag between the lowest and the highest
pub record IsSegment (n : ℕ) (g : DigitRun) : Type 0 where
  pub low : 100 ≤ g.from
  pub high : g.from + length g.digits ≤ n
  pub some : 1 ≤ length g.digits
  pub most : length g.digits ≤ 32
  pub good : (i : ℕ) → i < length g.digits → IsGood (nth g.digits i)
  pub inside : (i : ℕ) → 0 < i → i + 1 < length g.digits → (nth g.digits i).flag ≡ false

abbrev pub AreSegments : ℕ → List DigitRun → Type 0
AreSegments n [] = Unit {0}
AreSegments n (g ∷ gs) = IsSegment n g × AreSegments n gs

-- digits were put into a core from an address on, and all other cells stay
pub record Puts (old new : List ℕ) (from : ℕ) (ds : List Digit) : Type 0 where
  pub there : (i : ℕ) → i < length ds → get_or new (from + i) 0 ≡ cell (nth ds i)
  pub others : (a : ℕ) → (a < from) ⊎ (from + length ds ≤ a) → get_or new a 0 ≡ get_or old a 0
  pub long : length new ≡ length old

-- a cell of a core in which a segment was put
pub segment_cells : (old new : List ℕ) (g : DigitRun) (a : ℕ) → ((i : ℕ) → i < length g.digits → get_or new (g.from + i) 0 ≡ cell (nth g.digits i)) →
    ((a < g.from) ⊎ (g.from + length g.digits ≤ a) → get_or new a 0 ≡ get_or old a 0) → get_or new a 0 ≡ cell_or (digit_at g a) (get_or old a 0)
segment_cells old new g a there other =
    elim (cases_lt a g.from) [
      | inl l ↦ rw (below g a l) (other (inl l))
      | inr l ↦ elim (cases_lt a (g.from + length g.digits)) [
        | inl t ↦
            let z : g.from + (a - g.from) ≡ a = omega arith in
            rw (within g a l t) (rw z at (there (a - g.from) (omega arith)))
        | inr t ↦ rw (above g a t) (other (inr t))
      ]
    ]

-- each cell by what the segment has at its address
pub puts_at : (old new : List ℕ) (g : DigitRun) (a : ℕ) → Puts old new g.from g.digits → get_or new a 0 ≡ cell_or (digit_at g a) (get_or old a 0)
puts_at old new g a p = segment_cells old new g a p.there (p.others a)

-- two segments, one after the other
pub cell_twice : (o p : Option Digit) (x : ℕ) → cell_or o (cell_or p x) ≡ cell_or (or_else o p) x
cell_twice (Some d) p x = refl
cell_twice None p x = refl

-- a cover's runs are segments
pub cover_segments : {a : ℕ} {ds : List Digit} {gs : List DigitRun} → Covers IsCutBefore a ds gs → (n : ℕ) → 100 ≤ a → a + length ds ≤ n → ((i : ℕ) → i < length ds → IsGood (nth ds i)) → AreSegments n gs
cover_segments no_digits n low high good = tt
cover_segments {a = a} (segment ds rest cut more) n low high good =
    let l = length-append ds rest in
    let some : 1 ≤ length ds = cut.some in (
      record {
        low = low;
        high = omega arith;
        some = cut.some;
        most = cut.most;
        good = λ i h. subst IsGood (get_or_append_left ds rest _ i h) (good i (omega arith));
        inside = cut.none_inside;
      },
      cover_segments more n (omega arith) (omega arith) (λ i h. subst IsGood (get_or-append-add ds rest i _) (good (length ds + i) (omega arith))),
    )

segments_joined : (n : ℕ) (gs hs : List DigitRun) → AreSegments n gs → AreSegments n hs → AreSegments n (gs ++ hs)
segments_joined n [] hs g h = h
segments_joined n (x ∷ gs) hs g h = (g.0, segments_joined n gs hs g.1 h)

-- the segments of good runs from 00100 on
pub record IsLow (n : ℕ) (r : DigitRun) : Type 0 where
  pub low : 100 ≤ r.from
  pub high : r.from + length r.digits ≤ n
  pub good : (i : ℕ) → i < length r.digits → IsGood (nth r.digits i)

abbrev pub AreLow : ℕ → List DigitRun → Type 0
AreLow n [] = Unit {0}
AreLow n (r ∷ rs) = IsLow n r × AreLow n rs

pub cut_segments : (n : ℕ) (rs : List DigitRun) → AreLow n rs → AreSegments n (cut rs)
unfolding cut_as
cut_segments n [] all = tt
cut_segments n (r ∷ rs) all = segments_joined n (cut_piece r) (cut rs) (cover_segments (cut_covers r) n all.0.low all.0.high all.0.good) (cut_segments n rs all.1)

-- pieces behind the tables are such runs
pub pieces_low : (n : ℕ) (rs : List DigitRun) → All IsPiece rs → All IsBehind rs → All (IsRunBelow n) rs → AreLow n rs
pieces_low n [] each above under = tt
pieces_low n (r ∷ rs) each above under =
    let p : IsPiece r = each 0 r (omega arith) in
    let low : 400 ≤ r.from = above 0 r (omega arith) in (
      record { low = omega arith; high = under 0 r (omega arith); good = λ i l. p.good i (unflagged_digit 0) l },
      pieces_low n rs (λ k e l. each (suc k) e (omega arith)) (λ k e l. above (suc k) e (omega arith)) (λ k e l. under (suc k) e (omega arith)),
    )

-- nothing is declared below 00100
pub nothing_low : (rs : List DigitRun) → All (λ r. lowest_declared ≤ r.from) rs → (a : ℕ) → a < 100 → declared_digit rs a ≡ None
unfolding declared_digit
nothing_low [] all a h = refl
nothing_low (r ∷ rs) all a h =
    let low : 100 ≤ r.from = all 0 r (omega arith) in
    rw (nothing_low rs (λ k e l. all (suc k) e (omega arith)) a h, below r a (omega arith)) refl
