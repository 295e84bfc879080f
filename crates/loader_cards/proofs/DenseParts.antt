-- What the dense segments of pieces are.
use Rattle.std.proofs.Common.{ℕ, suc, ◌≡◌, ◌+◌, ◌-◌, ◌<◌, ◌≤◌, Bool, true, false, List, [], ◌∷◌, ◌++◌, length, take, sym, ap, ◌∙◌, arith, subst, length-append, All}
use Rattle.std.proofs.lemmas.List.{length-take-le, get_or-take, get_or_append_left, get_or-append-add}
use Rattle.std.proofs.lemmas.List.Sums.{get_or-le-sum_by, sum_by_more_le}
use Rattle.std.specs.Prelude.{if◌then◌else◌}
use Rattle.digit_core.specs.declared.Digit.{Digit}
use Rattle.digit_core.specs.Cell.{IsGood, unflagged_digit}
use Rattle.sps_pass_two.specs.Image.{DigitRun}
use Rattle.sps_pass_two.specs.Kept.{IsPiece, IsRunBelow}
use Rattle.deck_punch.specs.declared.form.DeckForm.TheVariants.{Dense}
use Rattle.deck_punch.specs.Cut.{flags_within, cut_as, cut_dense, cut_piece_dense}
use Rattle.card_columns.specs.Orders.{nth}
use Rattle.deck_punch.specs.Cover.{Covers, no_digits, segment}
use Rattle.deck_punch.proofs.Covering.{flag_count, flagged, IsFront, form_covers, is_off, none_flagged, few_before}
use Rattle.deck_punch.proofs.WithTables.{IsBehind}

-- where fewer than two of the first so many have a flag, none behind a flagged one has
none_behind : (es : List Digit) (m i j : ℕ) → m ≤ length es → flagged (take m es) < 2 → i < j → j < m → (nth es i).flag ≡ true → (nth es j).flag ≡ false
none_behind es m i j within few less inside on =
    let flags : Digit → ℕ = λ d. flag_count d.flag in
    let l : length (take m es) ≡ m = length-take-le m es within in
    let k : length (take j (take m es)) ≡ j = length-take-le j (take m es) (omega arith) in
    let first : flag_count (nth (take j (take m es)) i).flag ≤ flagged (take j (take m es)) = get_or-le-sum_by flags (take j (take m es)) i _ (omega arith) in
    let all : flagged (take j (take m es)) + flag_count (nth (take m es) j).flag ≤ flagged (take m es) = sum_by_more_le flags (take m es) j _ (omega arith) in
    let same : nth (take j (take m es)) i ≡ nth es i = get_or-take j (take m es) i _ less ∙ get_or-take m es i _ (omega arith) in
    let has : flag_count (nth (take j (take m es)) i).flag ≡ 1 = ap (λ (d : Digit). flag_count d.flag) same ∙ ap (λ (b : Bool). flag_count b) on in
    ap (λ (d : Digit). d.flag) (sym (get_or-take m es j _ inside)) ∙ is_off (nth (take m es) j).flag (omega arith)

two_at_most : (b : Bool) → (if b then 2 else 1) ≤ 2
two_at_most true = omega arith
two_at_most false = omega arith

-- a digit and those behind it: where the first has no flag none stands inside, and else one at most
pub record IsPart (d : Digit) (es : List Digit) : Type 0 where
  pub most : length es ≤ 68
  pub one : d.flag ≡ false → (i : ℕ) → i + 1 < length es → (nth es i).flag ≡ false
  pub two : (i j : ℕ) → i < j → j + 1 < length es → (nth es i).flag ≡ true → (nth es j).flag ≡ false

front_part : (d : Digit) (es rest : List Digit) → IsFront Dense (d ∷ es) rest → IsPart d es
front_part d es rest front =
    let most : suc (length es) ≤ 69 = front.most in
    let few : flagged (take (length es - 1) es) < flags_within d = few_before d es (flags_within d) front.none_inside in
    let two : flags_within d ≤ 2 = two_at_most d.flag in
    record {
      most = omega arith;
      one = λ off i h. none_flagged es (length es - 1) i (omega arith) (subst (λ (b : Bool). flagged (take (length es - 1) es) < (if b then 2 else 1)) off few) (omega arith);
      two = λ i j less h on. none_behind es (length es - 1) i j (omega arith) (omega arith) less (omega arith) on;
    }

-- a dense segment of a core of n positions: good digits from 00400 on, which are a part
pub record IsDense (n a : ℕ) (d : Digit) (es : List Digit) : Type 0 where
  pub low : 400 ≤ a
  pub high : a + suc (length es) ≤ n
  pub first : IsGood d
  pub good : (i : ℕ) → i < length es → IsGood (nth es i)
  pub flags : IsPart d es

-- so many digits of a segment
abbrev pub IsSegmentAt : ℕ → ℕ → List Digit → Type 0
IsSegmentAt n a [] = ⊥
IsSegmentAt n a (d ∷ es) = IsDense n a d es

abbrev pub AreDense : ℕ → List DigitRun → Type 0
AreDense n [] = Unit {0}
AreDense n (g ∷ gs) = IsSegmentAt n g.from g.digits × AreDense n gs

joined : (n : ℕ) (gs hs : List DigitRun) → AreDense n gs → AreDense n hs → AreDense n (gs ++ hs)
joined n [] hs g h = h
joined n (x ∷ gs) hs g h = (g.0, joined n gs hs g.1 h)

dense_at : (n a : ℕ) (ds rest : List Digit) → IsFront Dense ds rest → 400 ≤ a → a + length ds ≤ n → ((i : ℕ) → i < length ds → IsGood (nth ds i)) → IsSegmentAt n a ds
dense_at n a [] rest front low high good = let some : 1 ≤ 0 = front.some in absurd (omega arith)
dense_at n a (d ∷ es) rest front low high good = record {
  low = low;
  high = high;
  first = good 0 (omega arith);
  good = λ i h. good (suc i) (omega arith);
  flags = front_part d es rest front;
}

cover_dense : {a : ℕ} {ds : List Digit} {gs : List DigitRun} → Covers (IsFront Dense) a ds gs → (n : ℕ) → 400 ≤ a → a + length ds ≤ n → ((i : ℕ) → i < length ds → IsGood (nth ds i)) → AreDense n gs
cover_dense no_digits n low high good = tt
cover_dense {a = a} (segment ds rest front more) n low high good =
    let l = length-append ds rest in (
      dense_at n a ds rest front low (omega arith) (λ i h. subst IsGood (get_or_append_left ds rest _ i h) (good i (omega arith))),
      cover_dense more n (omega arith) (omega arith) (λ i h. subst IsGood (get_or-append-add ds rest i _) (good (length ds + i) (omega arith))),
    )

-- the dense segments of good pieces behind the tables
pub dense_segments : (n : ℕ) (pieces : List DigitRun) → All IsPiece pieces → All IsBehind pieces → All (IsRunBelow n) pieces → AreDense n (cut_dense pieces)
unfolding cut_as
dense_segments n [] each lowest under = tt
dense_segments n (r ∷ rs) each lowest under =
    let p : IsPiece r = each 0 r (omega arith) in
    let low : 400 ≤ r.from = lowest 0 r (omega arith) in
    joined n (cut_piece_dense r) (cut_dense rs) (cover_dense (form_covers Dense r) n low (under 0 r (omega arith)) (λ i l. p.good i (unflagged_digit 0) l))
    (dense_segments n rs (λ k e l. each (suc k) e (omega arith)) (λ k e l. lowest (suc k) e (omega arith)) (λ k e l. under (suc k) e (omega arith)))

pub segment_low : (n a : ℕ) (ds : List Digit) → IsSegmentAt n a ds → 400 ≤ a
segment_low n a [] is = absurd is
segment_low n a (d ∷ ds) is = is.low
