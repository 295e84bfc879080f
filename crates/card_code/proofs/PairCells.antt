-- Five characters' pairs of cells, joined to a word one by one.
use Rattle.std.proofs.Common.{◌≡◌, ℕ, ◌+◌, ◌*◌, ◌/◌, ◌%◌, ◌^◌, ◌<◌, ◌≤◌, List, length, get_or, refl, sym, ◌∙◌, ap, arith, inl, inr, bit_or, Bool, false, true≢false, ◌||◌, MatchOption}
use Rattle.std.proofs.lemmas.Nat.{or_comm, or_lt, or_shifted, le_or_l, le_or_r, shl_whole, mul-add-lt, pow-add}
use Rattle.std.proofs.lemmas.Bool.{cases_eq, cases_lt}
use Rattle.std.proofs.lemmas.Bool.Decides.{nat_tests}
use Rattle.std.specs.Prelude.{true, nat_le, nat_lt, if◌then◌else◌, Option, Some, None, option_map}
use lib.Count.{ones}
use Rattle.digit_core.specs.Cell.{cell}
use Rattle.digit_core.specs.Packed.{six}
use Rattle.digit_core.specs.Search.{is_bad_cell}
use Rattle.digit_core.proofs.Below.{same_below}
use Rattle.digit_core.proofs.Sixes.{six_cat_low, six_cat_high}
use Rattle.card_code.specs.Pairs.{Pair, alpha_of, pair_in}
use Rattle.card_code.specs.Words.{pair_cells, ArePairCells, HasNoPair, ArePairEntries, HasNoPairEntry}
use Rattle.card_code.specs.declared.tables.TheConstants.{PAIR_CELLS}
use Rattle.card_code.proofs.CellWords.{entry}

-- both cells of a word's pair number j
abbrev pub two : ℕ → ℕ → ℕ
two w j = six w (2 * j) + 64 * six w (2 * j + 1)

-- one of the first n characters has no pair
pub record LacksPair (table text : List ℕ) (n : ℕ) : Type 0 where
  pub at : ℕ
  pub within : at < n
  pub none : 4096 ≤ entry table text at

-- the word of the first n characters' pairs, and all their bits together
pub record PairsJoined (table text : List ℕ) (word bits n : ℕ) : Type 0 where
  pub low : bits < 4096 → word < 2 ^ (6 * (2 * n))
  pub cells : bits < 4096 → (i : ℕ) → i < n → entry table text i ≡ two word i
  pub none : 4096 ≤ bits → LacksPair table text n

-- none yet
pub no_pair_joined : (table text : List ℕ) → PairsJoined table text 0 0 0
no_pair_joined table text = record { low = λ h. omega arith; cells = λ h i below. absurd (omega arith); none = λ h. absurd (omega arith) }

-- a pair above those that were joined
module _ (word n c : ℕ) (place : n < 5) (low : word < 2 ^ (6 * (2 * n))) (small : c < 4096) where
  abbrev above : ℕ
  above = bit_or word (c * 2 ^ (12 * n) % 2 ^ 64)

  above_is : above ≡ c * 2 ^ (6 * (2 * n)) + word
  above_is =
      let e : 12 * n ≡ 6 * (2 * n) = omega arith in
      rw e (ap (λ x. bit_or word x) (shl_whole c 12 (6 * (2 * n)) 64 small (omega arith)) ∙ or_comm word (c * 2 ^ (6 * (2 * n))) ∙ or_shifted c (6 * (2 * n)) word low)

  above_low : above < 2 ^ (6 * (2 * (n + 1)))
  above_low =
      let m = mul-add-lt c (2 ^ (6 * (2 * n))) word 4096 small low in
      let e : 4096 * 2 ^ (6 * (2 * n)) ≡ 2 ^ (6 * (2 * (n + 1))) = let f : 12 + 6 * (2 * n) ≡ 6 * (2 * (n + 1)) = omega arith in sym (pow-add 2 12 (6 * (2 * n))) ∙ ap (λ k. 2 ^ k) f in
      rw above_is (omega (arith, m, e))

  above_below : (i : ℕ) → i < n → two above i ≡ two word i
  above_below i below =
      let s = six_cat_low c (2 * n) word low (2 * i) (omega arith) in
      let t = six_cat_low c (2 * n) word low (2 * i + 1) (omega arith) in
      ap (λ x. two x i) above_is ∙ rw (s, t) refl

  above_here : two above n ≡ c
  above_here =
      let e : 2 * n + 0 ≡ 2 * n = omega arith in
      let h = six_cat_high c (2 * n) word low 0 in
      let s = rw e at h in
      let t = six_cat_high c (2 * n) word low 1 in
      let both : six c 0 + 64 * six c 1 ≡ c = omega arith in
      ap (λ x. two x n) above_is ∙ rw (s, t) both

module _ (table text : List ℕ) (word bits n : ℕ) (place : n < 5) (joined : PairsJoined table text word bits n) where
  abbrev c : ℕ
  c = entry table text n

  -- one more
  pub pair_joined : PairsJoined table text (bit_or word (c * 2 ^ (12 * n) % 2 ^ 64)) (bit_or bits c) (n + 1)
  pair_joined =
      let l = le_or_l bits c in
      let r = le_or_r bits c in
      record {
        low = λ h. above_low word n c place (joined.low (omega arith)) (omega arith);
        cells = λ h i below. elim (cases_eq i n) [
          | inl e ↦ rw e (sym (above_here word n c place (joined.low (omega arith)) (omega arith)))
          | inr ne ↦ joined.cells (omega arith) i (omega arith) ∙ sym (above_below word n c place (joined.low (omega arith)) (omega arith) i (omega arith))
        ];
        none = λ h. elim (cases_lt bits 4096) [
          | inl less ↦ elim (cases_lt c 4096) [
            | inl small ↦ let o = or_lt 12 bits c less small in absurd (omega arith)
            | inr over ↦ record { at = n; within = omega arith; none = over }
          ]
          | inr over ↦ let before = joined.none over in record { at = before.at; within = omega (arith, before.within); none = before.none }
        ];
      }

-- all five
pub all_pairs_joined : (table text : List ℕ) (word bits n : ℕ) → 5 ≤ n → n ≤ 5 → length text ≡ 5 → bits < 4096 → PairsJoined table text word bits n → ArePairEntries table text word
all_pairs_joined table text word bits n least most five test joined = record { cells = λ j below. joined.cells test j (omega arith) }

pub lacks_pair : (table text : List ℕ) (word bits n : ℕ) → 5 ≤ n → n ≤ 5 → length text ≡ 5 → 4096 ≤ bits → PairsJoined table text word bits n → HasNoPairEntry table text
lacks_pair table text word bits n least most five test joined = let one = joined.none test in record { at = one.at; within = omega (arith, one.within); none = one.none }

-- the table has the cells of the pairs
abbrev of_table : ℕ → ℕ
of_table c = get_or PAIR_CELLS c 0

abbrev halves : ℕ → Option (ℕ × ℕ)
halves x = Some (x % 64, x / 64)

abbrev cells_or_halves : ℕ → Option (ℕ × ℕ)
cells_or_halves c = if nat_lt (of_table c) 4096 then option_map pair_cells (alpha_of c) else halves (of_table c)

has_cells : (c : ℕ) → c < 256 → cells_or_halves c ≡ halves (of_table c)
unfolding pair_in cell ones
has_cells c below = same_below cells_or_halves (λ c. halves (of_table c)) 256 c None refl below

abbrev bad_half : ℕ → Bool
bad_half c = if nat_lt (of_table c) 4096 then is_bad_cell (of_table c % 64) || is_bad_cell (of_table c / 64) else false

no_bad_half : (c : ℕ) → c < 256 → bad_half c ≡ false
unfolding ones
no_bad_half c below = same_below bad_half (λ c. false) 256 c true refl below

abbrev pair_past : ℕ → Option Pair
pair_past c = if nat_le 4096 (of_table c) then alpha_of c else None

has_none : (c : ℕ) → c < 256 → pair_past c ≡ None
unfolding pair_in
has_none c below = same_below pair_past (λ c. None) 256 c None refl below

first_false : (a b : Bool) → (a || b) ≡ false → a ≡ false
first_false true b none = none
first_false false b none = refl

second_false : (a b : Bool) → (a || b) ≡ false → b ≡ false
second_false true b none = absurd (true≢false none)
second_false false b none = none

-- by it a word's cells are those of the pairs
module _ (text : List ℕ) (bytes : (k : ℕ) → get_or text k 0 < 256) where
  module _ (w : ℕ) (are : ArePairEntries PAIR_CELLS text w) (j : ℕ) (below : j < length text) where
    in_table : nat_lt (of_table (get_or text j 0)) 4096 ≡ true
    in_table =
        let is = are.cells j below in
        let s : of_table (get_or text j 0) < 4096 = omega arith in
        grind (arith, nat_tests)

    low_half : of_table (get_or text j 0) % 64 ≡ six w (2 * j)
    low_half = let is = are.cells j below in omega arith

    high_half : of_table (get_or text j 0) / 64 ≡ six w (2 * j + 1)
    high_half = let is = are.cells j below in omega arith

    pair_at : option_map pair_cells (alpha_of (get_or text j 0)) ≡ Some (six w (2 * j), six w (2 * j + 1))
    pair_at = (rw in_table at (has_cells (get_or text j 0) (bytes j))) ∙ rw (low_half, high_half) refl

    both_good : (is_bad_cell (six w (2 * j)) || is_bad_cell (six w (2 * j + 1))) ≡ false
    both_good = rw (in_table, low_half, high_half) at (no_bad_half (get_or text j 0) (bytes j))

  cells_by : (w : ℕ) → ArePairEntries PAIR_CELLS text w → ArePairCells text w
  cells_by w are = record {
    cells = pair_at w are;
    good = λ k below.
        elim (cases_eq (k % 2) 0) [
          | inl even ↦ let at : 2 * (k / 2) ≡ k = omega arith in rw at at (first_false (is_bad_cell (six w (2 * (k / 2)))) (is_bad_cell (six w (2 * (k / 2) + 1))) (both_good w are (k / 2) (omega arith)))
          | inr odd ↦ let at : 2 * (k / 2) + 1 ≡ k = omega arith in rw at at (second_false (is_bad_cell (six w (2 * (k / 2)))) (is_bad_cell (six w (2 * (k / 2) + 1))) (both_good w are (k / 2) (omega arith)))
        ];
  }

  none_by : HasNoPairEntry PAIR_CELLS text → HasNoPair text
  none_by lacks =
      let test : nat_le 4096 (of_table (get_or text lacks.at 0)) ≡ true = let h = lacks.none in grind (arith, nat_tests) in
      let none = has_none (get_or text lacks.at 0) (bytes lacks.at) in
      record { at = lacks.at; within = lacks.within; bad = rw test at none }

  pub pairs_by_table : (r : Option ℕ) → MatchOption r (HasNoPairEntry PAIR_CELLS text) (ArePairEntries PAIR_CELLS text) → MatchOption r (HasNoPair text) (ArePairCells text)
  pairs_by_table None lacks = none_by lacks
  pairs_by_table (Some w) are = cells_by w are
