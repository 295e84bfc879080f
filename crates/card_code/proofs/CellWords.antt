-- Ten characters' cells, joined to a word one by one.
use Rattle.std.proofs.Common.{◌≡◌, ℕ, ◌+◌, ◌*◌, ◌%◌, ◌^◌, ◌<◌, ◌≤◌, List, length, get_or, set, length-set, sym, ◌∙◌, ap, arith, inl, inr, bit_or}
use Rattle.std.proofs.lemmas.Nat.{or_comm, or_lt, or_shifted, le_or_l, le_or_r, shl_whole, mul-add-lt, pow-add}
use Rattle.std.proofs.lemmas.List.{get_or-set_same, get_or-set_other}
use Rattle.std.proofs.lemmas.Bool.{cases_eq, cases_lt}
use Rattle.digit_core.specs.Packed.{six}
use Rattle.digit_core.specs.Search.{is_bad_cell}
use Rattle.digit_core.specs.Within.{AreGood, HasBad}
use Rattle.digit_core.proofs.Sixes.{six_cat_low, six_cat_high}
use Rattle.card_code.specs.Words.{AreEntries, HasNoEntry, AreCharEntries, HasNoChar}

-- the entry of character number n
abbrev pub entry : List ℕ → List ℕ → ℕ → ℕ
entry table text n = get_or table (get_or text n 0) 0

-- the word of the first n characters' cells
pub record Joined (table text : List ℕ) (word n : ℕ) : Type 0 where
  pub low : word < 2 ^ (6 * n)
  pub cells : (i : ℕ) → i < n → entry table text i ≡ six word i

-- none yet
pub joined_none : (table text : List ℕ) → Joined table text 0 0
joined_none table text = record { low = omega arith; cells = λ i below. absurd (omega arith) }

-- a cell above those that were joined
module _ (word n c : ℕ) (place : n < 10) (low : word < 2 ^ (6 * n)) (cell : c < 64) where
  abbrev above : ℕ
  above = bit_or word (c * 2 ^ (6 * n) % 2 ^ 64)

  above_is : above ≡ c * 2 ^ (6 * n) + word
  above_is =
      ap (λ x. bit_or word x) (shl_whole c 6 (6 * n) 64 cell (omega arith)) ∙ or_comm word (c * 2 ^ (6 * n)) ∙ or_shifted c (6 * n) word low

  above_low : above < 2 ^ (6 * (n + 1))
  above_low =
      let m = mul-add-lt c (2 ^ (6 * n)) word 64 cell low in
      let e : 64 * 2 ^ (6 * n) ≡ 2 ^ (6 * (n + 1)) = let f : 6 + 6 * n ≡ 6 * (n + 1) = omega arith in sym (pow-add 2 6 (6 * n)) ∙ ap (λ k. 2 ^ k) f in
      rw above_is (omega (arith, m, e))

  above_below : (i : ℕ) → i < n → six above i ≡ six word i
  above_below i below = ap (λ x. six x i) above_is ∙ six_cat_low c n word low i below

  above_here : six above n ≡ c
  above_here =
      let e : n + 0 ≡ n = omega arith in
      let h = six_cat_high c n word low 0 in
      let zero : six c 0 ≡ c = omega arith in
      ap (λ x. six x n) above_is ∙ (rw e at h) ∙ zero

module _ (table text : List ℕ) (word n : ℕ) (place : n < 10) (small : entry table text n < 64) (joined : Joined table text word n) where
  abbrev c : ℕ
  c = entry table text n

  -- one more
  pub joined_more : Joined table text (bit_or word (c * 2 ^ (6 * n) % 2 ^ 64)) (n + 1)
  joined_more = record {
    low = above_low word n c place joined.low small;
    cells = λ i below. elim (cases_eq i n) [
      | inl e ↦ rw e (sym (above_here word n c place joined.low small))
      | inr ne ↦ joined.cells i (omega arith) ∙ sym (above_below word n c place joined.low small i (omega arith))
    ];
  }

-- all ten, and each good
pub all_joined : (table text : List ℕ) (word n : ℕ) → 10 ≤ n → length text ≡ 10 → AreGood word → Joined table text word n → AreEntries table text word
all_joined table text word n least ten good joined = record { cells = λ j below. joined.cells j (omega arith); good = λ j below. good j (omega arith) }

-- or one of them bad
pub lacks_one : (table text : List ℕ) (word n : ℕ) → 10 ≤ n → length text ≡ 10 → HasBad word → Joined table text word n → HasNoEntry table text
lacks_one table text word n least ten bad joined = record {
  at = bad.place;
  within = omega (arith, bad.ten);
  none = ap is_bad_cell (joined.cells bad.place (omega (arith, bad.ten))) ∙ bad.bad;
}

-- one of the first n cells has no character
pub record LacksChar (table : List ℕ) (word n : ℕ) : Type 0 where
  pub at : ℕ
  pub within : at < n
  pub none : 128 ≤ get_or table (six word at) 0

-- the characters of the first n cells, and all their bits together
pub record Shown (table : List ℕ) (word : ℕ) (chars : List ℕ) (bits n : ℕ) : Type 0 where
  pub ten : length chars ≡ 10
  pub are : (i : ℕ) → i < n → get_or chars i 0 ≡ get_or table (six word i) 0
  pub small : bits < 128 → (i : ℕ) → i < n → get_or table (six word i) 0 < 128
  pub none : 128 ≤ bits → LacksChar table word n

pub shown_none : (table : List ℕ) (word : ℕ) (chars : List ℕ) → length chars ≡ 10 → Shown table word chars 0 0
shown_none table word chars ten = record { ten = ten; are = λ i below. absurd (omega arith); small = λ h i below. absurd (omega arith); none = λ h. absurd (omega arith) }

module _ (table : List ℕ) (word : ℕ) (chars : List ℕ) (bits n : ℕ) (place : n < 10) (shown : Shown table word chars bits n) where
  abbrev char : ℕ
  char = get_or table (six word n) 0

  -- one more
  pub shown_more : Shown table word (set chars n char) (bit_or bits char) (n + 1)
  shown_more =
      let l = le_or_l bits char in
      let r = le_or_r bits char in
      let ten = shown.ten in
      record {
        ten = length-set chars n char ∙ ten;
        are = λ i below. elim (cases_eq i n) [
          | inl e ↦ rw e (get_or-set_same chars n char 0 (omega arith))
          | inr ne ↦ get_or-set_other chars n i char 0 ne ∙ shown.are i (omega arith)
        ];
        small = λ h i below. elim (cases_eq i n) [
          | inl e ↦ rw e (omega arith)
          | inr ne ↦ shown.small (omega arith) i (omega arith)
        ];
        none = λ h. elim (cases_lt bits 128) [
          | inl less ↦ elim (cases_lt char 128) [
            | inl small ↦ let o = or_lt 7 bits char less small in absurd (omega arith)
            | inr over ↦ record { at = n; within = omega arith; none = over }
          ]
          | inr over ↦ let before = shown.none over in record { at = before.at; within = omega (arith, before.within); none = before.none }
        ];
      }

-- all ten
pub all_shown : (table : List ℕ) (word : ℕ) (chars : List ℕ) (bits n : ℕ) → 10 ≤ n → bits < 128 → Shown table word chars bits n → AreCharEntries table word chars
all_shown table word chars bits n least test shown = record { ten = shown.ten; chars_are = λ j below. shown.are j (omega arith); are = λ j below. shown.small test j (omega arith) }

pub lacks_char : (table : List ℕ) (word : ℕ) (chars : List ℕ) (bits n : ℕ) → n ≤ 10 → 128 ≤ bits → Shown table word chars bits n → HasNoChar table word
lacks_char table word chars bits n most test shown = let one = shown.none test in record { at = one.at; within = omega (arith, one.within); none = one.none }
