-- Numbers of so many digits.
use Rattle.std.proofs.Common.{◌≡◌, ℕ, ◌+◌, ◌-◌, ◌*◌, ◌^◌, ◌<◌, ◌≤◌, Bool, true, false, List, [], ◌∷◌, length, drop, get_or, refl, sym, arith}
use Rattle.std.proofs.lemmas.Bool.Decides.{nat_tests}
use Rattle.std.proofs.lemmas.Grind.{pow_more}
use Rattle.std.proofs.lemmas.List.{at_drop_more, at_drop_all}
use Rattle.std.proofs.Math.Nat.{pow-le-pow_right}
use Rattle.std.specs.Prelude.{Option, Some, None, fold, nat_le, ◌&&◌, if◌then◌else◌}
use Rattle.std.specs.List.{list_all}
use Rattle.std.specs.Char.{is_ascii_digit}
use Rattle.line_words.specs.Decimals.{with_digit}
use Rattle.line_words.specs.Words.{number}

-- the number that the digits of a word are, behind a number so far
unfoldable pub digits_from : ℕ → List ℕ → Option ℕ
digits_from n [] = Some n
digits_from n (c ∷ cs) = if is_ascii_digit c then digits_from (with_digit n c) cs else None

-- one more byte that must be a digit
both_digits : (b all : Bool) (o p : Option ℕ) → o ≡ (if all then p else None) → (if b then o else None) ≡ (if b && all then p else None)
both_digits true all o p h = h
both_digits false all o p h = refl

-- it is the number of all of them
pub digits_from_is : (n : ℕ) (cs : List ℕ) → digits_from n cs ≡ (if list_all is_ascii_digit cs then Some (fold with_digit n cs) else None)
unfolding digits_from
digits_from_is n [] = refl
digits_from_is n (c ∷ cs) =
    both_digits (is_ascii_digit c) (list_all is_ascii_digit cs) (digits_from (with_digit n c) cs) (Some (fold with_digit (with_digit n c) cs)) (digits_from_is (with_digit n c) cs)

-- the value of a digit is at most 9
pub digit_small : (c : ℕ) → is_ascii_digit c ≡ true → c - 48 ≤ 9
digit_small c digit = grind (arith, nat_tests)

-- so many digits are below that power of ten
pub within_15 : (k : ℕ) → k ≤ 15 → 10 ^ k ≤ 1000000000000000
within_15 k few = pow-le-pow_right {n = 10} (omega arith) few

-- one more digit
pub one_digit_more : (n k d : ℕ) → n < 10 ^ k → d ≤ 9 → 10 * n + d < 10 ^ (k + 1)
one_digit_more n k d below digit = omega (arith, pow_more 10 k)

-- and the number still fits
pub fits_more : (n k d : ℕ) → n < 10 ^ k → k < 15 → d ≤ 9 → 10 * n + d < 1000000000000000
fits_more n k d below few digit = omega (arith, one_digit_more n k d below digit, within_15 (k + 1) (omega arith))

-- the digits from a place on: the first of them, and the others
digits_at : (word : List ℕ) (i n : ℕ) → i < length word
    → digits_from n (drop i word) ≡ (if is_ascii_digit (get_or word i 0) then digits_from (10 * n + (get_or word i 0 - 48)) (drop (i + 1) word) else None)
unfolding digits_from
digits_at word i n within = at_drop_more (λ (cs : List ℕ). digits_from n cs) word i 0 within

-- where that is a digit
pub digit_more : (word : List ℕ) (i n : ℕ) → i < length word → is_ascii_digit (get_or word i 0) ≡ true → digits_from (10 * n + (get_or word i 0 - 48)) (drop (i + 1) word) ≡ digits_from n (drop i word)
digit_more word i n within digit = rw (digits_at word i n within) (rw digit refl)

-- and where it is none
pub digit_bad : (word : List ℕ) (i n : ℕ) → i < length word → is_ascii_digit (get_or word i 0) ≡ false → digits_from n (drop i word) ≡ None
digit_bad word i n within none = rw (digits_at word i n within) (rw none refl)

-- no digit is left
pub digits_all : (word : List ℕ) (i n : ℕ) → length word ≤ i → digits_from n (drop i word) ≡ Some n
unfolding digits_from
digits_all word i n past = at_drop_all (λ (cs : List ℕ). digits_from n cs) word i past

-- a word of 1 to 15 bytes is the number that its digits are
pub number_by_digits : (word : List ℕ) → 0 < length word → length word ≤ 15 → number word ≡ digits_from 0 word
number_by_digits word some few =
    let short : (nat_le 1 (length word) && nat_le (length word) 15) ≡ true = grind (arith, nat_tests) in
    rw short (sym (digits_from_is 0 word))
