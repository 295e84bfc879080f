-- The texts of cards: none is longer than a card, and no character ends a line.
use Rattle.std.proofs.Common.{ℕ, ◌≡◌, ◌≤◌, Bool, true, false, List, [], ◌∷◌, ◌++◌, length, map, refl, arith}
use Rattle.std.proofs.lemmas.List.{length-map}
use Rattle.std.specs.Prelude.{Option, Some, if◌then◌else◌, ◌==◌, ◌&&◌, not, unwrap_or}
use Rattle.digit_core.specs.declared.Digit.{Digit}
use Rattle.digit_core.specs.Cell.{same_digit}
use Rattle.card_code.specs.Characters.{DigitEntry, char_in, object_table, object_char}

-- a character that is neither LF nor CR
abbrev pub is_plain : ℕ → Bool
is_plain c = not (c == 10) && not (c == 13)

abbrev pub are_plain : List ℕ → Bool
are_plain [] = true
are_plain (c ∷ cs) = is_plain c && are_plain cs

pub and_first : (a b : Bool) → (a && b) ≡ true → a ≡ true
and_first true b is = refl
and_first false b is = cc

pub and_second : (a b : Bool) → (a && b) ≡ true → b ≡ true
and_second true b is = is
and_second false b is = cc

both : (a b : Bool) → a ≡ true → b ≡ true → (a && b) ≡ true
both a b is_a is_b = rw (is_a, is_b) refl

pub not_true : (b : Bool) → not b ≡ true → b ≡ false
not_true true is = cc
not_true false is = refl

-- what a card's text has: at most 80 plain characters
pub record IsCardText (text : List ℕ) : Type 0 where
  pub fits : length text ≤ 80
  pub chars : are_plain text ≡ true

abbrev pub AreCardTexts : List (List ℕ) → Type 0
AreCardTexts [] = Unit {0}
AreCardTexts (t ∷ ts) = IsCardText t × AreCardTexts ts

pub texts_on : (ts us : List (List ℕ)) → AreCardTexts ts → AreCardTexts us → AreCardTexts (ts ++ us)
texts_on [] us a b = b
texts_on (t ∷ ts) us a b = (a.0, texts_on ts us a.1 b)

-- The characters of digits.
by_test : (b : Bool) (c : ℕ) (o : Option ℕ) → is_plain c ≡ true → is_plain (unwrap_or o 32) ≡ true → is_plain (unwrap_or (if b then Some c else o) 32) ≡ true
by_test true c o here rest = here
by_test false c o here rest = rest

abbrev plain_table : List DigitEntry → Bool
plain_table [] = true
plain_table (e ∷ es) = is_plain e.char && plain_table es

plain_in : (es : List DigitEntry) (d : Digit) → plain_table es ≡ true → is_plain (unwrap_or (char_in es d) 32) ≡ true
unfolding char_in
plain_in [] d is = refl
plain_in (e ∷ es) d is =
    by_test (same_digit e.digit d) e.char (char_in es d) (and_first (is_plain e.char) (plain_table es) is) (plain_in es d (and_second (is_plain e.char) (plain_table es) is))

plain_digits : (ds : List Digit) → are_plain (map object_char ds) ≡ true
plain_digits [] = refl
plain_digits (d ∷ ds) = both (is_plain (object_char d)) (are_plain (map object_char ds)) (plain_in object_table d refl) (plain_digits ds)

pub digits_text : (ds : List Digit) → length ds ≡ 80 → IsCardText (map object_char ds)
digits_text ds whole = let n = length-map ds object_char in record { fits = omega arith; chars = plain_digits ds }
