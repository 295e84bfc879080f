-- Object characters are ASCII.
use Rattle.std.proofs.Common.{◌≡◌, ℕ, ◌<◌, nat_lt, true, false, ◌==◌, List, [], ◌∷◌, length, arith, refl, ◌∙◌}
use Rattle.std.proofs.lemmas.Str.{length-encode, len_utf8_ascii}
use Rattle.std.specs.Prelude.{unwrap_or, encode_utf8, None}
use Rattle.std.specs.List.{list_all}
use Rattle.std.proofs.lemmas.Bool.Decides.{nat_tests}
use Rattle.digit_core.specs.declared.Digit.{Digit}
use Rattle.digit_core.specs.Cell.{is_cell_value, same_flag, same_digit}
use Rattle.card_code.specs.Characters.{char_in, object_char, object_table, DigitEntry}
use Rattle.sps_expr.proofs.Cases.{by_bool, and_parts}

all_ascii : (es : List DigitEntry) (d : Digit) → list_all (λ e. nat_lt e.char 128) es ≡ true → unwrap_or (char_in es d) 32 < 128
unfolding char_in
all_ascii [] d h = omega arith
all_ascii (e ∷ es) d h =
    let parts = and_parts (nat_lt e.char 128) (list_all (λ e. nat_lt e.char 128) es) h in
    by_bool (same_digit e.digit d)
    (λ t. let below : e.char < 128 = let here = parts.0 in grind (arith, nat_tests) in rw t below)
    (λ t. rw t (all_ascii es d parts.1))

pub object_char-ascii : (d : Digit) → object_char d < 128
object_char-ascii d = all_ascii object_table d refl

-- the character of a digit is one byte
pub one_byte : (c : ℕ) (d : Digit) → c ≡ object_char d → (c < 128) × (length (encode_utf8 c) ≡ 1)
one_byte c d e =
    let ascii : c < 128 = rw e (object_char-ascii d) in
    (ascii, length-encode c ∙ len_utf8_ascii c ascii)

no_entry : (es : List DigitEntry) (d : Digit) → list_all (λ e. is_cell_value e.digit.value) es ≡ true → is_cell_value d.value ≡ false → char_in es d ≡ None
unfolding char_in
no_entry [] d all bad = refl
no_entry (e ∷ es) d all bad =
    let parts = and_parts (is_cell_value e.digit.value) (list_all (λ e. is_cell_value e.digit.value) es) all in
    by_bool (same_digit e.digit d)
    (λ t.
    let test = (and_parts (same_flag e.digit.flag d.flag) (e.digit.value == d.value) t).1 in
    let same : e.digit.value ≡ d.value = grind (arith, nat_tests) in
    let good = rw same at parts.0 in
    absurd cc)
    (λ f. rw f (no_entry es d parts.1 bad))

-- a digit that no cell can hold has a blank for its character
pub blank_char : (d : Digit) → is_cell_value d.value ≡ false → object_char d ≡ 32
blank_char d bad = rw (no_entry object_table d refl bad) refl
