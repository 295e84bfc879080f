-- What a typed digit is read as, and what a read digit is typed as.
use Rattle.std.proofs.Common.{◌≡◌, ℕ, ◌<◌, Bool, true, false, List, [], ◌∷◌, ◌++◌, Option, Some, None, refl, sym, ◌∙◌, ap, arith}
use Rattle.std.proofs.lemmas.Bool.Decides.{nat_tests}
use Rattle.std.proofs.lemmas.Nat.{div-mul-add, mod-mul-add}
use Rattle.std.specs.Prelude.{if◌then◌else◌, ◌==◌, ◌+◌, ◌*◌, ◌/◌, ◌%◌, unwrap_or}
use Rattle.digit_core.specs.declared.Digit.{Digit}
use Rattle.digit_core.specs.Cell.{IsGood, is_cell_value, unflagged_digit, same_digit}
use Rattle.digit_core.proofs.Below.{same_below}
use Rattle.card_code.proofs.PairTables.{inside, outside}
use Rattle.card_code.specs.Pairs.{Pair, pair_table, alpha_of, punch_alpha, pair_in, pair_char_in}
use Rattle.card_code.specs.Characters.{num_of, object_digit, object_char, punch_num, digit_in, char_in, object_table, DigitEntry}

-- a digit of two parts
abbrev digit : Bool → ℕ → Digit
digit flag value = record { flag = flag; value = value }

-- what is read where the digit was typed, at the values that a cell can hold
abbrev read_back : Bool → ℕ → Option Digit
read_back flag v = if is_cell_value v then object_digit (object_char (digit flag v)) else Some (digit flag v)

-- it is the digit
each : (flag : Bool) (v : ℕ) → v < 16 → read_back flag v ≡ Some (digit flag v)
unfolding digit_in char_in
each true v below = same_below (read_back true) (λ v. Some (digit true v)) 16 v None refl below
each false v below = same_below (read_back false) (λ v. Some (digit false v)) 16 v None refl below

-- a digit's object character is read as the digit
pub object_digit-object_char : (d : Digit) → IsGood d → object_digit (object_char d) ≡ Some d
object_digit-object_char d good = let parts = each d.flag d.value (grind (arith, nat_tests)) in rw good at parts

-- one entry in front of two tables, of which one gives what the other does
chosen : (b : Bool) (first : Digit) (o p : Option Digit) (d : Digit) → (o ≡ Some d → p ≡ Some d) → (if b then Some first else o) ≡ Some d → (if b then Some first else p) ≡ Some d
chosen true first o p d follows reads = reads
chosen false first o p d follows reads = follows reads

-- a character that the front of a table has is read by the front
in_front : (es fs : List DigitEntry) (c : ℕ) (d : Digit) → digit_in es c ≡ Some d → digit_in (es ++ fs) c ≡ Some d
unfolding digit_in
in_front [] fs c d reads = cc
in_front (e ∷ es) fs c d reads = chosen (e.char == c) e.digit (digit_in es c) (digit_in (es ++ fs) c) d (in_front es fs c d) reads

-- an object character of cards and keys is read as the same digit
pub num_of-object_digit : (c : ℕ) (d : Digit) → object_digit c ≡ Some d → num_of c ≡ Some d
num_of-object_digit c d reads = in_front object_table _ c d reads

-- a digit's object character is read as the digit from cards and keys too
pub num_of-object_char : (d : Digit) → IsGood d → num_of (object_char d) ≡ Some d
num_of-object_char d good = num_of-object_digit (object_char d) d (object_digit-object_char d good)

-- the character that is typed for what was read
abbrev typed_back : ℕ → Option Digit → ℕ
typed_back c (Some d) = object_char d
typed_back c None = c

-- it is the character
each_char : (c : ℕ) → c < 256 → typed_back c (object_digit c) ≡ c
unfolding digit_in char_in
each_char c below = same_below (λ c. typed_back c (object_digit c)) (λ c. c) 256 c 0 refl below

-- an object character is the one of its digit
pub object_char-object_digit : (c : ℕ) (d : Digit) → c < 256 → object_digit c ≡ Some d → object_char d ≡ c
object_char-object_digit c d below reads = ap (typed_back c) (sym reads) ∙ each_char c below

-- a blank is read as an unflagged zero
pub num_of-blank : num_of 32 ≡ Some (unflagged_digit 0)
unfolding digit_in
num_of-blank = refl

-- the character that is written for the pair that was read
abbrev written_back : ℕ → Option Pair → Option ℕ
written_back c (Some p) = punch_alpha p.zone p.number
written_back c None = Some c

-- it is the character
each_pair : (c : ℕ) → c < 256 → written_back c (alpha_of c) ≡ Some c
unfolding pair_in pair_char_in
each_pair c below = same_below (λ c. written_back c (alpha_of c)) (λ c. Some c) 256 c None refl below

-- a character that is read alphamerically is the one of its pair
pub punch_alpha-alpha_of : (c : ℕ) (p : Pair) → c < 256 → alpha_of c ≡ Some p → punch_alpha p.zone p.number ≡ Some c
punch_alpha-alpha_of c p below reads = ap (written_back c) (sym reads) ∙ each_pair c below

-- the pair that is read for the character that was written
abbrev pair_back : ℕ → ℕ → Option ℕ → Option Pair
pair_back z n (Some c) = alpha_of c
pair_back z n None = Some (record { zone = z; number = n })

-- it is the pair
each_number : (z n : ℕ) → z < 8 → n < 16 → pair_back z n (punch_alpha z n) ≡ Some (record { zone = z; number = n })
unfolding pair_in pair_char_in
each_number z n zone number =
    let all = same_below (λ k. pair_back (k / 16) (k % 16) (punch_alpha (k / 16) (k % 16))) (λ k. Some (record { zone = k / 16; number = k % 16 })) 128 (z * 16 + n) None refl (omega arith) in
    rw (div-mul-add z 16 n number, mod-mul-add z 16 n number) at all

-- within the table or not
pair_read : (b : Bool) (z n c : ℕ) → inside z n ≡ b → punch_alpha z n ≡ Some c → alpha_of c ≡ Some (record { zone = z; number = n })
pair_read true z n c is writes = ap (pair_back z n) (sym writes) ∙ each_number z n (grind (arith, nat_tests)) (grind (arith, nat_tests))
pair_read false z n c is writes = let none = outside pair_table z n refl is in cc

-- a character that a pair is written as is read as the pair
pub alpha_of-punch_alpha : (z n c : ℕ) → punch_alpha z n ≡ Some c → alpha_of c ≡ Some (record { zone = z; number = n })
alpha_of-punch_alpha z n c writes = pair_read (inside z n) z n c refl writes

-- one entry before the others, or none
with_blank : (b : Bool) (o : Option ℕ) → unwrap_or (if b then Some 32 else o) 32 ≡ (if b then 32 else unwrap_or o 32)
with_blank true o = refl
with_blank false o = refl

-- what is punched is the object character, or a blank
punch_cases : (d : Digit) → punch_num d ≡ (if same_digit (unflagged_digit 12) d then 32 else object_char d)
unfolding char_in
punch_cases d = with_blank (same_digit (unflagged_digit 12) d) (char_in object_table d)

-- a digit's punched character is read as the digit, if it isn't the blank for an unflagged numerical blank
pub num_of-punch_num : (d : Digit) → IsGood d → same_digit (unflagged_digit 12) d ≡ false → num_of (punch_num d) ≡ Some d
num_of-punch_num d good other = rw (punch_cases d, other) (num_of-object_char d good)
