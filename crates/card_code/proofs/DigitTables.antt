-- The digits and the characters that the tables have.
use Rattle.std.proofs.Common.{◌≡◌, ℕ, ◌<◌, refl, sym, ◌∙◌, ap, None, Some, arith}
use Rattle.std.proofs.lemmas.Bool.Decides.{nat_tests}
use Rattle.std.specs.Prelude.{Bool, true, false, if◌then◌else◌, Option, IfSome}
use Rattle.digit_core.specs.declared.Digit.{Digit}
use Rattle.digit_core.specs.Cell.{IsGood, is_cell_value}
use Rattle.digit_core.proofs.Below.{same_below}
use Rattle.card_code.specs.Characters.{num_of, object_digit, object_char, punch_num, digit_in, char_in}
use Rattle.card_code.specs.Words.{digit_entry, char_entry}
use Rattle.card_code.specs.declared.tables.TheConstants.{OBJECT_CELLS, OBJECT_CHARS, NUM_CELLS, PUNCH_CHARS}

-- a digit of two parts
abbrev digit : Bool → ℕ → Digit
digit flag value = record { flag = flag; value = value }

-- a digit is one that a cell can hold
abbrev is_good : Option Digit → Bool
is_good (Some d) = is_cell_value d.value
is_good None = true

good_of : (o : Option Digit) → is_good o ≡ true → IfSome o IsGood
good_of (Some d) good = good
good_of None good = tt

-- the cells of the tables are the digits
object_is : (c : ℕ) → c < 256 → object_digit c ≡ digit_entry OBJECT_CELLS c
unfolding digit_in
object_is c below = same_below object_digit (digit_entry OBJECT_CELLS) 256 c None refl below

num_is : (c : ℕ) → c < 256 → num_of c ≡ digit_entry NUM_CELLS c
unfolding digit_in
num_is c below = same_below num_of (digit_entry NUM_CELLS) 256 c None refl below

pub object_found : (c : ℕ) (o : Option Digit) → c < 256 → o ≡ digit_entry OBJECT_CELLS c → o ≡ object_digit c
object_found c o below is = is ∙ sym (object_is c below)

pub num_found : (c : ℕ) (o : Option Digit) → c < 256 → o ≡ digit_entry NUM_CELLS c → o ≡ num_of c
num_found c o below is = is ∙ sym (num_is c below)

-- and each of them is good
pub object_good : (c : ℕ) (o : Option Digit) → c < 256 → o ≡ digit_entry OBJECT_CELLS c → IfSome o IsGood
object_good c o below is = good_of o (ap is_good is ∙ same_below (λ c. is_good (digit_entry OBJECT_CELLS c)) (λ c. true) 256 c true refl below)

pub num_good : (c : ℕ) (o : Option Digit) → c < 256 → o ≡ digit_entry NUM_CELLS c → IfSome o IsGood
num_good c o below is = good_of o (ap is_good is ∙ same_below (λ c. is_good (digit_entry NUM_CELLS c)) (λ c. true) 256 c true refl below)

-- a character by flag and value, at the values that a cell can hold
abbrev of_parts : (Digit → ℕ) → Bool → ℕ → ℕ
of_parts f flag v = if is_cell_value v then f (digit flag v) else 0

-- the tables have the characters at each flag and value
object_each : (flag : Bool) (v : ℕ) → v < 16 → of_parts object_char flag v ≡ of_parts (char_entry OBJECT_CHARS) flag v
unfolding char_in
object_each true v below = same_below (of_parts object_char true) (of_parts (char_entry OBJECT_CHARS) true) 16 v 0 refl below
object_each false v below = same_below (of_parts object_char false) (of_parts (char_entry OBJECT_CHARS) false) 16 v 0 refl below

punch_each : (flag : Bool) (v : ℕ) → v < 16 → of_parts punch_num flag v ≡ of_parts (char_entry PUNCH_CHARS) flag v
unfolding char_in
punch_each true v below = same_below (of_parts punch_num true) (of_parts (char_entry PUNCH_CHARS) true) 16 v 0 refl below
punch_each false v below = same_below (of_parts punch_num false) (of_parts (char_entry PUNCH_CHARS) false) 16 v 0 refl below

pub object_char_found : (d : Digit) → IsGood d → char_entry OBJECT_CHARS d ≡ object_char d
object_char_found d good = let parts = object_each d.flag d.value (grind (arith, nat_tests)) in sym (rw good at parts)

pub punch_num_found : (d : Digit) → IsGood d → char_entry PUNCH_CHARS d ≡ punch_num d
punch_num_found d good = let parts = punch_each d.flag d.value (grind (arith, nat_tests)) in sym (rw good at parts)
