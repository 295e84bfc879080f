-- Object characters are below 128.
use Rattle.std.proofs.Common.{◌≡◌, ℕ, ◌<◌, Bool, true, false, refl, arith}
use Rattle.std.proofs.lemmas.Bool.Decides.{nat_tests}
use Rattle.std.specs.Prelude.{if◌then◌else◌, nat_lt}
use Rattle.digit_core.specs.declared.Digit.{Digit}
use Rattle.digit_core.specs.Cell.{IsGood, is_cell_value}
use Rattle.digit_core.proofs.Below.{same_below}
use Rattle.card_code.specs.Characters.{object_char, char_in}

-- the character of a digit that a cell can hold is below 128
abbrev is_low : Bool → ℕ → Bool
is_low flag v = if is_cell_value v then nat_lt (object_char (record { flag = flag; value = v })) 128 else true

each_low : (flag : Bool) (v : ℕ) → v < 16 → is_low flag v ≡ true
unfolding char_in
each_low true v below = same_below (is_low true) (λ v. true) 16 v true refl below
each_low false v below = same_below (is_low false) (λ v. true) 16 v true refl below

pub object_char_low : (d : Digit) → IsGood d → object_char d < 128
object_char_low d good = let low = each_low d.flag d.value (grind (arith, nat_tests)) in let is : nat_lt (object_char d) 128 ≡ true = rw good at low in grind (arith, nat_tests)
