-- The digit that a run has at an address.
use Rattle.std.proofs.Common.{ℕ, ◌≡◌, ◌+◌, ◌-◌, ◌<◌, ◌≤◌, ◌⊎◌, ◌&&◌, nat_le, nat_lt, inl, inr, true, false, length, get_or, Some, None, arith}
use Rattle.std.proofs.lemmas.Bool.Decides.{nat_tests}
use Rattle.digit_core.specs.Cell.{unflagged_digit}
use Rattle.sps_pass_two.specs.Image.{DigitRun, digit_at}

pub outside : (g : DigitRun) (a : ℕ) → (a < g.from) ⊎ (g.from + length g.digits ≤ a) → digit_at g a ≡ None
unfolding digit_at
outside g a (inl h) = let t : (nat_le g.from a && nat_lt a (g.from + length g.digits)) ≡ false = grind (arith, nat_tests) in rw t
outside g a (inr h) = let t : (nat_le g.from a && nat_lt a (g.from + length g.digits)) ≡ false = grind (arith, nat_tests) in rw t

pub within : (g : DigitRun) (a : ℕ) → g.from ≤ a → a < g.from + length g.digits → digit_at g a ≡ Some (get_or g.digits (a - g.from) (unflagged_digit 0))
unfolding digit_at
within g a h l = let t : (nat_le g.from a && nat_lt a (g.from + length g.digits)) ≡ true = grind (arith, nat_tests) in rw t
