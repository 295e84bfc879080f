-- The statement with a number.
use Rattle.std.proofs.Common.{◌≡◌, ℕ, zero, suc, ◌<◌, ◌≤◌, List, [], ◌∷◌, length, map, refl, sym, ◌∙◌, ap, arith}
use Rattle.std.specs.Prelude.{get_or, Some, None, Result, Ok, Err, OkIff}
use Rattle.std.specs.Result.{result_ok}
use Rattle.sps_pass_two.specs.declared.assembled.Placed.{Placed}
use Rattle.sps_pass_two.specs.Making.{text_of_placed}
use Rattle.sps_pass_two.specs.Assembled.{PlacedText}
use Rattle.console_debug.specs.Places.{instruction_address, statement_address}

-- numbers begin at 1
pub no_number : (ps : List PlacedText) → statement_address ps 0 ≡ None
unfolding statement_address
no_number [] = refl
no_number (p ∷ ps) = refl

-- and end with the last statement
pub past_all : (ps : List Placed) (k : ℕ) → length ps ≤ k → statement_address (map text_of_placed ps) (suc k) ≡ None
unfolding statement_address
past_all [] k h = refl
past_all (p ∷ ps) zero h = absurd (omega arith)
past_all (p ∷ ps) (suc k) h = past_all ps k (omega arith)

-- each between is an element's
pub address_at : (ps : List Placed) (k : ℕ) (p : Placed) → k < length ps → p ≡ get_or ps k p → statement_address (map text_of_placed ps) (suc k) ≡ instruction_address (text_of_placed p)
unfolding statement_address
address_at [] k p h is = absurd (omega arith)
address_at (q ∷ qs) zero p h is = ap (λ x. instruction_address (text_of_placed x)) (sym is)
address_at (q ∷ qs) (suc k) p h is = address_at qs k p (omega arith) is

-- a number that was made one of another kind is the same
pub same_number : {E : Type 0} (r : Result ℕ E) (P : Type 0) (x y : ℕ) → OkIff r P x → Some y ≡ result_ok r → y ≡ x
same_number (Ok z) P x y is ok = let same : y ≡ z = cc in same ∙ is.1
same_number (Err e) P x y is ok = cc
