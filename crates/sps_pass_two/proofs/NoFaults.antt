-- What is known where there are no faults.
use Rattle.std.proofs.Common.{◌≡◌, ℕ, Bool, true, false, not, List, [], ◌∷◌, ◌++◌, refl}
use Rattle.sps_ops.specs.declared.rule.Rule.{Rule}
use Rattle.sps_pass_one.specs.declared.fault.Fault.{Fault}
use Rattle.sps_pass_one.specs.Faults.{broken_if, broken_at_if}

-- there are none in either part
pub nil_parts : (xs ys : List Fault) → xs ++ ys ≡ [] → (xs ≡ []) × (ys ≡ [])
nil_parts [] ys e = (refl, e)
nil_parts (x ∷ xs) ys e = absurd cc

-- and no test finds one
pub not_broken : (test : Bool) (rule : Rule) → broken_if test rule ≡ [] → test ≡ false
not_broken true rule e = absurd cc
not_broken false rule e = refl

pub not_broken_at : (test : Bool) (rule : Rule) (place : ℕ) → broken_at_if test rule place ≡ [] → test ≡ false
not_broken_at true rule place e = absurd cc
not_broken_at false rule place e = refl

pub negated : (b : Bool) → not b ≡ false → b ≡ true
negated true e = refl
negated false e = absurd cc
