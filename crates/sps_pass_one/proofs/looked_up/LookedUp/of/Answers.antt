use Rattle.std.proofs.Common.{◌≡◌, ℕ, ◌==◌, true, List, [], ◌∷◌, length, refl, sym, ◌∙◌, arith}
use Rattle.std.specs.Prelude.{None}
use Rattle.line_words.specs.Rows.{value_by_name}
use Rattle.sps_ops.specs.Operations.{lookup}
use Rattle.sps_pass_one.proofs.looked_up.LookedUp.of.Goals as goal
use Rattle.sps_pass_one.proofs.looked_up.LookedUp.of.Goals.{then-is_empty, else-is_empty}

-- no operation has an empty name
unnamed : lookup [] ≡ None
unfolding value_by_name
unnamed = refl

without_name : (name : List ℕ) → true ≡ (length name == 0) → None ≡ lookup name
without_name [] empty = sym unnamed
without_name (c ∷ cs) empty = grind (arith, empty)

pub invariant_of-result : goal.invariant_of-result
invariant_of-result c = record { named = elim c.if-is_empty.branch [ then-is_empty w ↦ w.operation-is ∙ without_name _ w.if-is_empty.ensures | else-is_empty w ↦ w.operation-is ∙ w.lookup-operation.ensures.is ] }
