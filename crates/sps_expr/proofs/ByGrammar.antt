-- The value of a part by its grammar alone.
use Rattle.std.proofs.Common.{◌≡◌, ℤ, ℕ, List, Result, Err, Some, None, ◌∙◌}
use Rattle.sps_ops.specs.declared.rule.Rule.{Rule}
use Rattle.sps_ops.specs.declared.rule.Rule.TheVariants.{BadExpression}
use Rattle.sps_expr.specs.Grammar.{Expr, IsReading}
use Rattle.sps_expr.specs.Reading.{reading, without_blanks}
use Rattle.sps_expr.specs.Value.{Scope, outcome, value_of}
use Rattle.sps_expr.proofs.Cases.{by_option}
use Rattle.sps_expr.proofs.Trees.{reading_is, is_reading}

module _ (scope : Scope) (part : List ℕ) where
  value_at : (e : Expr) → reading (without_blanks part) ≡ Some e → value_of scope part ≡ outcome scope e
  unfolding value_of
  value_at e r = rw r

  value_outside : reading (without_blanks part) ≡ None → value_of scope part ≡ Err BadExpression
  unfolding value_of
  value_outside r = rw r

  -- a tree of the grammar that is written as the part
  pub by_grammar : (r : Result ℤ Rule) → r ≡ value_of scope part → (e : Expr) → IsReading (without_blanks part) e → r ≡ outcome scope e
  by_grammar r v e reads = v ∙ value_at e (is_reading (without_blanks part) e reads)

  -- no tree of the grammar is
  pub outside_grammar : (r : Result ℤ Rule) → r ≡ value_of scope part → ((e : Expr) → ¬ IsReading (without_blanks part) e) → r ≡ Err BadExpression
  outside_grammar r v none = by_option (reading (without_blanks part))
      (λ absent. v ∙ value_outside absent)
      (λ e found. absurd (none e (reading_is (without_blanks part) e found)))
