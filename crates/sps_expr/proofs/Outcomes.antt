-- What a whole part comes to, from what is known of it so far and what follows.
use Rattle.std.specs.Prelude.{ℕ, ℤ, ◌+ℤ◌, Bool, ◌||◌, List, Option, Some, None, Result, Err}
use Rattle.std.specs.List.{list_any}
use Rattle.sps_ops.specs.declared.rule.Rule.{Rule}
use Rattle.sps_ops.specs.declared.rule.Rule.TheVariants.{BadExpression}
use Rattle.sps_expr.specs.declared.expression.PartialResult.{PartialResult}
use Rattle.sps_expr.specs.Grammar.{Factor}
use Rattle.sps_expr.specs.Reading.{Tail, tokens, tail_of, without_blanks}
use Rattle.sps_expr.specs.Value.{Scope, ◌>>=◌, number_in_range, is_undefined, comes_late, any_in_term, product, signed_value, total, value_answer}

-- some factor of what follows passes the test
abbrev pub any_more : (Factor → Bool) → Tail → Bool
any_more test tail = list_any test tail.factors || list_any (λ s. any_in_term test s.term) tail.terms

-- the value of the whole, where this follows
abbrev pub value_after : Scope → PartialResult → Tail → Option ℤ
value_after scope p tail = do
  so_far ← p.product
  sum ← p.sum
  v ← product scope so_far tail.factors
  next ← number_in_range (sum +ℤ signed_value p.minus v)
  total scope next tail.terms

-- some name of the whole is not defined, where this follows
abbrev pub undefined_after : Scope → PartialResult → Tail → Bool
undefined_after scope p tail = p.undefined || any_more (is_undefined scope) tail

-- some name of the whole is defined too late, where this follows
abbrev pub late_after : Scope → PartialResult → Tail → Bool
late_after scope p tail = p.late || any_more (comes_late scope) tail

-- what the whole comes to, where this follows
abbrev pub outcome_with : Scope → PartialResult → Option Tail → Result ℤ Rule
outcome_with scope p None = Err BadExpression
outcome_with scope p (Some tail) =
    value_answer (undefined_after scope p tail) (late_after scope p tail) (value_after scope p tail)

-- what the whole comes to, where this text is left
unfoldable pub outcome_from : Scope → PartialResult → List ℕ → Result ℤ Rule
outcome_from scope p rest = outcome_with scope p (tail_of (tokens (without_blanks rest)))
