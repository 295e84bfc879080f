use Rattle.std.proofs.Common.{◌∙◌}
use Rattle.sps_expr.specs.Value.{scope_now}
use Rattle.sps_expr.proofs.Values.{behind_sign}
use Rattle.sps_expr.proofs.ByGrammar.{by_grammar, outside_grammar}
use Rattle.sps_expr.proofs.scope.Scope.value.Goals as goal

pub returns-clause-is : goal.returns-clause-is
returns-clause-is c =
    let scope = scope_now c.args.self.now in
    let e = c.outcome_behind_sign.ensures in
    e ∙ behind_sign scope c.args.part.now _ _ c.leading_sign-minus.ensures

pub returns-clause-grammar : goal.returns-clause-grammar
returns-clause-grammar c =
    let scope = scope_now c.args.self.now in
    let e = c.outcome_behind_sign.ensures in
    by_grammar scope c.args.part.now _ (e ∙ behind_sign scope c.args.part.now _ _ c.leading_sign-minus.ensures)

pub returns-clause-outside : goal.returns-clause-outside
returns-clause-outside c =
    let scope = scope_now c.args.self.now in
    let e = c.outcome_behind_sign.ensures in
    outside_grammar scope c.args.part.now _ (e ∙ behind_sign scope c.args.part.now _ _ c.leading_sign-minus.ensures)
