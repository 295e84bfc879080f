use Rattle.std.proofs.Common.{◌∙◌, sym, subst, arith, refl}
use Rattle.std.proofs.lemmas.Bool.Decides.{nat_tests}
use Rattle.sps_expr.specs.Steps.{plus_sign, minus_sign, no_sign, IsUnsigned}
use Rattle.sps_expr.proofs.Fronts.{front_is, nothing_left}
use Rattle.sps_expr.proofs.expression.leading_sign.Goals as goal

pub returns-in_default : goal.returns-in_default
returns-in_default c =
    let e = sym c.skip_blanks-text.ensures.same in
    no_sign e (subst IsUnsigned (sym (e ∙ nothing_left c.skip_blanks-text.result.now (omega arith))) tt)

pub returns-then-first-eq43 : goal.returns-then-first-eq43
returns-then-first-eq43 c = plus_sign (sym c.skip_blanks-text.ensures.same ∙ front_is c.skip_blanks-text.result.now 43 (omega arith) c.skip_blanks-text.ensures.no_blank c.if-first-eq43.true)

pub returns-then-first-eq45 : goal.returns-then-first-eq45
returns-then-first-eq45 c = minus_sign (sym c.skip_blanks-text.ensures.same ∙ front_is c.skip_blanks-text.result.now 45 (omega arith) c.skip_blanks-text.ensures.no_blank c.if-first-eq45.true)

pub returns-else-first-eq45 : goal.returns-else-first-eq45
returns-else-first-eq45 c =
    let e = front_is c.skip_blanks-text.result.now _ (omega arith) c.skip_blanks-text.ensures.no_blank refl in
    no_sign (sym c.skip_blanks-text.ensures.same) (subst IsUnsigned (sym (sym c.skip_blanks-text.ensures.same ∙ e)) (grind (arith, nat_tests)))
