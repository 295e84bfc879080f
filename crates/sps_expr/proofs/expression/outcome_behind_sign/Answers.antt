use Rattle.std.proofs.Common.{◌∙◌, sym, arith, refl}
use Rattle.sps_expr.specs.Value.{scope_now}
use Rattle.sps_expr.specs.Steps.{sign_of}
use Rattle.sps_expr.proofs.Fronts.{front_is, nothing_left, rest_of, rest_shorter}
use Rattle.sps_expr.proofs.Values.{no_first_factor, first_of_all, comes_on, comes_no_factor, comes_no_operator, comes_at_end}
use Rattle.sps_expr.proofs.expression.outcome_behind_sign.Goals as goal

pub returns-in_default : goal.returns-in_default
returns-in_default c =
    let scope = scope_now c.args.scope.now in
    sym (no_first_factor scope (sign_of c.args.minus) c.args.text.now c.in_default.ensures.none)

pub loop-rest-init : goal.loop-rest-init
loop-rest-init c =
    let scope = scope_now c.args.scope.now in
    let t = c.in-Some.ensures.some in record {
      no_blank = c.skip_blanks-rest.ensures.no_blank;
      same = (first_of_all scope c.args.minus c.args.text.now c.in-Some.behind.now c.skip_blanks-rest.result.now c.in-Some.first t c.skip_blanks-rest.ensures.same);
    }

pub returns-then-not-is_operator : goal.returns-then-not-is_operator
returns-then-not-is_operator c =
    let scope = scope_now c.args.scope.now in
    let e = front_is c.loop-rest.rest.now _ (omega arith) c.loop-rest.invariant.no_blank refl in
    let i = c.loop-rest.invariant.same in
    sym (comes_no_operator scope c.loop-rest.so_far c.loop-rest.rest.now (rest_of c.loop-rest.rest.now) _ e (sym c.is_operator.ensures ∙ c.if-not-is_operator.true)) ∙ i

pub returns-in_default-factor : goal.returns-in_default-factor
returns-in_default-factor c =
    let scope = scope_now c.args.scope.now in
    let e = front_is c.loop-rest.rest.now _ (omega arith) c.loop-rest.invariant.no_blank refl in
    let i = c.loop-rest.invariant.same in
    sym (comes_no_factor scope c.loop-rest.so_far c.loop-rest.rest.now (rest_of c.loop-rest.rest.now) _ e (sym c.is_operator.ensures ∙ c.if-not-is_operator.false) c.in_default-factor.ensures.none) ∙ i

pub loop-rest-preserved : goal.loop-rest-preserved
loop-rest-preserved c =
    let scope = scope_now c.args.scope.now in
    let e = front_is c.loop-rest.rest.now _ (omega arith) c.loop-rest.invariant.no_blank refl in
    let i = c.loop-rest.invariant.same in
    let t = c.in-Some-factor.ensures.some in
    let on = comes_on scope c.loop-rest.so_far c.loop-rest.rest.now (rest_of c.loop-rest.rest.now) c.in-Some-factor.behind.now c.skip_blanks-rest-in-len1-up.result.now _ c.in-Some-factor.next e (sym c.is_operator.ensures ∙ c.if-not-is_operator.false) t c.skip_blanks-rest-in-len1-up.ensures.same in
    record {
      no_blank = c.skip_blanks-rest-in-len1-up.ensures.no_blank;
      same = rw (c.with_factor-so_far.ensures) (sym on ∙ i);
    }

pub loop-rest-smaller : goal.loop-rest-smaller
loop-rest-smaller c =
    let s = rest_shorter c.loop-rest.rest.now (omega arith) in
    let t = c.in-Some-factor.ensures.some.shorter in
    omega arith

pub returns : goal.returns
returns c =
    let scope = scope_now c.args.scope.now in
    let i = c.loop-rest.invariant.same in
    c.answer_so_far.ensures ∙ (sym (comes_at_end scope c.loop-rest.so_far c.loop-rest.rest.now (nothing_left c.loop-rest.rest.now (omega arith))) ∙ i)
