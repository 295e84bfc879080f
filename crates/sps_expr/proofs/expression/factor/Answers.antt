use Rattle.std.proofs.Common.{◌∙◌, sym, ap, arith, refl, rules, w64, SFits}
use Rattle.std.proofs.lemmas.Bool.Decides.{nat_tests}
use Rattle.std.proofs.lemmas.Int.{to_z-of_z}
use Rattle.sps_expr.specs.Grammar.{Here}
use Rattle.sps_expr.specs.Reading.{without_blanks, tokens, Mark}
use Rattle.sps_expr.specs.Steps.{first_factor, run}
use Rattle.sps_expr.specs.Value.{scope_now}
use Rattle.sps_expr.proofs.Fronts.{front_is, nothing_left, rest_of, mark_tokens, first_mark, first_nothing, rest_shorter}
use Rattle.sps_expr.proofs.Values.{takes_word, no_word}
use Rattle.sps_expr.proofs.expression.factor.Goals as goal

pub returns-in_default-clause-none : goal.returns-in_default-clause-none
returns-in_default-clause-none c = ap (λ p. first_factor (tokens p)) (sym c.skip_blanks-text.ensures.same) ∙ first_nothing c.skip_blanks-text.result.now (nothing_left c.skip_blanks-text.result.now (omega arith))

pub returns-then-first-eq42-clause-some : goal.returns-then-first-eq42-clause-some
returns-then-first-eq42-clause-some c =
    let e = front_is c.skip_blanks-text.result.now 42 (omega arith) c.skip_blanks-text.ensures.no_blank c.if-first-eq42.true in
    let fits : SFits w64 c.args.scope.now.here = search rules in
    record {
      token = Mark 42;
      factor = Here;
      front = ap tokens (sym c.skip_blanks-text.ensures.same ∙ e) ∙ mark_tokens 42 (without_blanks (rest_of c.skip_blanks-text.result.now)) refl;
      good = refl;
      comes_to = rw (c.number_in_range.ensures, to_z-of_z w64 c.args.scope.now.here fits);
      shorter = (let s = rest_shorter c.skip_blanks-text.result.now (omega arith) in omega arith);
    }

pub returns-then-not-is_run_byte-clause-none : goal.returns-then-not-is_run_byte-clause-none
returns-then-not-is_run_byte-clause-none c =
    let e = front_is c.skip_blanks-text.result.now _ (omega arith) c.skip_blanks-text.ensures.no_blank refl in
    ap (λ p. first_factor (tokens p)) (sym c.skip_blanks-text.ensures.same) ∙ first_mark c.skip_blanks-text.result.now _ _ e (sym c.is_run_byte.ensures ∙ c.if-not-is_run_byte.true) (grind (arith, nat_tests))

pub returns-in_err-found-clause-none : goal.returns-in_err-found-clause-none
returns-in_err-found-clause-none c =
    let e = front_is c.skip_blanks-text.result.now _ (omega arith) c.skip_blanks-text.ensures.no_blank refl in
    let none = no_word (scope_now c.args.scope.now) c.skip_blanks-text.result.now _ _ e (sym c.is_run_byte.ensures ∙ c.if-not-is_run_byte.false) (sym c.in_err-found.was ∙ c.word_result.ensures (run (without_blanks c.skip_blanks-text.result.now)) c.front_word-word.ensures.word) in
    rw c.from_residual.ensures (ap (λ p. first_factor (tokens p)) (sym c.skip_blanks-text.ensures.same) ∙ none)

pub returns-clause-some : goal.returns-clause-some
returns-clause-some c =
    let e = front_is c.skip_blanks-text.result.now _ (omega arith) c.skip_blanks-text.ensures.no_blank refl in
    takes_word (scope_now c.args.scope.now) c.args.text.now c.skip_blanks-text.result.now c.front_word-word.result.1.now _ _ c.in_ok-found.found c.skip_blanks-text.ensures.same e (sym c.is_run_byte.ensures ∙ c.if-not-is_run_byte.false) c.front_word-word.ensures.rest (omega arith) (sym c.in_ok-found.was ∙ c.word_result.ensures (run (without_blanks c.skip_blanks-text.result.now)) c.front_word-word.ensures.word)
