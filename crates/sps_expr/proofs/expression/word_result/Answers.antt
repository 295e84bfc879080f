use Rattle.std.proofs.Common.{◌∙◌, sym, ap, rules, Some, SFits, w64}
use Rattle.std.specs.Option.{option_map}
use Rattle.std.proofs.lemmas.Int.{to_z-of_z}
use Rattle.sps_expr.specs.Value.{scope_now}
use Rattle.sps_expr.proofs.Values.{result_of, found_result, long_result}
use Rattle.sps_expr.proofs.expression.word_result.Goals as goal

pub returns-then-word-2 : goal.returns-then-word-2
returns-then-word-2 c text w = long_result (scope_now c.args.scope.now) text (sym w.all_digits ∙ c.if-word.false) (sym w.long_is ∙ c.if-word-2.true)

pub returns-in-None : goal.returns-in-None
returns-in-None c text w =
    let found = found_result (scope_now c.args.scope.now) text c.as_slice.result.now c.find_word.result (sym w.all_digits ∙ c.if-word.false) (sym w.long_is ∙ c.if-word-2.false) (c.as_slice.ensures.value ∙ w.text_is) c.find_word.ensures in
    ap (option_map (result_of c.args.scope.now.before)) (sym (c.in_ok-find_word.was ∙ ap Some c.in-None.is)) ∙ found

pub returns-in-Some : goal.returns-in-Some
returns-in-Some c text w =
    let fits : SFits w64 c.in-Some.value = search rules in
    let found = found_result (scope_now c.args.scope.now) text c.as_slice.result.now c.find_word.result (sym w.all_digits ∙ c.if-word.false) (sym w.long_is ∙ c.if-word-2.false) (c.as_slice.ensures.value ∙ w.text_is) c.find_word.ensures in
    rw (c.number_in_range-in-Some.ensures, to_z-of_z w64 c.in-Some.value fits, c.is_late.ensures) (ap (option_map (result_of c.args.scope.now.before)) (sym (c.in_ok-find_word.was ∙ ap Some c.in-Some.is)) ∙ found)
