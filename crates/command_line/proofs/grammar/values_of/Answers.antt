use Rattle.std.proofs.Common.{◌≡◌, ℕ, List, ap, sym, ◌∙◌, map, arith, rules}
use Rattle.std.proofs.lemmas.Bool.Decides.{nat_tests}
use Rattle.std.specs.Prelude.{Some, None, string_bytes}
use Rattle.command_line.specs.Given.{values_in}
use Rattle.command_line.specs.Reading.{Values}
use Rattle.command_line.specs.Words.{setting, with_one_setting}
use Rattle.command_line.proofs.Maps.{texts_in}
use Rattle.command_line.proofs.SettingWords.{collected_end, collected_odd, if_required, refused_two, set_once, words_collected, words_make}
use Rattle.command_line.proofs.grammar.values_of.Goals as goal

pub loop-rest-init : goal.loop-rest-init
loop-rest-init c =
    (ap (λ (values : Values). if_required c.args.command (words_collected c.args.command values (map string_bytes c.args.words.now))) c.new-values.ensures ∙ words_make c.args.command (map string_bytes c.args.words.now), c.new-values.result.whole)

pub loop-rest-preserved : goal.loop-rest-preserved
loop-rest-preserved c =
    let start = texts_in c.loop-rest.values.0 in
    let next : Some (values_in c.in-Some.more) ≡ with_one_setting start (setting c.args.command (string_bytes c.option-item.result) (string_bytes c.value-item.result)) =
    c.in-Some.ensures
    ∙ ap (λ (o : List ℕ). with_one_setting start (setting c.args.command o c.as_str-in-len2-up.result.now)) c.as_str.ensures.value
    ∙ ap (λ (v : List ℕ). with_one_setting start (setting c.args.command (string_bytes c.option-item.result) v)) c.as_str-in-len2-up.ensures.value in
    (ap (if_required c.args.command) (sym (set_once c.args.command start c.loop-rest.rest.now c.option-item.result c.value-item.result c.in-len2-up.len_at_least c.option-item.is c.value-item.is (values_in c.in-Some.more) next)) ∙ c.loop-rest.invariant.0, c.in-Some.more.whole)

pub returns-in-None : goal.returns-in-None
returns-in-None c =
    let start = texts_in c.loop-rest.values.0 in
    let next : None ≡ with_one_setting start (setting c.args.command (string_bytes c.option-item.result) (string_bytes c.value-item.result)) =
    c.in-None.ensures
    ∙ ap (λ (o : List ℕ). with_one_setting start (setting c.args.command o c.as_str-in-len2-up.result.now)) c.as_str.ensures.value
    ∙ ap (λ (v : List ℕ). with_one_setting start (setting c.args.command (string_bytes c.option-item.result) v)) c.as_str-in-len2-up.ensures.value in
    ap (if_required c.args.command) (sym (refused_two c.args.command start c.loop-rest.rest.now c.option-item.result c.value-item.result c.in-len2-up.len_at_least c.option-item.is c.value-item.is next)) ∙ c.loop-rest.invariant.0

pub returns-then-not-is_empty : goal.returns-then-not-is_empty
returns-then-not-is_empty c = collected_odd c.args.command (texts_in c.loop-rest.values.0) c.loop-rest.rest.now (grind (arith, nat_tests)) ∙ c.loop-rest.invariant.0

pub returns : goal.returns
returns c = collected_end c.args.command (texts_in c.loop-rest.values.0) c.loop-rest.rest.now (grind (arith, nat_tests)) (search rules) ∙ c.loop-rest.invariant.0
