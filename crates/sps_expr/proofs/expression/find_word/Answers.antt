use Rattle.std.proofs.Common.{◌∙◌, sym, ap, arith}
use Rattle.sps_expr.specs.Steps.{symbol_at}
use Rattle.sps_expr.specs.Value.{scope_now}
use Rattle.sps_expr.proofs.Words.{no_name, name_at_front, name_alone, name_headed, name_plain}
use Rattle.sps_expr.proofs.expression.find_word.Goals as goal

pub returns-in_default : goal.returns-in_default
returns-in_default c = ap (symbol_at (scope_now c.args.scope.now)) (no_name c.args.word.now (omega arith))

pub returns-then-first-eq36 : goal.returns-then-first-eq36
returns-then-first-eq36 c = c.find_headed.ensures ∙ ap (symbol_at (scope_now c.args.scope.now)) (sym (name_at_front c.args.word.now (omega arith) c.if-first-eq36.true))

pub returns-in_default-behind : goal.returns-in_default-behind
returns-in_default-behind c = c.find_plain.ensures ∙ ap (symbol_at (scope_now c.args.scope.now)) (sym (name_alone c.args.word.now (omega arith) c.if-first-eq36.false (omega arith)))

pub returns-then-second-eq36 : goal.returns-then-second-eq36
returns-then-second-eq36 c = c.find_headed-then-second-eq36.ensures ∙ ap (symbol_at (scope_now c.args.scope.now)) (sym (name_headed c.args.word.now (omega arith) c.if-first-eq36.false (omega arith) c.if-second-eq36.true))

pub returns : goal.returns
returns c = c.find_plain-2.ensures ∙ ap (symbol_at (scope_now c.args.scope.now)) (sym (name_plain c.args.word.now (omega arith) c.if-first-eq36.false (omega arith) c.if-second-eq36.false))
