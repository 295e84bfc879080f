use Rattle.std.proofs.Common.{◌∙◌, sym, ap, arith, rules}
use Rattle.sps_scan.specs.Columns.{is_blank}
use Rattle.sps_scan.proofs.Statements.{by_length, by_comment, by_blank}
use Rattle.sps_scan.proofs.holds_nothing.Goals as goal

pub returns-then-is_comment : goal.returns-then-is_comment
returns-then-is_comment c = c.if-is_comment.true ∙ sym (by_comment c.args.card.now c.if-card-le80.true (sym c.is_comment.ensures ∙ c.if-is_comment.true))

pub returns-else-is_comment : goal.returns-else-is_comment
returns-else-is_comment c =
    c.is_blank.ensures ∙ (ap is_blank c.columns.ensures ∙ sym (by_blank c.args.card.now c.if-card-le80.true (sym c.is_comment.ensures ∙ c.if-is_comment.false)))

pub returns-else-card-le80 : goal.returns-else-card-le80
returns-else-card-le80 c = rw (by_length c.args.card.now (omega (arith, c.if-card-le80.false))) (search rules)
