use Rattle.std.proofs.Common.{◌∙◌, sym, ap}
use Rattle.sps_listing.specs.Others.{head_in_steps}
use Rattle.sps_scan.specs.Statement.{statement_text, statement_of}
use Rattle.sps_pass_one.specs.Layout.{state_before_next, statements}
use Rattle.sps_pass_one.proofs.Walking.{head_stays, passed, passed_less}
use Rattle.sps_listing.proofs.Ahead.{begins, at_end, comes_here, next}
use Rattle.sps_listing.proofs.OtherStatements.{head_here, head_later}
use Rattle.sps_listing.proofs.other_statement.head_at.Goals as goal

pub loop-line-init : goal.loop-line-init
loop-line-init c = rw c.new-walk.ensures (begins _ (head_in_steps c.args.statement) c.args.source.now)

pub loop-line-smaller : goal.loop-line-smaller
loop-line-smaller c = passed_less _ _ _ (passed _ _ _ c.in-Some.ensures.steps c.pass.new.self _ (ap statement_text c.of.ensures ∙ c.scan-s.ensures.is) c.pass.ensures)

pub returns-then-line-statement : goal.returns-then-line-statement
returns-then-line-statement c =
    let a = c.loop-line.invariant in
    let t = c.in-Some.ensures.steps in
    let line = c.in-Some.line.text.now in
    let steps = statements (state_before_next a.st (statement_of line)) c.next.new.self.lines in
    let head = head_stays _ _ _ t _ c.head.ensures in
    sym (head_here a.st line steps c.in-Some.line.number c.args.statement c.head.result (a.number_is ∙ sym t.number) (a.head_is ∙ sym head) c.if-line-statement.true)
    ∙ comes_here _ _ _ _ a line _ t.line

pub loop-line-preserved : goal.loop-line-preserved
loop-line-preserved c =
    let a = c.loop-line.invariant in
    let t = c.in-Some.ensures.steps in
    let line = c.in-Some.line.text.now in
    let passes = passed _ _ _ t c.pass.new.self _ (ap statement_text c.of.ensures ∙ c.scan-s.ensures.is) c.pass.ensures in
    let steps = statements (state_before_next a.st (statement_of line)) c.pass.new.self.lines in
    let same = head_later a.st line steps c.in-Some.line.number c.args.statement (a.number_is ∙ sym t.number) c.if-line-statement.false in
    rw passes.behind (next _ _ _ _ a line _ passes.front (head_in_steps c.args.statement) same)

pub returns : goal.returns
returns c = at_end _ _ _ _ c.loop-line.invariant c.in_default.ensures.steps.none
