use Rattle.std.proofs.Common.{◌∙◌, sym, ap, Option, option_map}
use Rattle.sps_scan.specs.Statement.{statement_text, statement_of}
use Rattle.sps_pass_one.specs.Layout.{PassStep, pass_step, state_before_next, statements, symbols_of}
use Rattle.sps_pass_one.proofs.Walking.{head_stays, ended_stays, passed, passed_less}
use Rattle.sps_listing.specs.Others.{number_and_rule}
use Rattle.sps_listing.proofs.Ahead.{begins, at_end, comes_here, next}
use Rattle.sps_listing.proofs.OtherStatements.{lost_in, none_lost, stops_here, goes_on, lost_is, symbols_are, names_it}
use Rattle.sps_listing.proofs.other_statement.lost_step.Goals as goal

pub loop-line-init : goal.loop-line-init
loop-line-init c = rw (c.new-walk.ensures, c.in_ok-symbols.ensures.symbols) (begins _ (lost_in c.args.head c.args.part.now (symbols_of c.args.source.now)) c.args.source.now)

pub loop-line-smaller : goal.loop-line-smaller
loop-line-smaller c = passed_less _ _ _ (passed _ _ _ c.in-Some.ensures.steps c.pass.new.self _ (ap statement_text c.of.ensures ∙ c.scan-s.ensures.is) c.pass.ensures)

pub returns-then-suffices : goal.returns-then-suffices
returns-then-suffices c =
    let a = c.loop-line.invariant in
    let t = c.in-Some.ensures.steps in
    let x = c.in-Some.line in
    let line = x.text.now in
    let s = statement_text c.scan-s.result in
    let number = a.number_is ∙ sym t.number in
    let head = a.head_is ∙ sym (head_stays _ _ _ t _ c.head-head_here.ensures) in
    let ended = a.ended_is ∙ sym (ended_stays _ _ _ t _ c.ended-ended.ensures) in
    let steps = statements (state_before_next a.st (statement_of line)) c.next.new.self.lines in
    let is_lost = lost_is a.st line x.number c.ended-ended.result c.head-head_here.result s c.label_columns-name.result.now number ended head c.scan-s.ensures.is c.label_columns-name.ensures c.has_lost_label-lost.result c.has_lost_label-lost.ensures in
    let symbols = symbols_are a.st line x.number c.ended-ended.result c.head-head_here.result s c.label_columns-name.result.now number ended head c.scan-s.ensures.is c.label_columns-name.ensures c.has_lost_label-lost.result c.loop-line.symbols c.define_lost.new.symbols c.in_ok-define_lost.ensures in
    let stops = stops_here c.args.head c.args.part.now c.loop-line.symbols (pass_step a.st line) steps c.has_lost_label-lost.result c.define_lost.new.symbols is_lost symbols (sym c.suffices.ensures ∙ c.if-suffices.true) in
    let e = sym stops ∙ comes_here _ _ _ _ a line _ t.line in
    let names = names_it a.st line x.number c.ended-ended.result c.head-head_here.result s c.label_columns-name.result.now number ended head c.scan-s.ensures.is c.label_columns-name.ensures in
    rw (c.line_rule.ensures, ← names) (ap (λ (x : Option PassStep). option_map number_and_rule x) e)

pub loop-line-preserved : goal.loop-line-preserved
loop-line-preserved c =
    let a = c.loop-line.invariant in
    let t = c.in-Some.ensures.steps in
    let x = c.in-Some.line in
    let line = x.text.now in
    let s = statement_text c.scan-s.result in
    let number = a.number_is ∙ sym t.number in
    let head = a.head_is ∙ sym (head_stays _ _ _ t _ c.head-head_here.ensures) in
    let ended = a.ended_is ∙ sym (ended_stays _ _ _ t _ c.ended-ended.ensures) in
    let passes = passed _ _ _ t c.pass.new.self _ (ap statement_text c.of.ensures ∙ c.scan-s.ensures.is) c.pass.ensures in
    let steps = statements (state_before_next a.st (statement_of line)) c.pass.new.self.lines in
    let is_lost = lost_is a.st line x.number c.ended-ended.result c.head-head_here.result s c.label_columns-name.result.now number ended head c.scan-s.ensures.is c.label_columns-name.ensures c.has_lost_label-lost.result c.has_lost_label-lost.ensures in
    let symbols = symbols_are a.st line x.number c.ended-ended.result c.head-head_here.result s c.label_columns-name.result.now number ended head c.scan-s.ensures.is c.label_columns-name.ensures c.has_lost_label-lost.result c.loop-line.symbols c.define_lost.new.symbols c.in_ok-define_lost.ensures in
    let same = goes_on c.args.head c.args.part.now c.loop-line.symbols (pass_step a.st line) steps c.has_lost_label-lost.result c.define_lost.new.symbols is_lost symbols (sym c.suffices.ensures ∙ c.if-suffices.false) in
    rw passes.behind (next _ _ _ _ a line _ passes.front (lost_in c.args.head c.args.part.now c.define_lost.new.symbols) same)

pub returns : goal.returns
returns c =
    let e = sym (none_lost c.args.head c.args.part.now c.loop-line.symbols) ∙ at_end _ _ _ _ c.loop-line.invariant c.in_default.ensures.steps.none in
    ap (λ (x : Option PassStep). option_map number_and_rule x) e
