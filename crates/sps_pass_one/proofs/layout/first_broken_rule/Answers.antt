use Rattle.std.proofs.Common.{◌∙◌, sym, ap, arith, Option, option_map}
use Rattle.sps_scan.specs.Statement.{statement_text}
use Rattle.sps_pass_one.specs.Layout.{Refusal, statement_and_rule}
use Rattle.sps_pass_one.proofs.Walking.{head_stays, ended_stays, passed, passed_less}
use Rattle.sps_pass_one.proofs.Following.{starts_alone, first_place, no_place, is_some_place, comes_here, next, none_left, same_faults}
use Rattle.sps_pass_one.proofs.layout.first_broken_rule.Goals as goal

pub loop-line-smaller : goal.loop-line-smaller
loop-line-smaller c = passed_less _ _ _ (passed _ _ _ c.in-Some.ensures.steps c.pass.new.self _ (ap statement_text c.of-s.ensures ∙ c.scan-scanned.ensures.is) c.pass.ensures)

pub loop-line-init : goal.loop-line-init
loop-line-init c = rw (c.new-walk.ensures, c.requires.symbols) (starts_alone _ c.args.source.now c.as_slice-places.result.now (c.as_slice-places.ensures ∙ c.requires.places))

pub unreachable-requires : goal.unreachable-requires
unreachable-requires c = is_some_place _ _ _ _ _ _ c.loop-line.invariant c.in-Some.line.text.now _ c.in-Some.ensures.steps.line c.in_default-places.len_below

pub returns-in-Some-faults : goal.returns-in-Some-faults
returns-in-Some-faults c =
    let f = c.loop-line.invariant in
    let t = c.in-Some.ensures.steps in
    let places = first_place c.loop-line.places.now no_place (omega arith) in
    let r = same_faults _ _ _ _ _ _ f c.in-Some.line.text.now _ t.line _ _ places _ _ _ _ c.layout_faults-faults.result t.number (ended_stays _ _ _ t _ c.ended-ended.ensures) (head_stays _ _ _ t _ c.head-head.ensures) (ap statement_text c.of-s.ensures ∙ c.scan-scanned.ensures.is) c.layout_faults-faults.ensures in
    let here = rw c.in-Some-faults.is at (comes_here _ _ _ _ _ _ f c.in-Some.line.text.now _ t.line _ _ places c.layout_faults-faults.result r) in
    rw t.number (ap (λ (r : Option Refusal). option_map statement_and_rule r) here)

pub loop-line-preserved : goal.loop-line-preserved
loop-line-preserved c =
    let f = c.loop-line.invariant in
    let t = c.in-Some.ensures.steps in
    let places = first_place c.loop-line.places.now no_place (omega arith) in
    let passes = passed _ _ _ t c.pass.new.self _ (ap statement_text c.of-s.ensures ∙ c.scan-scanned.ensures.is) c.pass.ensures in
    let r = same_faults _ _ _ _ _ _ f c.in-Some.line.text.now _ passes.front _ _ places _ _ _ _ c.layout_faults-faults.result t.number (ended_stays _ _ _ t _ c.ended-ended.ensures) (head_stays _ _ _ t _ c.head-head.ensures) (ap statement_text c.of-s.ensures ∙ c.scan-scanned.ensures.is) c.layout_faults-faults.ensures in
    rw passes.behind (next _ _ _ _ _ _ f c.in-Some.line.text.now _ passes.front _ _ places c.layout_faults-faults.result r c.in_default-faults.is)

pub returns : goal.returns
returns c = ap (λ (r : Option Refusal). option_map statement_and_rule r) (sym (none_left _ _ _ _ _ c.loop-line.invariant c.in_default.ensures.steps.none))
