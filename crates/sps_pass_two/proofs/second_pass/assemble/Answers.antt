use Rattle.std.proofs.Common.{◌∙◌, List, map, refl, sym, ap, arith, Option, option_map}
use Rattle.std.proofs.lemmas.List.{length-map}
use Rattle.sps_scan.specs.Statement.{statement_text}
use Rattle.sps_pass_one.specs.declared.fault.Fault.{Fault}
use Rattle.sps_pass_one.specs.Layout.{Refusal}
use Rattle.sps_pass_two.specs.Broken.{statement_and_fault}
use Rattle.sps_pass_one.proofs.Walking.{head_stays, ended_stays, passed, passed_less}
use Rattle.sps_pass_one.proofs.Following.{first_place, no_place, is_some_place, comes_here}
use Rattle.sps_pass_two.proofs.Refusing.{same_outcome, past_last}
use Rattle.sps_pass_two.specs.Image.{pieces_from}
use Rattle.sps_pass_two.specs.declared.assembled.Placed.{Placed}
use Rattle.sps_pass_two.specs.Making.{text_of_placed}
use Rattle.sps_pass_two.proofs.Assembling.{begins, goes_on, image_size}
use Rattle.sps_pass_two.proofs.Program.{finished, few_placed, is_image, is_program, within, start_fits}
use Rattle.sps_pass_two.proofs.second_pass.assemble.Goals as goal

pub loop-line-init : goal.loop-line-init
loop-line-init c =
    let m = c.in_ok-made.ensures in
    rw (c.new-walk.ensures, m.cells, m.start, m.placed) (begins _ c.args.positions c.args.source.now c.as_slice-places.result.now refl (c.as_slice-places.ensures ∙ c.in_ok-located.ensures.places))

pub loop-line-smaller : goal.loop-line-smaller
loop-line-smaller c = passed_less _ _ _ (passed _ _ _ c.in-Some.ensures.steps c.pass.new.self _ (ap statement_text c.of-s.ensures ∙ c.scan-scanned.ensures.is) c.pass.ensures)

pub unreachable-requires : goal.unreachable-requires
unreachable-requires c = is_some_place _ _ _ _ _ _ c.loop-line.invariant.follows c.in-Some.line.text.now _ c.in-Some.ensures.steps.line c.in_default-places.len_below

pub returns-in-Some-worst-clause-is : goal.returns-in-Some-worst-clause-is
returns-in-Some-worst-clause-is c =
    let f = c.loop-line.invariant.follows in
    let t = c.in-Some.ensures.steps in
    let head = head_stays _ _ _ t _ c.head-head.ensures in
    let ended = ended_stays _ _ _ t _ c.ended-ended.ensures in
    let places = first_place c.loop-line.places.now no_place (omega (arith, c.in-len1-up.len_at_least)) in
    let w = rw (c.in_ok-located.ensures.symbols, c.from-size.ensures, t.number, head, ended) at c.in_ok-outcome.ensures.worst in
    let r = same_outcome _ _ _ _ _ _ f c.in-Some.line.text.now _ t.line _ _ places _ (ap statement_text c.of-s.ensures ∙ c.scan-scanned.ensures.is) c.in_ok-outcome.outcome.worst w in
    let here = rw c.in-Some-worst.is at (comes_here _ _ _ _ _ _ f c.in-Some.line.text.now _ t.line _ _ places c.in_ok-outcome.outcome.worst r) in
    rw t.number (ap (λ (r : Option Refusal). option_map statement_and_fault r) (sym here))

pub loop-line-preserved : goal.loop-line-preserved
loop-line-preserved c =
    let g = c.loop-line.invariant in
    let t = c.in-Some.ensures.steps in
    let head = head_stays _ _ _ t _ c.head-head.ensures in
    let ended = ended_stays _ _ _ t _ c.ended-ended.ensures in
    let passes = passed _ _ _ t c.pass.new.self _ (ap statement_text c.of-s.ensures ∙ c.scan-scanned.ensures.is) c.pass.ensures in
    let places = first_place c.loop-line.places.now no_place (omega (arith, c.in-len1-up.len_at_least)) in
    let w = rw (c.in_ok-located.ensures.symbols, c.from-size.ensures, t.number, head, ended) at c.in_ok-outcome.ensures.worst in
    let d = rw (c.in_ok-located.ensures.symbols, c.from-size.ensures, t.number, head, ended) at c.in_ok-outcome.ensures.digits in
    let r = same_outcome _ _ _ _ _ _ g.follows c.in-Some.line.text.now _ passes.front _ _ places _ (ap statement_text c.of-s.ensures ∙ c.scan-scanned.ensures.is) c.in_ok-outcome.outcome.worst w in
    let start = rw (c.in_ok-located.ensures.symbols, head, ended) at c.in_ok-add.ensures.start in
    let placed = rw ended at c.in_ok-add.ensures.placed in
    let on = goes_on _ _ _ _ _ _ _ _ _ g c.in-Some.line.text.now _ passes.front _ _ places _ (ap statement_text c.of-s.ensures ∙ c.scan-scanned.ensures.is) c.in_ok-outcome.outcome.worst r c.in_default-worst.is c.in_ok-outcome.outcome.digits.items d _ start _ placed _ c.in_ok-add.ensures.cells in
    rw passes.behind on

pub returns-in-Some-end_faults-clause-is : goal.returns-in-Some-end_faults-clause-is
returns-in-Some-end_faults-clause-is c =
    let t = c.in_default.ensures.steps in
    let faults = rw (c.ended.ensures, t.stays) at c.end_faults.ensures in
    let past = past_last _ _ _ _ _ _ c.loop-line.invariant.follows t.none c.end_faults.result faults in
    rw (c.number.ensures, t.stays) (sym (ap (option_map (λ (h : Fault). (c.loop-line.walk.number, h))) (sym c.in-Some-end_faults.is) ∙ past))

pub assembled-requires : goal.assembled-requires
assembled-requires c =
    let t = c.in_default.ensures.steps in
    let faults = rw (c.ended.ensures, t.stays) at c.end_faults.ensures in
    let f = finished c.args.positions c.loop-line.walk c.loop-line.places.now c.args.source.now c.loop-line.made.start (map text_of_placed c.loop-line.made.placed.items) c.loop-line.made.cells.items c.loop-line.invariant t.none c.end_faults.result faults c.in_default-end_faults.is in
    let few = few_placed _ _ _ _ _ f in
    let placed = length-map c.loop-line.made.placed.items text_of_placed in
    record {
      size = rw (image_size _ _ _ _ _ _ _ _ _ c.loop-line.invariant) c.requires;
      kept = is_image c.args.positions c.args.source.now f.good c.requires c.loop-line.made.cells.items f.cells_are;
      program = is_program c.args.positions c.args.source.now f.good c.requires c.loop-line.made.cells.items f.cells_are c.loop-line.made.start f.start_is;
      few = omega (arith, few, placed);
    }

pub returns : goal.returns
returns c =
    let t = c.in_default.ensures.steps in
    let faults = rw (c.ended.ensures, t.stays) at c.end_faults.ensures in
    let f = finished c.args.positions c.loop-line.walk c.loop-line.places.now c.args.source.now c.loop-line.made.start (map text_of_placed c.loop-line.made.placed.items) c.loop-line.made.cells.items c.loop-line.invariant t.none c.end_faults.result faults c.in_default-end_faults.is in
    let a = c.in_ok-program.ensures in
    record {
      is = record {
        good = f.good;
        pieces_are = a.pieces ∙ ap (pieces_from 0) f.cells_are;
        start_is = a.start ∙ f.start_is;
        placed_are = ap (λ (ps : List Placed). map text_of_placed ps) a.placed ∙ f.placed_are;
      };
      within = record {
        pieces = rw a.pieces (within c.args.positions c.args.source.now f.good c.requires c.loop-line.made.cells.items f.cells_are);
        start = rw a.start (start_fits c.args.positions c.args.source.now f.good c.requires c.loop-line.made.cells.items f.cells_are c.loop-line.made.start f.start_is);
      };
    }
