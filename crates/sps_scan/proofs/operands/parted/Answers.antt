use Rattle.std.proofs.Common.{◌≡◌, ◌∙◌, ◌+◌, sym, ap, arith, length, map, true, false, is_some}
use Rattle.std.proofs.lemmas.List.{map-set, length-map, length-set}
use Rattle.sps_scan.specs.Columns.{has_comma}
use Rattle.sps_scan.specs.Statement.{now_of}
use Rattle.sps_scan.proofs.Parting.{finished, length_taken, past_on, ten_on, so_far_on, remark_on, parts_end, count_end, remark_end, parts_full, remark_full}
use Rattle.sps_scan.proofs.operands.parted.Goals as goal

pub returns-in-None-clause-parts : goal.returns-in-None-clause-parts
returns-in-None-clause-parts c =
    let i = c.loop-count.invariant in
    let no_comma : has_comma c.loop-count.rest.now ≡ false = sym c.split_comma.ensures.comma ∙ ap is_some c.in-None.is in
    let ten = length-map c.loop-count.parts now_of ∙ i.ten in
    rw (map-set, c.split_comma.ensures.before) (finished _ _ (c.loop-count.count + 1) (ten_on _ _ _ _ _ c.loop-count-test.true c.requires.ten ten i.so_far i.past i.remark _) (omega arith)
    (parts_end _ _ _ _ _ c.loop-count-test.true c.requires.ten ten i.so_far i.past i.remark no_comma)
    (past_on _ _ _ _ _ c.loop-count-test.true c.requires.ten ten i.so_far i.past i.remark _))

pub returns-in-None-clause-count : goal.returns-in-None-clause-count
returns-in-None-clause-count c =
    let i = c.loop-count.invariant in
    let no_comma : has_comma c.loop-count.rest.now ≡ false = sym c.split_comma.ensures.comma ∙ ap is_some c.in-None.is in
    let ten = length-map c.loop-count.parts now_of ∙ i.ten in
    count_end _ _ _ _ _ c.loop-count-test.true c.requires.ten ten i.so_far i.past i.remark no_comma

pub returns-in-None-clause-remark : goal.returns-in-None-clause-remark
returns-in-None-clause-remark c =
    let i = c.loop-count.invariant in
    let no_comma : has_comma c.loop-count.rest.now ≡ false = sym c.split_comma.ensures.comma ∙ ap is_some c.in-None.is in
    let ten = length-map c.loop-count.parts now_of ∙ i.ten in
    remark_end _ _ _ _ _ c.loop-count-test.true c.requires.ten ten i.so_far i.past i.remark no_comma

pub loop-count-preserved : goal.loop-count-preserved
loop-count-preserved c =
    let i = c.loop-count.invariant in
    let comma : has_comma c.loop-count.rest.now ≡ true = sym c.split_comma.ensures.comma ∙ ap is_some c.in-Some.is in
    let ten = length-map c.loop-count.parts now_of ∙ i.ten in
    let after = rw c.in-Some.is at c.split_comma.ensures.behind in
    record {
      in_most = omega arith;
      ten = length-set _ _ _ ∙ i.ten;
      so_far = rw (map-set, c.split_comma.ensures.before, after) (so_far_on _ _ _ _ _ c.loop-count-test.true c.requires.ten ten i.so_far i.past i.remark comma);
      past = rw (map-set, c.split_comma.ensures.before) (past_on _ _ _ _ _ c.loop-count-test.true c.requires.ten ten i.so_far i.past i.remark _);
      remark = rw after (remark_on _ _ _ _ _ c.loop-count-test.true c.requires.ten ten i.so_far i.past i.remark comma);
    }

pub returns-clause-parts : goal.returns-clause-parts
returns-clause-parts c =
    let i = c.loop-count.invariant in
    let ten = length-map c.loop-count.parts now_of ∙ i.ten in
    finished _ _ c.loop-count.count ten (omega arith) (parts_full c.args.most c.loop-count.count _ c.loop-count.rest.now c.args.text.now c.loop-count-test.false i.so_far) i.past

pub returns-clause-count : goal.returns-clause-count
returns-clause-count c =
    let i = c.loop-count.invariant in
    let ten = length-map c.loop-count.parts now_of ∙ i.ten in
    sym (length_taken (map now_of c.loop-count.parts) c.loop-count.count ten (omega arith)) ∙ ap length (parts_full c.args.most c.loop-count.count _ c.loop-count.rest.now c.args.text.now c.loop-count-test.false i.so_far)

pub returns-clause-remark : goal.returns-clause-remark
returns-clause-remark c =
    let i = c.loop-count.invariant in
    remark_full c.args.most c.loop-count.count (map now_of c.loop-count.parts) c.loop-count.rest.now c.args.text.now c.loop-count-test.false i.remark
