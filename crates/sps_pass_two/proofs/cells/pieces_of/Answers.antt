use Rattle.std.proofs.Common.{◌∙◌, ◌++◌, sym, ap, arith, length, map, append_assoc}
use Rattle.std.proofs.lemmas.List.{map-append, append-nil}
use Rattle.sps_pass_two.specs.Types.{run_of}
use Rattle.sps_pass_two.proofs.Runs.{skipped, taken, fits, pieces_end}
use Rattle.sps_pass_two.proofs.cells.pieces_of.Goals as goal

pub loop-a-preserved-then-n-eq0 : goal.loop-a-preserved-then-n-eq0
loop-a-preserved-then-n-eq0 c =
    let i = c.loop-a.invariant in
    let n = c.len-n.ensures ∙ (c.in_ok-digits.digits.ok.0 ∙ ap length c.in_ok-digits.ensures) in
    record { inside = omega arith; whole = ap (λ ps. map run_of c.loop-a.found.items ++ ps) (sym (skipped c.args.image.now c.loop-a.a c.len-n.result c.loop-a-test.true n c.if-n-eq0.true)) ∙ i.whole }

pub loop-a-preserved : goal.loop-a-preserved
loop-a-preserved c =
    let i = c.loop-a.invariant in
    let n = c.len-n.ensures ∙ (c.in_ok-digits.digits.ok.0 ∙ ap length c.in_ok-digits.ensures) in
    let t = taken c.args.image.now c.loop-a.a c.len-n.result c.loop-a-test.true n c.in_ok-digits.digits.items c.in_ok-digits.ensures (omega arith) in
    let w = rw t at i.whole in
    record { inside = fits c.args.image.now c.loop-a.a c.len-n.result c.loop-a-test.true n; whole = rw (c.in_ok-push.ensures.items, map-append, append_assoc, c.from_vec.ensures) w }

pub returns : goal.returns
returns c =
    let w = rw (pieces_end c.args.image.now c.loop-a.a c.loop-a-test.false) at c.loop-a.invariant.whole in
    c.from_vec-2.ensures ∙ (sym (append-nil (map run_of c.loop-a.found.items)) ∙ w)
