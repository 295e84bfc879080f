use Rattle.std.proofs.Common.{◌≡◌, length, rules}
use Rattle.sps_pass_two.specs.Types.{run_of}
use Rattle.disk_loader.proofs.Texts.{laid_first, laid_on, laid_all, reach_is}
use Rattle.disk_loader.proofs.hundreds.lay.Goals as goal

pub loop-a-init : goal.loop-a-init
loop-a-init c = rw c.max-low.ensures (laid_first (run_of c.args.piece.now) c.args.from c.args.text.now)

pub loop-a-preserved : goal.loop-a-preserved
loop-a-preserved c =
    let long : length c.loop-a.text ≡ 100 = search rules in
    rw c.object_char.ensures
    (laid_on (run_of c.args.piece.now) c.args.from c.loop-a.a c.args.text.now c.loop-a.text _ long (search rules) (search rules) (search rules) c.loop-a.invariant)

pub returns-clause-text : goal.returns-clause-text
returns-clause-text c = laid_all (run_of c.args.piece.now) c.args.from c.loop-a.a c.args.text.now c.loop-a.text (search rules) c.loop-a.invariant

pub returns-clause-reaches : goal.returns-clause-reaches
returns-clause-reaches c = rw (c.max-low.ensures, c.min-high.ensures, c.as_slice-digits.ensures) (reach_is (run_of c.args.piece.now) c.args.from)
