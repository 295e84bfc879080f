use Rattle.sps_pass_two.specs.Types.{run_of}
use Rattle.disk_loader.proofs.Texts.{LaidBelow}
use Rattle.disk_loader.proofs.hundreds.lay.Given as goal

abbrev pub invariant-loop-a : goal.invariant-loop-a
invariant-loop-a l = LaidBelow (run_of l.piece) l.from l.a l.fn.text l.text
