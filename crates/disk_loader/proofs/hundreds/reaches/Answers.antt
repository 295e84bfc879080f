use Rattle.sps_pass_two.specs.Types.{run_of}
use Rattle.disk_loader.proofs.Texts.{reach_is}
use Rattle.disk_loader.proofs.hundreds.reaches.Goals as goal

pub returns : goal.returns
returns c = rw (c.max-first.ensures, c.min-past.ensures, c.as_slice-digits.ensures) (reach_is (run_of c.args.piece.now) c.args.from)
