use Rattle.std.proofs.Common.{◌≡◌, length}
use Rattle.disk_loader.proofs.Texts.{BeneathSoFar}
use Rattle.disk_loader.proofs.hundreds.beneath.Given as goal

abbrev pub invariant-loop-i : goal.invariant-loop-i
invariant-loop-i l = (length l.text ≡ 100) × BeneathSoFar l.from l.text l.i
