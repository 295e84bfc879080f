use Rattle.disk_loader.proofs.WrittenSectors.{SoFar}
use Rattle.disk_loader.proofs.writing.write_sectors.Given as goal

abbrev pub invariant-loop-h : goal.invariant-loop-h
invariant-loop-h g l = SoFar l.assembled.image.pieces l.h (g.H.Host.seen l.initial.host) (g.H.Host.seen l.host)
