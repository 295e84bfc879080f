use Rattle.std.proofs.Common.{◌≡◌, ◌+◌, ◌-◌, ◌≤◌, length}
use Rattle.disk_loader.specs.Writes.{image_sectors, needed_sectors}
use Rattle.disk_loader.proofs.writing.sector_count.Given as goal

abbrev pub invariant-loop-h : goal.invariant-loop-h
invariant-loop-h l =
    (l.count ≤ l.h)
    × (l.count + length (needed_sectors l.assembled.image.pieces l.h (600 - l.h)) ≡ length (image_sectors l.assembled.image.pieces))
