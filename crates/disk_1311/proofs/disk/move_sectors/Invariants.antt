use Rattle.std.proofs.Common.{◌≡◌, ◌≤◌, ◌+◌, length}
use Rattle.disk_1311.specs.Disk.{transfer_trace}
use Rattle.disk_1311.proofs.Transfers.{Going}
use Rattle.disk_1311.proofs.disk.move_sectors.Given as goal

abbrev pub invariant-loop-sector : goal.invariant-loop-sector
invariant-loop-sector g l = record {
  within : l.a ≤ l.size;
  long : length l.core ≡ l.size;
  going : Going l.kind l.control.drive l.cylinder (l.control.sector + l.control.count) l.core l.a l.sector l.panel (g.H.Host.seen l.host) (transfer_trace l.kind l.control l.initial.core) l.initial.core l.initial.panel (g.H.Host.seen l.initial.host);
}
