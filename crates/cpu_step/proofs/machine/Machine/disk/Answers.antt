use Rattle.std.proofs.Common.{refl}
use Rattle.cpu_step.specs.Act.{on_disk}
use Rattle.cpu_step.proofs.DiskRows.{seek_acts, transfer_acts}
use Rattle.cpu_step.proofs.machine.Machine.disk.Goals as goal

pub returns-in-Seek : goal.returns-in-Seek
unfolding on_disk
returns-in-Seek g c = rw (c.in-Seek.is, c.disk_outcome.ensures) (seek_acts g.row.M c.args.self.now _ (g.H.Host.seen c.args.host.now) refl refl refl refl c.args.p refl c.args.regs c.seek.result c.requires.regs c.seek.ensures)

pub returns-in-Transfer : goal.returns-in-Transfer
unfolding on_disk
returns-in-Transfer g c = rw (c.in-Transfer.is, c.disk_outcome-in-Transfer.ensures) (transfer_acts g.row.M c.args.self.now _ _ refl refl refl refl _ c.in-Transfer.kind c.args.p refl c.args.regs c.transfer.result c.requires.regs c.transfer.ensures)
