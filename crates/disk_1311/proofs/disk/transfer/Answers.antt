use Rattle.std.proofs.Common.{refl, sym, ◌∙◌, arith, Ok, Err}
use Rattle.addr_indirect.specs.declared.Stop.TheVariants.{Address}
use Rattle.traces.specs.Trace.{ends}
use Rattle.disk_1311.specs.Sector.{alarm_first}
use Rattle.disk_1311.specs.Disk.{transfer, transfer_trace}
use Rattle.disk_1311.specs.declared.DiskIo.TheVariants as io
use Rattle.disk_1311.proofs.Checks.{looks_all, same_transfers}
use Rattle.disk_1311.proofs.Instructions.{transfer_stops, transfer_alarms, transfer_out, transfer_moves}
use Rattle.disk_1311.proofs.disk.transfer.Goals as goal
use Rattle.indicators.specs.Codes.{DISK_ADDRESS}

pub returns-in-Err : goal.returns-in-Err
returns-in-Err g c =
    let one = c.told-arms in
    let is = transfer_stops c.args.core.now c.args.at c.args.arms.now c.args.kind c.in-Err.stop (rw one c.in-Err.ensures.is) in
    looks_all (transfer c.args.kind c.args.core.now c.args.at c.args.arms.now) c.args.core.now c.args.panel.now (g.H.Host.seen c.args.host.now) (ends (Err c.in-Err.stop)) c.args.panel.now (io.Stop c.in-Err.stop) tt is (record { answers = refl; panel_is = refl })

pub returns-then-not-is_there : goal.returns-then-not-is_there
returns-then-not-is_there g c =
    let one = c.told-arms in
    let is = transfer_alarms c.args.core.now c.args.at c.args.arms.now c.in-Ok.control (rw one c.in-Ok.ensures.is) c.args.kind (sym c.is_there.ensures ∙ c.if-not-is_there.true) in
    looks_all (transfer c.args.kind c.args.core.now c.args.at c.args.arms.now) c.args.core.now c.args.panel.now (g.H.Host.seen c.args.host.now) (alarm_first DISK_ADDRESS (ends (Ok tt))) c.set.new.self io.Done tt is (record { answers = refl; panel_is = c.set.ensures })

pub returns-then-control-size : goal.returns-then-control-size
returns-then-control-size g c =
    let one = c.told-arms in
    let is = transfer_out c.args.core.now c.args.at c.args.arms.now c.in-Ok.control (rw one c.in-Ok.ensures.is) c.args.kind (sym c.is_there.ensures ∙ c.if-not-is_there.false) (omega arith) in
    looks_all (transfer c.args.kind c.args.core.now c.args.at c.args.arms.now) c.args.core.now c.args.panel.now (g.H.Host.seen c.args.host.now) (ends (Err Address)) c.args.panel.now (io.Stop Address) tt is (record { answers = refl; panel_is = refl })

pub returns-else-control-size : goal.returns-else-control-size
returns-else-control-size g c =
    let one = c.told-arms in
    let is = transfer_moves c.args.core.now c.args.at c.args.arms.now c.in-Ok.control (rw one c.in-Ok.ensures.is) c.args.kind (sym c.is_there.ensures ∙ c.if-not-is_there.false) (omega arith) in
    same_transfers (transfer c.args.kind c.args.core.now c.args.at c.args.arms.now) c.args.core.now c.args.panel.now (g.H.Host.seen c.args.host.now) (transfer_trace c.args.kind c.in-Ok.control c.args.core.now) c.move_sectors.new.core c.move_sectors.new.panel (g.H.Host.seen c.move_sectors.new.host) c.move_sectors.result is c.move_sectors.ensures
