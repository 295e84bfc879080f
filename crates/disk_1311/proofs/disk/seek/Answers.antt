use Rattle.std.proofs.Common.{refl}
use Rattle.disk_1311.proofs.Instructions.{seek_stops, seek_moves, seek_alarms}
use Rattle.disk_1311.proofs.disk.seek.Goals as goal

pub returns-then-control-lt-DRIVE_SECTORS : goal.returns-then-control-lt-DRIVE_SECTORS
returns-then-control-lt-DRIVE_SECTORS g c =
    let one = c.told-arms in
    let is = seek_moves c.args.core.now c.args.at c.args.arms.now c.in-Ok.control (rw one c.in-Ok.ensures.is) c.if-control-lt-DRIVE_SECTORS.true in
    rw (is, c.cylinder.ensures) (record { answers = refl; panel_is = refl; arms_are = refl })

pub returns-else-control-lt-DRIVE_SECTORS : goal.returns-else-control-lt-DRIVE_SECTORS
returns-else-control-lt-DRIVE_SECTORS g c =
    let one = c.told-arms in
    let is = seek_alarms c.args.core.now c.args.at c.args.arms.now c.in-Ok.control (rw one c.in-Ok.ensures.is) c.if-control-lt-DRIVE_SECTORS.false in
    rw is (record { answers = refl; panel_is = c.set.ensures; arms_are = refl })

pub returns-in-Err : goal.returns-in-Err
returns-in-Err g c =
    let one = c.told-arms in
    let is = seek_stops c.args.core.now c.args.at c.args.arms.now c.in-Err.stop (rw one c.in-Err.ensures.is) in
    rw is (record { answers = refl; panel_is = refl; arms_are = refl })
