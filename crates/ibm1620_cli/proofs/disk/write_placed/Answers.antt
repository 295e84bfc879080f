use Rattle.std.proofs.Common.{◌++◌, List}
use Rattle.outside_io.specs.declared.host.Unit.TheVariants as units
use Rattle.outside_io.specs.declared.whole.Sent.TheVariants as sent
use Rattle.outside_io.specs.Events.{Event, text_events}
use Rattle.ibm1620_cli.specs.DiskJob.{DiskPlacing, placing_with, sector_events}
use Rattle.ibm1620_cli.proofs.Writes.{text_does, stops_before, does_behind}
use Rattle.ibm1620_cli.proofs.Placings.{sectors_do, placed_binds}
use Rattle.ibm1620_cli.proofs.disk.write_placed.Goals as goal

abbrev deck : DiskPlacing → List Event
deck p = text_events units.Object p.deck

abbrev image : DiskPlacing → List Event
image p = text_events units.Image p.image

pub returns-in-Failed : goal.returns-in-Failed
returns-in-Failed g c =
    let old = g.H.Host.seen c.args.host.now in
    let new = g.H.Host.seen c.write_all.new.host in
    let p : DiskPlacing = placing_with c.args.object.now c.args.assembled.now in
    let does = stops_before (deck p) (image p ++ sector_events p.sectors) old new (text_does units.Object p.deck old new sent.Failed c.in-Failed.ensures) in
    record { does = does; stays = placed_binds p old new sent.Failed does }

pub returns-in-Done-image_text : goal.returns-in-Done-image_text
returns-in-Done-image_text g c =
    let old = g.H.Host.seen c.args.host.now in
    let mid = g.H.Host.seen c.write_all.new.host in
    let later = g.H.Host.seen c.image_text.new.host in
    let new = g.H.Host.seen c.write_sectors.new.host in
    let p : DiskPlacing = placing_with c.args.object.now c.args.assembled.now in
    let does =
    does_behind (deck p) (image p ++ sector_events p.sectors) old mid new c.write_sectors.result (text_does units.Object p.deck old mid sent.Done c.in-Done.ensures)
    (does_behind (image p) (sector_events p.sectors) mid later new c.write_sectors.result (text_does units.Image p.image mid later sent.Done c.in-Done-image_text.ensures)
    (sectors_do p.sectors later new c.write_sectors.result c.write_sectors.ensures)) in
    record { does = does; stays = placed_binds p old new c.write_sectors.result does }

pub returns-in-Failed-image_text : goal.returns-in-Failed-image_text
returns-in-Failed-image_text g c =
    let old = g.H.Host.seen c.args.host.now in
    let mid = g.H.Host.seen c.write_all.new.host in
    let new = g.H.Host.seen c.image_text.new.host in
    let p : DiskPlacing = placing_with c.args.object.now c.args.assembled.now in
    let does =
    does_behind (deck p) (image p ++ sector_events p.sectors) old mid new sent.Failed (text_does units.Object p.deck old mid sent.Done c.in-Done.ensures)
    (stops_before (image p) (sector_events p.sectors) mid new (text_does units.Image p.image mid new sent.Failed c.in-Failed-image_text.ensures)) in
    record { does = does; stays = placed_binds p old new sent.Failed does }
