use Rattle.std.proofs.Common.{◌++◌, List}
use Rattle.outside_io.specs.declared.host.Unit.TheVariants as units
use Rattle.outside_io.specs.declared.whole.Sent.TheVariants as sent
use Rattle.outside_io.specs.Events.{Event, text_events}
use Rattle.ibm1620_cli.specs.Source.{SourceTexts}
use Rattle.ibm1620_cli.specs.Parts.{made_with}
use Rattle.ibm1620_cli.proofs.Writes.{text_does, stops_before, does_behind}
use Rattle.ibm1620_cli.proofs.Makings.{made_binds}
use Rattle.ibm1620_cli.proofs.source.write_made.Goals as goal

abbrev object : SourceTexts → List Event
object made = text_events units.Object made.object

abbrev image : SourceTexts → List Event
image made = text_events units.Image made.image

abbrev listing : SourceTexts → List Event
listing made = text_events units.Listing made.listing

pub returns-in-Failed : goal.returns-in-Failed
returns-in-Failed g c =
    let old = g.H.Host.seen c.args.host.now in
    let new = g.H.Host.seen c.write_all.new.host in
    let made : SourceTexts = made_with c.args.object.now c.args.source.now c.args.assembled.now in
    let does = stops_before (object made) (image made ++ listing made) old new (text_does units.Object made.object old new sent.Failed c.in-Failed.ensures) in
    record { does = does; stays = made_binds made old new sent.Failed does }

pub returns-in-Done-image_text : goal.returns-in-Done-image_text
returns-in-Done-image_text g c =
    let old = g.H.Host.seen c.args.host.now in
    let mid = g.H.Host.seen c.write_all.new.host in
    let later = g.H.Host.seen c.image_text.new.host in
    let new = g.H.Host.seen c.listing.new.host in
    let made : SourceTexts = made_with c.args.object.now c.args.source.now c.args.assembled.now in
    let does =
    does_behind (object made) (image made ++ listing made) old mid new c.listing.result (text_does units.Object made.object old mid sent.Done c.in-Done.ensures)
    (does_behind (image made) (listing made) mid later new c.listing.result (text_does units.Image made.image mid later sent.Done c.in-Done-image_text.ensures)
    (text_does units.Listing made.listing later new c.listing.result c.listing.ensures)) in
    record { does = does; stays = made_binds made old new c.listing.result does }

pub returns-in-Failed-image_text : goal.returns-in-Failed-image_text
returns-in-Failed-image_text g c =
    let old = g.H.Host.seen c.args.host.now in
    let mid = g.H.Host.seen c.write_all.new.host in
    let new = g.H.Host.seen c.image_text.new.host in
    let made : SourceTexts = made_with c.args.object.now c.args.source.now c.args.assembled.now in
    let does =
    does_behind (object made) (image made ++ listing made) old mid new sent.Failed (text_does units.Object made.object old mid sent.Done c.in-Done.ensures)
    (stops_before (image made) (listing made) mid new (text_does units.Image made.image mid new sent.Failed c.in-Failed-image_text.ensures)) in
    record { does = does; stays = made_binds made old new sent.Failed does }
