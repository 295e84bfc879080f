use Rattle.std.proofs.Common.{refl}
use Rattle.ibm1620_cli.specs.Parts.{refused, host_failed, lacking}
use Rattle.ibm1620_cli.proofs.Readings.{whole_takes, long_takes, part_loses}
use Rattle.ibm1620_cli.proofs.reading.read_text.Goals as goal

pub returns-in-Ok : goal.returns-in-Ok
returns-in-Ok g c = whole_takes c.args.unit (g.H.Host.seen c.args.host.now) (g.H.Host.seen c.read_all.new.host) c.args.longest c.in-Ok.bytes.items c.in-Ok.ensures

pub returns-in-Err-TooLong : goal.returns-in-Err-TooLong
returns-in-Err-TooLong g c =
    refused (long_takes c.args.unit (g.H.Host.seen c.args.host.now) (g.H.Host.seen c.read_all.new.host) c.args.longest (rw c.in-Err-TooLong.field-0-is at c.in-Err-TooLong.ensures)) refl refl

pub returns-in-Err-Failed : goal.returns-in-Err-Failed
returns-in-Err-Failed g c =
    let part = rw c.in-Err-Failed.field-0-is at c.in-Err-Failed.ensures in
    host_failed (part_loses c.args.unit (g.H.Host.seen c.args.host.now) (g.H.Host.seen c.read_all.new.host) 0 c.args.longest part.0) refl part.1

pub returns-in-Err-Memory : goal.returns-in-Err-Memory
returns-in-Err-Memory g c =
    let part = rw c.in-Err-Memory.field-0-is at c.in-Err-Memory.ensures in
    lacking (part_loses c.args.unit (g.H.Host.seen c.args.host.now) (g.H.Host.seen c.read_all.new.host) 1 c.args.longest part) refl
