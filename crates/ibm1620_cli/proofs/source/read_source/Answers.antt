use Rattle.ibm1620_cli.proofs.Sources.{reads_sound, reads_none}
use Rattle.ibm1620_cli.proofs.source.read_source.Goals as goal

pub returns-in-Ok : goal.returns-in-Ok
returns-in-Ok g c =
    reads_sound g.row.M (g.H.Host.seen c.args.host.now) (g.H.Host.seen c.read_text.new.host) (g.H.Host.seen c.assemble_or_refuse.new.host) c.in-Ok.source.items c.assemble_or_refuse.result c.in-Ok.ensures c.assemble_or_refuse.ensures

pub returns-in-Err : goal.returns-in-Err
returns-in-Err g c =
    rw c.of.ensures
    (reads_none g.row.M (g.H.Host.seen c.args.host.now) (g.H.Host.seen c.read_text.new.host) (g.H.Host.seen c.report.new.host) c.in-Err.status c.report.result c.in-Err.ensures c.report.ensures)
