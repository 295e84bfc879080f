-- The host failed within the last line.
use Rattle.traces.specs.Trace.{ends}
use Rattle.typewriter.proofs.LinesTyped.{line_failed}
use Rattle.typewriter.proofs.typing.end.Goals as goal

pub returns-in-Failed : goal.returns-in-Failed
returns-in-Failed g c =
    line_failed c.args.line.now.items (ends c.args.answer) (g.H.Host.seen c.args.host.now) (g.H.Host.seen c.write_all.new.host) (rw c.as_slice.ensures.value at c.in-Failed.ensures)
