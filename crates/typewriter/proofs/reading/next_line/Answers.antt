use Rattle.card_code.specs.Reader.{unit_of}
use Rattle.card_code.proofs.LineEntries.{next_moves}
use Rattle.typewriter.proofs.KeysTaken.{line_taken}
use Rattle.typewriter.proofs.LinesRead.{takes_reading}
use Rattle.typewriter.proofs.reading.next_line.Goals as goal

pub returns-clause-next : goal.returns-clause-next
returns-clause-next g c = line_taken c.args.keys.now _ _ _ c.next_line.result c.next_line.ensures.line c.next_line.ensures.entry

pub returns-clause-unit : goal.returns-clause-unit
returns-clause-unit g c = (next_moves c.args.keys.now c.next_line.new.self _ _ c.next_line.result c.next_line.ensures.line).unit

pub returns-clause-reading : goal.returns-clause-reading
returns-clause-reading g c =
    takes_reading c.args.keys.now _ (g.H.Host.seen c.args.host.now) (g.H.Host.seen c.next_line.new.host) (unit_of c.args.keys.now) c.next_line.result c.next_line.ensures.turn c.next_line.ensures.tally c.next_line.ensures.line c.next_line.ensures.entry
