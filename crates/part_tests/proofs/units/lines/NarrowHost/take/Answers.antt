use Rattle.std.proofs.Common.{drop}
use Rattle.outside_io.specs.Mem.{mem_seen}
use Rattle.part_tests.proofs.LongerBuffer.{longer}
use Rattle.part_tests.proofs.units.lines.NarrowHost.take.Goals as goal

pub returns : goal.returns
returns c = longer (mem_seen c.args.self.now.host) (mem_seen c.take.new.self) c.args.unit c.take.new.buf (drop c.min-most.result c.args.buf.now) c.take.result c.take.ensures.answer
