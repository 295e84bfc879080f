use Rattle.outside_io.specs.World.{place}
use Rattle.outside_io.proofs.TextLemmas.{text_within}
use Rattle.outside_io.proofs.in_memory.mem.MemHost.shown.Goals as goal

pub returns-clause-within : goal.returns-clause-within
returns-clause-within c = rw c.text.ensures (text_within c.args.self.now.texts.outputs.items (place c.args.unit))
