use Rattle.std.specs.Prelude.{None}
use Rattle.outside_io.proofs.FilesWorld.{new_world}
use Rattle.outside_io.proofs.in_memory.quiet.QuietHost.new.Goals as goal

pub returns-clause-world : goal.returns-clause-world
returns-clause-world c = new_world c.new.result (λ u. None) None None c.new.ensures.named c.new.ensures.unbound c.new.ensures.unnamed c.new.ensures.unasked
