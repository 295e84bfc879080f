use Rattle.std.proofs.Common.{refl, Bool, ◌∙◌, ap}
use Rattle.outside_io.specs.declared.host.Unit as unit
use Rattle.std.proofs.lemmas.Result.{on_ok_weaker}
use Rattle.std.specs.Prelude.{None}
use Rattle.outside_io.proofs.FilesWorld.{adds_world}
use Rattle.outside_io.proofs.in_memory.quiet.QuietHost.file.Goals as goal

pub returns-clause-ok : goal.returns-clause-ok
returns-clause-ok c = on_ok_weaker c.add.result (λ adds. adds_world c.args.self.now.files c.add.new.self c.args.name.now c.args.bytes.now (λ u. None) None None None refl adds) c.add.ensures.ok

pub returns-clause-fresh : goal.returns-clause-fresh
returns-clause-fresh c = λ fresh. record { free = λ u. ap (λ (flags : unit.Unit → Bool). flags u) c.add.ensures.flags ∙ fresh.free u; empty = fresh.empty }
