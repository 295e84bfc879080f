use Rattle.std.proofs.Common.{ℕ, List, ap}
use Rattle.std.specs.Prelude.{Some}
use Rattle.outside_io.specs.Files.{world_of, pack_of}
use Rattle.outside_io.specs.CallCounts.{limits_of}
use Rattle.outside_io.specs.Mem.{written_texts}
use Rattle.outside_io.proofs.in_memory.mem.MemHost.set_sector.Goals as goal

pub returns-clause-world : goal.returns-clause-world
returns-clause-world c = ap (λ (pack : ℕ → List ℕ). world_of c.args.self.now.files (written_texts c.args.self.now) (Some pack) (Some (limits_of c.args.self.now.texts c.args.self.now.calls))) (c.set.ensures (pack_of c.args.self.now.files))
