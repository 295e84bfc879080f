use Rattle.std.proofs.Common.{refl}
use Rattle.std.specs.Prelude.{Some}
use Rattle.outside_io.specs.Files.{world_of, pack_of}
use Rattle.outside_io.specs.Mem.{written_texts}
use Rattle.outside_io.proofs.FilesWorld.{same_limits}
use Rattle.outside_io.proofs.in_memory.mem.MemHostHost.write_sector.Goals as goal

pub returns-clause-answer : goal.returns-clause-answer
returns-clause-answer c = record {
  later = c.fails.ensures.call.later;
  world = λ i. world_of c.args.self.now.files (written_texts c.args.self.now) (Some (c.set.ensures (pack_of c.args.self.now.files) i)) (same_limits c.args.self.now.texts c.args.self.now.texts c.args.self.now.calls c.fails.new.self (λ v. refl) c.fails.ensures.call.failing i);
}
