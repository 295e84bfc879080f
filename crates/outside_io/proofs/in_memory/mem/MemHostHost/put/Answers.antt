use Rattle.std.proofs.Common.{ℕ, take, ap, ◌∙◌, arith, rules}
use Rattle.std.specs.Prelude.{Some}
use Rattle.outside_io.specs.Mem.{mem_world, pack_of_host}
use Rattle.outside_io.specs.World.{world_after_put}
use Rattle.outside_io.proofs.FilesWorld.{grows_world}
use Rattle.outside_io.proofs.Worlds.{added_to-nil}
use Rattle.outside_io.proofs.TextLemmas.{all_within_room}
use Rattle.outside_io.proofs.in_memory.mem.MemHostHost.put.Goals as goal

pub returns-in_default-clause-answer : goal.returns-in_default-clause-answer
returns-in_default-clause-answer c = record {
  some = omega arith;
  fits = c.add.ensures.fits;
  goes = record {
    later = c.fails.ensures.call.later;
    world = grows_world c.args.self.now.files c.args.self.now.texts c.add.new.self c.args.unit c.args.piece.now c.add.result (Some (pack_of_host c.args.self.now)) c.args.self.now.calls c.fails.new.self c.fails.ensures.call.failing c.add.ensures;
  };
}

-- every host in memory is within its room
pub returns-then-fails-clause-within : goal.returns-then-fails-clause-within
returns-then-fails-clause-within c = all_within_room _

pub returns-in-0-clause-within : goal.returns-in-0-clause-within
returns-in-0-clause-within c = all_within_room _

pub returns-in_default-clause-within : goal.returns-in_default-clause-within
returns-in_default-clause-within c = all_within_room _

pub returns-in-0-clause-answer : goal.returns-in-0-clause-answer
returns-in-0-clause-answer c = record {
  rose = search rules;
  later = search rules;
  world = grows_world c.args.self.now.files c.args.self.now.texts c.add.new.self c.args.unit c.args.piece.now c.add.result (Some (pack_of_host c.args.self.now)) c.args.self.now.calls c.fault.new.self (c.fault.ensures.failing ∙ c.fails.ensures.call.failing) c.add.ensures
      ∙ ap (λ (n : ℕ). world_after_put c.args.unit (take n c.args.piece.now) (mem_world c.args.self.now)) c.in-0.is ∙ added_to-nil c.args.unit (mem_world c.args.self.now);
}
