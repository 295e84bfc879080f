use Rattle.std.proofs.Common.{◌≡◌, ℕ, List, arith, ap, ◌∙◌, take, refl}
use Rattle.std.specs.Prelude.{Some}
use Rattle.outside_io.specs.Files.{pack_of}
use Rattle.outside_io.specs.World.{one_reading, world_after_take}
use Rattle.outside_io.specs.CallCounts.{limits_of}
use Rattle.outside_io.specs.Mem.{mem_world, pack_of_host, written_texts}
use Rattle.outside_io.specs.Pack.{sectors_over}
use Rattle.outside_io.proofs.FilesWorld.{gives_bytes, gives_world, same_limits}
use Rattle.outside_io.proofs.in_memory.mem.MemHostHost.take.Goals as goal

pub returns-in-0-clause-answer : goal.returns-in-0-clause-answer
returns-in-0-clause-answer c =
    let empty : c.take.result ≡ 0 = c.in-0.is in
    record {
      empty = c.take.ensures.none empty;
      goes = record {
        later = c.fails.ensures.call.later;
        world = gives_world c.args.self.now.files c.take.new.self c.args.unit c.take.new.buf c.take.result (written_texts c.args.self.now) (Some (pack_of_host c.args.self.now)) (Some (sectors_over c.args.self.now.sectors (pack_of c.take.new.self))) (Some (limits_of c.args.self.now.texts c.args.self.now.calls)) (Some (limits_of c.args.self.now.texts c.fails.new.self)) (ap (λ (p : ℕ → List ℕ). Some (sectors_over c.args.self.now.sectors p)) c.take.ensures.pack) (same_limits c.args.self.now.texts c.args.self.now.texts c.args.self.now.calls c.fails.new.self (λ v. refl) c.fails.ensures.call.failing) c.take.ensures
            ∙ ap (λ (n : ℕ). world_after_take c.args.unit (one_reading (take n c.take.new.buf)) (mem_world c.args.self.now)) empty;
      };
    }

pub returns-in_default-clause-answer : goal.returns-in_default-clause-answer
returns-in_default-clause-answer c = record {
  some = omega arith;
  fits = c.take.ensures.fits;
  bytes = gives_bytes c.args.self.now.files c.take.new.self c.args.unit c.take.new.buf c.take.result c.take.ensures;
  goes = record { later = c.fails.ensures.call.later; world = gives_world c.args.self.now.files c.take.new.self c.args.unit c.take.new.buf c.take.result (written_texts c.args.self.now) (Some (pack_of_host c.args.self.now)) (Some (sectors_over c.args.self.now.sectors (pack_of c.take.new.self))) (Some (limits_of c.args.self.now.texts c.args.self.now.calls)) (Some (limits_of c.args.self.now.texts c.fails.new.self)) (ap (λ (p : ℕ → List ℕ). Some (sectors_over c.args.self.now.sectors p)) c.take.ensures.pack) (same_limits c.args.self.now.texts c.args.self.now.texts c.args.self.now.calls c.fails.new.self (λ v. refl) c.fails.ensures.call.failing) c.take.ensures };
}
