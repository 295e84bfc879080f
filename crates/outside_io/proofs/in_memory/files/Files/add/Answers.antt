use Rattle.std.proofs.Common.{refl, sym, ◌∙◌}
use Rattle.outside_io.specs.declared.in_memory.files.Files.{Files}
use Rattle.outside_io.proofs.InMemory.{pack_added}
use Rattle.outside_io.proofs.FilesWorld.{new_rest}
use Rattle.outside_io.proofs.in_memory.files.Files.add.Goals as goal

pub returns-clause-ok : goal.returns-clause-ok
returns-clause-ok c =
    let new : Files = record c.args.self.now { named = c.insert.new.self } in
    record {
      added = λ other. rw (c.in_ok-insert.ensures.items, c.in_ok-name.ensures.ok, c.in_ok-bytes.ensures.items) refl;
      left = λ v. new_rest new v c.requires ∙ sym (new_rest c.args.self.now v c.requires);
      flags = refl;
      names = refl;
      pack = pack_added c.args.self.now new c.requires refl;
      asked = refl;
    }
