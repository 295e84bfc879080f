use Rattle.std.proofs.Common.{◌≡◌, ℕ, arith, ap, ◌∙◌, take, refl}
use Rattle.std.specs.Prelude.{None}
use Rattle.outside_io.specs.World.{one_reading, world_after_take}
use Rattle.outside_io.specs.Files.{world_of}
use Rattle.outside_io.proofs.UntoldHosts.{nothing}
use Rattle.outside_io.proofs.FilesWorld.{gives_bytes, gives_world}
use Rattle.outside_io.proofs.in_memory.quiet.QuietHostHost.take.Goals as goal

pub returns-in-0 : goal.returns-in-0
returns-in-0 c =
    let empty : c.take.result ≡ 0 = c.in-0.is in
    record {
      empty = c.take.ensures.none empty;
      goes = record {
        later = omega arith;
        world = gives_world c.args.self.now.files c.take.new.self c.args.unit c.take.new.buf c.take.result nothing None None None None refl refl c.take.ensures
            ∙ ap (λ (n : ℕ). world_after_take c.args.unit (one_reading (take n c.take.new.buf)) (world_of c.args.self.now.files nothing None None)) empty;
      };
    }

pub returns-in_default : goal.returns-in_default
returns-in_default c = record {
  some = omega arith;
  fits = c.take.ensures.fits;
  bytes = gives_bytes c.args.self.now.files c.take.new.self c.args.unit c.take.new.buf c.take.result c.take.ensures;
  goes = record { later = omega arith; world = gives_world c.args.self.now.files c.take.new.self c.args.unit c.take.new.buf c.take.result nothing None None None None refl refl c.take.ensures };
}
