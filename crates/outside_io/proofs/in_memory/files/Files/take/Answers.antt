use Rattle.std.proofs.Common.{◌≡◌, length, take, refl, arith, rules}
use Rattle.std.proofs.lemmas.List.{length-take}
use Rattle.std.proofs.lemmas.Bool.Decides.{nat_tests}
use Rattle.outside_io.specs.declared.host.TheConstants.{UNIT_COUNT}
use Rattle.outside_io.proofs.UntoldHosts.{place_below}
use Rattle.outside_io.proofs.InMemory.{rest_step, asked_step}
use Rattle.outside_io.proofs.in_memory.files.Files.take.Goals as goal

pub returns : goal.returns
returns c =
    let size : length c.args.self.now.position ≡ UNIT_COUNT = search rules in
    let lasts : length c.args.self.now.last ≡ UNIT_COUNT = search rules in
    let ends : length c.args.self.now.ends ≡ UNIT_COUNT = search rules in
    record {
      fits = c.copy-n.ensures.fits;
      copied = c.copy-n.ensures.copied;
      within = c.copy-n.ensures.within;
      none = c.copy-n.ensures.none;
      left = λ v. rest_step c.args.self.now c.args.unit v c.place-place.result c.copy-n.result c.place-place.ensures.place (omega (arith, place_below c.args.unit));
      flags = refl;
      names = refl;
      bytes = refl;
      pack = refl;
      asked = λ v. asked_step c.args.self.now c.args.unit v c.place-place.result c.copy-n.result _ (take c.copy-n.result c.copy-n.new.buf) c.place-place.ensures.place (omega (arith, place_below c.args.unit)) (omega (arith, place_below c.args.unit)) (omega (arith, length-take c.copy-n.result c.copy-n.new.buf, c.copy-n.ensures.fits)) (grind (arith, nat_tests));
    }
