use Rattle.std.proofs.Common.{◌≡◌, length, ℕ, true, false, get_or, set, ap, ◌∙◌, refl, arith, rules}
use Rattle.outside_io.specs.declared.host.TheConstants.{UNIT_COUNT}
use Rattle.outside_io.specs.World.{place}
use Rattle.outside_io.proofs.UntoldHosts.{place_below, flag_set}
use Rattle.outside_io.proofs.InMemory.{rest_opened, pack_opened}
use Rattle.outside_io.proofs.in_memory.files.Files.bind.Goals as goal

pub returns : goal.returns
returns c =
    let ps : length c.args.self.now.position ≡ UNIT_COUNT = search rules in
    let bs : length c.args.self.now.bound ≡ UNIT_COUNT = search rules in
    let os : length c.args.self.now.opened ≡ UNIT_COUNT = search rules in
    record {
      flags = λ v. ap (λ (q : ℕ). get_or (set c.args.self.now.bound q true) (place v) false) c.place-place.ensures.place ∙ flag_set c.args.self.now.bound c.args.unit v (omega (arith, place_below c.args.unit));
      names = c.set.ensures;
      left = λ v. rest_opened c.args.self.now c.args.unit v c.place-place.result c.find-file.result c.args.name.now c.place-place.ensures.place (omega (arith, place_below c.args.unit)) (omega (arith, place_below c.args.unit)) (omega (arith, place_below c.args.unit)) c.find-file.ensures;
      bytes = refl;
      pack = pack_opened c.args.self.now c.args.unit c.place-place.result c.find-file.result c.args.name.now c.place-place.ensures.place (omega (arith, place_below c.args.unit)) (omega (arith, place_below c.args.unit)) c.find-file.ensures;
      asked = refl;
    }
