use Rattle.std.proofs.Common.{◌≡◌, ◌<◌, false, get_or, refl, subst, arith}
use Rattle.outside_io.specs.declared.host.Unit as unit
use Rattle.outside_io.specs.declared.host.Unit.TheVariants.{Source}
use Rattle.outside_io.specs.World.{all_units, place}
use Rattle.outside_io.specs.Old.{has_old_bytes}
use Rattle.outside_io.proofs.Units.{unit_at-place}
use Rattle.outside_io.proofs.UntoldHosts.{place_below}
use Rattle.outside_io.proofs.OldBytes.{lost_next}
use Rattle.outside_io.proofs.opened.OpenFiles.empty_all.Goals as goal

pub loop-unit-preserved : goal.loop-unit-preserved
loop-unit-preserved g c = lost_next (λ k. get_or all_units k Source) c.loop-unit.unit-index _ (has_old_bytes c.loop-unit.self) (has_old_bytes c.empty.new.self) refl c.in_ok-empty.ensures c.loop-unit.invariant

pub invariant_of-self : goal.invariant_of-self
invariant_of-self g c = record {
  emptied = λ _ u.
      let done : place u < c.loop-unit.unit-index = omega (arith, place_below u, c.loop-unit-test.false) in
      subst (λ (v : unit.Unit). has_old_bytes c.loop-unit.self v ≡ false) (unit_at-place u Source) (c.loop-unit.invariant (place u) done);
}
