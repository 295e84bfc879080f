use Rattle.std.proofs.Common.{◌≡◌, length, arith, rules}
use Rattle.outside_io.specs.declared.host.TheConstants.{UNIT_COUNT}
use Rattle.outside_io.proofs.UntoldHosts.{given_below}
use Rattle.outside_io.proofs.opened.OpenFiles.set.Goals as goal

pub offset_bounds-self-place : goal.offset_bounds-self-place
offset_bounds-self-place g c = omega (arith, given_below _ _ c.place-place.ensures.place)

pub listed : goal.listed
listed g c = let size : length c.args.self.now.files ≡ UNIT_COUNT = search rules in rw size (given_below _ _ c.place-place.ensures.place)

pub offset_bounds-self-place-2 : goal.offset_bounds-self-place-2
offset_bounds-self-place-2 g c = omega (arith, given_below _ _ c.place-place.ensures.place)

pub bounds-self-place : goal.bounds-self-place
bounds-self-place g c = given_below _ _ c.place-place.ensures.place

pub bounds-self-place-2 : goal.bounds-self-place-2
bounds-self-place-2 g c = given_below _ _ c.place-place.ensures.place
