use Rattle.std.proofs.Common.{arith}
use Rattle.outside_io.proofs.UntoldHosts.{given_below}
use Rattle.outside_io.proofs.opened.OpenFiles.rival.Goals as goal

pub offset_bounds-self-place : goal.offset_bounds-self-place
offset_bounds-self-place g c = omega (arith, given_below _ _ c.place.ensures.place)

pub bounds-self-place : goal.bounds-self-place
bounds-self-place g c = given_below _ _ c.place.ensures.place
