use Rattle.outside_io.proofs.UntoldHosts.{given_below}
use Rattle.outside_io.proofs.real.RealHost.is_dropped.Goals as goal

pub bounds-self-place : goal.bounds-self-place
bounds-self-place g c = given_below _ _ c.place.ensures.place
