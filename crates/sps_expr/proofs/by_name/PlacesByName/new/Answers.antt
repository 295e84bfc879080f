-- Two empty maps.
use Rattle.sps_expr.proofs.Maps.{none_there}
use Rattle.sps_expr.proofs.by_name.PlacesByName.new.Goals as goal

pub returns : goal.returns
returns c = none_there c.new.result c.new-2.result c.new.ensures.empty c.new-2.ensures.empty
