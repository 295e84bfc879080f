use Rattle.std.proofs.Common.{refl}
use Rattle.sps_expr.specs.Symbol.{has_no_name_twice}
use Rattle.sps_expr.proofs.Places.{has_places-empty}
use Rattle.sps_expr.proofs.symbols.Symbols.new.Goals as goal

pub invariant_of-result : goal.invariant_of-result
unfolding has_no_name_twice
invariant_of-result c = rw c.new.ensures.items (refl, has_places-empty c.new-2.result c.new-2.ensures)
