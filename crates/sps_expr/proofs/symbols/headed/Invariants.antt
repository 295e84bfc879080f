use Rattle.std.proofs.Common.{◌≡◌, ◌∷◌, take}
use Rattle.sps_expr.proofs.symbols.headed.Given as goal

abbrev pub invariant-loop-b : goal.invariant-loop-b
invariant-loop-b l = l.symbol.items ≡ l.h ∷ 36 ∷ take l.b-index l.name
