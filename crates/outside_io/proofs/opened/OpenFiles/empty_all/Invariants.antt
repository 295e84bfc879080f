use Rattle.std.proofs.Common.{◌≡◌, ℕ, ◌<◌, false, get_or}
use Rattle.outside_io.specs.declared.host.Unit.TheVariants.{Source}
use Rattle.outside_io.specs.World.{all_units}
use Rattle.outside_io.specs.Old.{has_old_bytes}
use Rattle.outside_io.proofs.opened.OpenFiles.empty_all.Given as goal

abbrev pub invariant-loop-unit : goal.invariant-loop-unit
invariant-loop-unit g l = (k : ℕ) → k < l.unit-index → has_old_bytes l.self (get_or all_units k Source) ≡ false
