-- A script of no bytes.
use Rattle.std.proofs.Common.{◌≡◌, ℕ, [], refl}
use Rattle.std.specs.Prelude.{Ok}
use Rattle.operator_script.specs.Lines.{items_from, items_of_lines}
use Rattle.operator_script.specs.Script.{script_of}

-- it has no line
pub nothing_read : (positions : ℕ) → script_of positions [] ≡ Ok []
unfolding script_of items_of_lines items_from
nothing_read positions = refl
