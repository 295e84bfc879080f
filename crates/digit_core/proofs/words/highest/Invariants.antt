-- No cell is 1 from here on.
use Rattle.std.proofs.Common.{ℕ, ◌≢◌, ◌<◌, ◌≤◌}
use Rattle.digit_core.specs.Packed.{six}
use Rattle.digit_core.proofs.words.highest.Given as goal

abbrev pub invariant-loop-j : goal.invariant-loop-j
invariant-loop-j l = record { ten : l.j ≤ 10; above : (i : ℕ) → l.j ≤ i → i < 10 → six l.ones i ≢ 1 }

abbrev pub decreases-loop-j : goal.decreases-loop-j
decreases-loop-j l = l.j
