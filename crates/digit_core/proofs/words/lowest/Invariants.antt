-- No cell below is 1.
use Rattle.std.proofs.Common.{ℕ, ◌≢◌, ◌-◌, ◌<◌, ◌≤◌}
use Rattle.digit_core.specs.Packed.{six}
use Rattle.digit_core.proofs.words.lowest.Given as goal

abbrev pub invariant-loop-j : goal.invariant-loop-j
invariant-loop-j l = record { ten : l.j ≤ 10; before : (i : ℕ) → i < l.j → six l.ones i ≢ 1 }

abbrev pub decreases-loop-j : goal.decreases-loop-j
decreases-loop-j l = 10 - l.j
