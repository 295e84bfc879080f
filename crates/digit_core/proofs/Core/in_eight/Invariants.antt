-- Where there is none so far, no cell of these words passes.
use Rattle.std.proofs.Common.{ℕ, ◌≡◌, ◌+◌, ◌-◌, ◌*◌, ◌<◌, ◌≤◌, false, get_or}
use Rattle.digit_core.proofs.Core.in_eight.Given as goal

abbrev pub invariant-loop-k : goal.invariant-loop-k
invariant-loop-k g l = record { eight : l.k ≤ 8; none : l.all ≡ 0 → (j : ℕ) → j < 10 * l.k → g.S.Sought.passes (get_or l.self (10 * l.i + j) 0) ≡ false }

abbrev pub decreases-loop-k : goal.decreases-loop-k
decreases-loop-k g l = 8 - l.k
