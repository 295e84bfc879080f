-- So many words at the front are the same.
use Rattle.std.proofs.Common.{◌-◌, ◌≡◌, ℕ, ◌<◌, ◌≤◌, slice_index}
use Rattle.digit_core.proofs.mixing.same_front.Given as goal

abbrev pub invariant-loop-k : goal.invariant-loop-k
invariant-loop-k l = record {
  within : l.k ≤ l.n;
  same : (i : ℕ) → i < l.k → slice_index l.words i ≡ slice_index l.others i;
}

abbrev pub decreases-loop-k : goal.decreases-loop-k
decreases-loop-k l = l.n - l.k

abbrev pub invariant-loop-k-2 : goal.invariant-loop-k-2
invariant-loop-k-2 l = record {
  within : l.k ≤ l.n;
  same : (i : ℕ) → i < l.k → slice_index l.words i ≡ slice_index l.others i;
}

abbrev pub decreases-loop-k-2 : goal.decreases-loop-k-2
decreases-loop-k-2 l = l.n - l.k
