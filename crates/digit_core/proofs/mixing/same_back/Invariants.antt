-- The words from here on are the same.
use Rattle.std.proofs.Common.{◌-◌, ◌≡◌, ℕ, ◌<◌, ◌≤◌, length, slice_index}
use Rattle.digit_core.proofs.mixing.same_back.Given as goal

abbrev pub invariant-loop-k : goal.invariant-loop-k
invariant-loop-k l = record {
  least : l.least ≤ l.k;
  within : l.k ≤ length l.words;
  same : (i : ℕ) → l.k ≤ i → i < length l.words → slice_index l.words i ≡ slice_index l.others i;
}

abbrev pub decreases-loop-k : goal.decreases-loop-k
decreases-loop-k l = l.k - l.least

abbrev pub invariant-loop-k-2 : goal.invariant-loop-k-2
invariant-loop-k-2 l = record {
  least : l.least ≤ l.k;
  within : l.k ≤ length l.words;
  same : (i : ℕ) → l.k ≤ i → i < length l.words → slice_index l.words i ≡ slice_index l.others i;
}

abbrev pub decreases-loop-k-2 : goal.decreases-loop-k-2
decreases-loop-k-2 l = l.k - l.least
