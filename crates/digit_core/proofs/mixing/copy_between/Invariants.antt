-- So many words have been copied.
use Rattle.std.proofs.Common.{◌-◌, ◌≡◌, ◌*◌, ◌^◌, ◌<◌, ◌≤◌, length}
use Rattle.std.specs.List.{All}
use Rattle.digit_core.specs.Packed.{cells_of}
use Rattle.digit_core.specs.Mixed.{core_mixture}
use Rattle.digit_core.proofs.mixing.copy_between.Given as goal

abbrev pub invariant-loop-k : goal.invariant-loop-k
invariant-loop-k l = record {
  some : l.i ≤ l.k;
  all : l.k ≤ l.end;
  long : length l.words ≡ length l.initial.words;
  sixty_bits : All (λ w. w < 2 ^ 60) l.words;
  is : cells_of l.words ≡ core_mixture (cells_of l.initial.words) (cells_of l.from) (10 * l.i) (10 * l.k);
}

abbrev pub decreases-loop-k : goal.decreases-loop-k
decreases-loop-k l = l.end - l.k
