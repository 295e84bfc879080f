-- So many words have been copied.
use Rattle.std.proofs.Common.{◌≡◌, ◌+◌, ◌-◌, ◌*◌, ◌^◌, ◌<◌, ◌≤◌, length}
use Rattle.std.specs.List.{All}
use Rattle.digit_core.specs.Packed.{cells_of}
use Rattle.digit_core.specs.Copied.{core_after_copy}
use Rattle.digit_core.proofs.copying.across_up.Given as goal

abbrev pub invariant-loop-t : goal.invariant-loop-t
invariant-loop-t l = record {
  all : l.t ≤ l.count;
  long : length l.words ≡ length l.initial.words;
  sixty_bits : All (λ w. w < 2 ^ 60) l.words;
  is : cells_of l.words ≡ core_after_copy (cells_of l.initial.words) (10 * l.i) (10 * l.s + l.j) (10 * l.t);
}

abbrev pub decreases-loop-t : goal.decreases-loop-t
decreases-loop-t l = l.count - l.t
