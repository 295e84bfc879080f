use Rattle.std.proofs.Common.{◌≡◌, length}
use Rattle.line_words.specs.Blanks.{without_front}
use Rattle.line_words.proofs.blanks.without_front.Given as goal

abbrev pub invariant-loop-front : goal.invariant-loop-front
invariant-loop-front l = without_front l.front ≡ without_front l.text

abbrev pub decreases-loop-front : goal.decreases-loop-front
decreases-loop-front l = length l.front
