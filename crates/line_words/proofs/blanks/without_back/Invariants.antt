use Rattle.std.proofs.Common.{◌≡◌, ◌≤◌, length, take}
use Rattle.line_words.specs.Blanks.{without_back}
use Rattle.line_words.proofs.blanks.without_back.Given as goal

abbrev pub invariant-loop-len : goal.invariant-loop-len
invariant-loop-len l = (l.len ≤ length l.text) × (without_back (take l.len l.text) ≡ without_back l.text)

abbrev pub decreases-loop-len : goal.decreases-loop-len
decreases-loop-len l = l.len
