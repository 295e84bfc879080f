use Rattle.std.proofs.Common.{◌≡◌, ◌≤◌, length, take}
use Rattle.line_words.specs.Blanks.{without_back}
use Rattle.sps_listing.proofs.line_end.without_back.Given as goal

abbrev pub invariant-loop-len : goal.invariant-loop-len
invariant-loop-len l = record {
  fits : l.len ≤ length l.line;
  same : without_back (take l.len l.line) ≡ without_back l.line;
}

abbrev pub decreases-loop-len : goal.decreases-loop-len
decreases-loop-len l = l.len
