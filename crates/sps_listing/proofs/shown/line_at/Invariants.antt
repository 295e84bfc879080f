use Rattle.std.proofs.Common.{◌≡◌, ◌-◌}
use Rattle.sps_listing.specs.Texts.{source_line_at}
use Rattle.sps_listing.proofs.Lines.{line_behind}
use Rattle.sps_listing.proofs.shown.line_at.Given as goal

abbrev pub invariant-loop-earlier : goal.invariant-loop-earlier
invariant-loop-earlier l = line_behind l.rest (l.statement - l._earlier) ≡ source_line_at l.source l.statement
