use Rattle.std.proofs.Common.{◌≡◌, ◌+◌, map, drop}
use Rattle.sps_pass_two.specs.Making.{text_of_placed}
use Rattle.sps_listing.specs.Listing.{last_statement_at}
use Rattle.sps_listing.proofs.PlacedStatements.{or_before}
use Rattle.sps_listing.proofs.statements.statement_at.Given as goal

abbrev pub invariant-loop-placed : goal.invariant-loop-placed
invariant-loop-placed l = record {
  number : l.number ≡ l.placed-index + 1;
  found : or_before (last_statement_at l.number l.address (map text_of_placed (drop l.placed-index l.placed-items))) l.found ≡ last_statement_at 1 l.address (map text_of_placed l.assembled.placed);
}
