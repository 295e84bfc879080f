use Rattle.std.proofs.Common.{◌≡◌, ◌+◌}
use Rattle.sps_pass_one.proofs.Listing.{from_place}
use Rattle.sps_pass_one.proofs.placing.listed_count.Given as goal

abbrev pub invariant-loop-i : goal.invariant-loop-i
invariant-loop-i l = from_place 0 l.parts ≡ l.i + from_place l.i l.parts
