use Rattle.std.proofs.Common.{◌≡◌, take}
use Rattle.sps_listing.proofs.refused_statement.first_bytes.Given as goal

abbrev pub invariant-loop-byte : goal.invariant-loop-byte
invariant-loop-byte l = l.text.items ≡ take l.byte-index l.first
