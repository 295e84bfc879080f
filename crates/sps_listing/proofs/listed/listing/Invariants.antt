use Rattle.outside_io.specs.declared.host.Unit.TheVariants as units
use Rattle.sps_listing.specs.Listing.{listing_text, placed_texts}
use Rattle.sps_listing.proofs.PlacedStatements.{listing_left}
use Rattle.sps_listing.proofs.Sending.{Sending}
use Rattle.sps_listing.proofs.listed.listing.Given as goal

abbrev pub invariant-loop-placed : goal.invariant-loop-placed
invariant-loop-placed g l = Sending (g.H.Host.seen l.initial.host) (g.H.Host.seen l.host) units.Listing (listing_left l.walk.number l.walk.lines l.placed-items l.placed-index) (listing_text l.source (placed_texts l.assembled))
