use Rattle.std.proofs.Common.{map, drop}
use Rattle.outside_io.specs.declared.host.Unit.TheVariants as units
use Rattle.sps_pass_two.specs.Types.{run_of}
use Rattle.sps_listing.specs.Texts.{image_text}
use Rattle.sps_listing.proofs.Sending.{Sending}
use Rattle.sps_listing.proofs.image.image_text.Given as goal

abbrev pub invariant-loop-piece : goal.invariant-loop-piece
invariant-loop-piece g l = Sending (g.H.Host.seen l.initial.host) (g.H.Host.seen l.host) units.Image (image_text (map run_of (drop l.piece-index l.piece-items))) (image_text l.image.pieces)
