use Rattle.std.proofs.Common.{◌≡◌, ◌+◌, ◌-◌, ◌*◌}
use Rattle.std.specs.List.{All}
use Rattle.outside_io.specs.declared.host.Unit.TheVariants as units
use Rattle.digit_core.specs.Cell.{IsGood}
use Rattle.sps_pass_two.specs.Types.{run_of}
use Rattle.sps_listing.specs.Texts.{image_lines, piece_text}
use Rattle.sps_listing.proofs.Sending.{Sending}
use Rattle.sps_listing.proofs.image.write_piece.Given as goal

abbrev pub invariant-loop-line : goal.invariant-loop-line
invariant-loop-line g l = record {
  good : All IsGood l.rest;
  address : l.address ≡ l.piece.from + 50 * l._line;
  sending : Sending (g.H.Host.seen l.initial.host) (g.H.Host.seen l.host) units.Image (image_lines (l._line-end - l._line) l.address l.rest) (piece_text (run_of l.piece));
}
