use Rattle.std.proofs.Common.{arith}
use Rattle.std.proofs.lemmas.List.Elements.{All-drop}
use Rattle.outside_io.specs.declared.host.Unit.TheVariants as units
use Rattle.digit_core.specs.Cell.{IsGood}
use Rattle.sps_listing.proofs.ImageLines.{one_line, all_lines, no_line}
use Rattle.sps_listing.proofs.Sending.{begins_as, more_sent, cut_off, all_sent, left_as}
use Rattle.sps_listing.proofs.image.write_piece.Goals as goal

pub returns-in-Failed : goal.returns-in-Failed
returns-in-Failed g c =
    let i = c.loop-line.invariant in
    let next = left_as _ _ units.Image _ _ _ (one_line c.div_ceil-line-end.result c.loop-line._line c.loop-line.address c.min.result c.loop-line.rest.now c.loop-line-test.true c.min.ensures) i.sending in
    cut_off _ _ _ units.Image _ _ _ next (rw c.split_at.ensures.front at c.in-Failed.ensures)

pub loop-line-preserved : goal.loop-line-preserved
loop-line-preserved g c =
    let i = c.loop-line.invariant in
    let next = left_as _ _ units.Image _ _ _ (one_line c.div_ceil-line-end.result c.loop-line._line c.loop-line.address c.min.result c.loop-line.rest.now c.loop-line-test.true c.min.ensures) i.sending in
    record {
      good = rw c.split_at.ensures.back (All-drop IsGood c.min.result c.loop-line.rest.now i.good);
      address = omega (arith, i.address);
      sending = rw c.split_at.ensures.back (more_sent _ _ _ units.Image _ _ _ next (rw c.split_at.ensures.front at c.in-Done.ensures));
    }

pub returns : goal.returns
returns g c =
    let i = c.loop-line.invariant in
    all_sent _ _ units.Image _ (left_as _ _ units.Image _ _ _ (no_line c.div_ceil-line-end.result c.loop-line._line c.loop-line.address c.loop-line.rest.now c.loop-line-test.false) i.sending)

pub loop-line-init : goal.loop-line-init
loop-line-init g c =
    record {
      good = rw c.as_slice-rest.ensures c.requires.piece.good;
      address = omega arith;
      sending = begins_as _ units.Image _ _ (all_lines c.div_ceil-line-end.result c.args.piece.now.from c.as_slice-rest.result.now c.args.piece.now.digits c.div_ceil-line-end.ensures c.as_slice-rest.ensures);
    }
