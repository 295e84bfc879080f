use Rattle.std.proofs.Common.{◌∷◌, []}
use Rattle.outside_io.specs.declared.whole.Sent.TheVariants as sent
use Rattle.outside_io.specs.Lines.{with_line_feed}
use Rattle.sps_listing.proofs.Sending.{sends_on, cut_short}
use Rattle.sps_listing.proofs.two_parts.write_parts.Goals as goal

pub returns-in-Failed : goal.returns-in-Failed
returns-in-Failed g c = cut_short _ _ c.args.unit c.args.front.now (with_line_feed c.args.text.now) c.in-Failed.ensures

pub returns-in-Done-write_all : goal.returns-in-Done-write_all
returns-in-Done-write_all g c =
    sends_on _ _ _ c.args.unit c.args.front.now (with_line_feed c.args.text.now) c.write_all-in-Done-write_all.result c.in-Done.ensures
    (sends_on _ _ _ c.args.unit c.args.text.now (10 ∷ []) c.write_all-in-Done-write_all.result c.in-Done-write_all.ensures c.write_all-in-Done-write_all.ensures)

pub returns-in-Failed-write_all : goal.returns-in-Failed-write_all
returns-in-Failed-write_all g c =
    sends_on _ _ _ c.args.unit c.args.front.now (with_line_feed c.args.text.now) sent.Failed c.in-Done.ensures
    (cut_short _ _ c.args.unit c.args.text.now (10 ∷ []) c.in-Failed-write_all.ensures)
