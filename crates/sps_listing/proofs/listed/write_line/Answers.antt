use Rattle.std.proofs.Common.{refl, ◌∙◌}
use Rattle.outside_io.specs.declared.host.Unit.TheVariants as units
use Rattle.sps_scan.specs.Statement.{statement_of}
use Rattle.sps_pass_two.specs.Making.{text_of_placed}
use Rattle.sps_listing.proofs.PlacedStatements.{line_is}
use Rattle.sps_listing.proofs.Sending.{sends_as}
use Rattle.sps_listing.proofs.listed.write_line.Goals as goal

pub returns : goal.returns
returns g c =
    let columns = c.as_bytes.ensures.value ∙ c.deref.ensures.0 ∙ c.listed_columns-columns.ensures in
    let parts = line_is c.args.number c.args.line.now (text_of_placed c.args.placed.now) (statement_of c.args.line.now).shape c.as_bytes.result.now c.without_back-text.result.now columns refl c.without_back-text.ensures in
    sends_as _ _ units.Listing _ _ c.write_ended.result parts c.write_ended.ensures
