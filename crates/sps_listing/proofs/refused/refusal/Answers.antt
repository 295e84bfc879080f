use Rattle.std.proofs.Common.{◌∙◌}
use Rattle.outside_io.specs.declared.host.Unit.TheVariants as units
use Rattle.sps_scan.specs.Statement.{statement_text}
use Rattle.sps_listing.proofs.Lines.{refusal_is}
use Rattle.sps_listing.proofs.Sending.{sends_as}
use Rattle.sps_listing.proofs.refused.refusal.Goals as goal

pub returns : goal.returns
returns g c =
    let front = c.as_bytes.ensures.value ∙ c.deref.ensures.0 in
    let line = refusal_is c.args.source.now c.line_at.result.now c.as_bytes.result.now c.refusal_front-front.result.bytes c.shown_text-shown.result.now c.args.statement c.args.rule c.args.part (statement_text c.scan.result) c.line_at.ensures c.scan.ensures.is c.shown_text-shown.ensures front c.refusal_front-front.ensures in
    sends_as _ _ units.Report _ _ c.write_ended.result line c.write_ended.ensures
