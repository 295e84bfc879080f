use Rattle.outside_io.specs.declared.host.Unit.TheVariants as units
use Rattle.sps_listing.proofs.PlacedStatements.{next_listed, no_line_left, no_statement_left, all_left}
use Rattle.sps_listing.proofs.Sending.{begins_as, more_sent, cut_off, all_sent, left_as}
use Rattle.sps_listing.proofs.listed.listing.Goals as goal

pub returns-in-Failed : goal.returns-in-Failed
returns-in-Failed g c =
    let next = left_as _ _ units.Listing _ _ _ (next_listed c.as_slice-placed-items.result.now c.loop-placed.placed-index c.placed-item.result c.loop-placed.walk c.next.new.self c.in-Some.line c.loop-placed-test.true c.placed-item.is c.in-Some.ensures.steps) c.loop-placed.invariant in
    cut_off _ _ _ units.Listing _ _ _ next c.in-Failed.ensures

pub loop-placed-preserved : goal.loop-placed-preserved
loop-placed-preserved g c =
    let next = left_as _ _ units.Listing _ _ _ (next_listed c.as_slice-placed-items.result.now c.loop-placed.placed-index c.placed-item.result c.loop-placed.walk c.next.new.self c.in-Some.line c.loop-placed-test.true c.placed-item.is c.in-Some.ensures.steps) c.loop-placed.invariant in
    more_sent _ _ _ units.Listing _ _ _ next c.in-Done.ensures

pub returns-in_default : goal.returns-in_default
returns-in_default g c =
    all_sent _ _ units.Listing _ (left_as _ _ units.Listing _ _ _ (no_line_left c.as_slice-placed-items.result.now c.loop-placed.placed-index c.loop-placed.walk.number c.loop-placed.walk.lines c.in_default.ensures.steps.none) c.loop-placed.invariant)

pub returns : goal.returns
returns g c =
    all_sent _ _ units.Listing _ (left_as _ _ units.Listing _ _ _ (no_statement_left c.as_slice-placed-items.result.now c.loop-placed.placed-index c.loop-placed.walk.number c.loop-placed.walk.lines c.loop-placed-test.false) c.loop-placed.invariant)

pub loop-placed-init : goal.loop-placed-init
loop-placed-init g c =
    rw c.new-walk.ensures (begins_as _ units.Listing _ _ (all_left c.args.source.now c.as_slice-placed-items.result.now c.args.assembled.now.placed c.as_slice-placed-items.ensures))
