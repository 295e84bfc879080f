use Rattle.std.proofs.Common.{◌∙◌, sym, arith}
use Rattle.sps_listing.proofs.Lines.{one_less, is_first}
use Rattle.sps_listing.proofs.shown.line_at.Goals as goal

pub loop-earlier-preserved : goal.loop-earlier-preserved
loop-earlier-preserved c =
    sym (one_less c.loop-earlier.rest.now c.in-Some.behind.now c.args.statement c.loop-earlier._earlier (omega (arith, c.in-Some.ensures.shorter)) c.in-Some.ensures.behind c.loop-earlier-test.true) ∙ c.loop-earlier.invariant

pub returns-in-Some-split_line : goal.returns-in-Some-split_line
returns-in-Some-split_line c =
    is_first c.loop-earlier.rest.now c.in-Some-split_line.line.now c.args.statement c.loop-earlier._earlier (omega (arith, c.in-Some-split_line.ensures.shorter)) c.in-Some-split_line.ensures.line (omega (arith, c.loop-earlier-test.false)) ∙ c.loop-earlier.invariant
