use Rattle.std.proofs.Common.{◌∙◌, ap}
use Rattle.std.specs.Prelude.{unwrap_or}
use Rattle.sps_scan.proofs.PartCounts.{is_small}
use Rattle.sps_scan.proofs.operands.most_parts.Goals as goal

pub returns-clause-is : goal.returns-clause-is
returns-clause-is c = c.unwrap_or.ensures ∙ ap (λ o. unwrap_or o 3) c.find.ensures

pub returns-clause-some : goal.returns-clause-some
returns-clause-some c = rw (c.unwrap_or.ensures, c.find.ensures) (is_small c.args.name.now).0

pub returns-clause-ten : goal.returns-clause-ten
returns-clause-ten c = rw (c.unwrap_or.ensures, c.find.ensures) (is_small c.args.name.now).1
