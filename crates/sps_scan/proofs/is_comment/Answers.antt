use Rattle.std.proofs.Common.{rules}
use Rattle.sps_scan.proofs.is_comment.Goals as goal

pub returns-then-card-gt5 : goal.returns-then-card-gt5
returns-then-card-gt5 c = search rules
