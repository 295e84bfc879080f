-- By the table.
use Rattle.std.proofs.Common.{◌<◌, rules}
use Rattle.sps_scan.proofs.AllowedTable.{allowed_at}
use Rattle.sps_scan.proofs.characters.is_allowed.Goals as goal

pub returns : goal.returns
returns c = let below : c.args.b < 256 = search rules in rw c.from.ensures (allowed_at c.args.b below)
