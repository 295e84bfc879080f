use Rattle.std.proofs.Common.{◌<◌, subst, sym}
use Rattle.messages.proofs.LowCharacters.{object_char_low}
use Rattle.messages.proofs.console.cell_char.Goals as goal

pub returns-in-Ok-clause-ascii : goal.returns-in-Ok-clause-ascii
returns-in-Ok-clause-ascii c = rw c.object_char.ensures (object_char_low c.in-Ok.digit c.in-Ok.ensures.good)
