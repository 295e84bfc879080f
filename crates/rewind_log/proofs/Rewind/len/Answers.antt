-- Each entry has its place.
use Rattle.std.proofs.Common.{◌∙◌, sym}
use Rattle.rewind_log.proofs.Places.{length_places}
use Rattle.rewind_log.proofs.Rewind.len.Goals as goal

pub returns-clause-len : goal.returns-clause-len
returns-clause-len g c = rw (← c.self.view_is) (c.len.ensures.len ∙ sym (length_places g.row.M c.self.inside.latest c.self.inside.entries.items))
