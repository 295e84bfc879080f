use Rattle.std.proofs.Common.{◌∙◌}
use Rattle.card_code.proofs.DigitTables.{punch_num_found}
use Rattle.card_code.proofs.characters.punch_num.Goals as goal

pub returns : goal.returns
returns c = c.char_entry.ensures ∙ punch_num_found c.args.d c.requires
