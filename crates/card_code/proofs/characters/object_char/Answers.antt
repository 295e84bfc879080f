use Rattle.std.proofs.Common.{◌∙◌}
use Rattle.card_code.proofs.DigitTables.{object_char_found}
use Rattle.card_code.proofs.characters.object_char.Goals as goal

pub returns : goal.returns
returns c = c.char_entry.ensures ∙ object_char_found c.args.d c.requires
