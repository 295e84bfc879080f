-- By the table of cells' object characters.
use Rattle.card_code.specs.Characters.{object_char}
use Rattle.card_code.specs.declared.tables.TheConstants.{OBJECT_CHARS}
use Rattle.card_code.proofs.CellTables.{puts_by_table, object_chars}
use Rattle.card_code.proofs.words.put_object_chars.Goals as goal

pub returns-clause-puts : goal.returns-clause-puts
returns-clause-puts c = puts_by_table object_char OBJECT_CHARS object_chars c.args.word c.put_by.new.into c.put_by.result c.put_by.ensures.puts
