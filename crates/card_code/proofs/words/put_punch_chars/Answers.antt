-- By the table of characters that cells are punched as.
use Rattle.card_code.specs.Characters.{punch_num}
use Rattle.card_code.specs.declared.tables.TheConstants.{PUNCH_CHARS}
use Rattle.card_code.proofs.CellTables.{puts_by_table, punch_chars}
use Rattle.card_code.proofs.words.put_punch_chars.Goals as goal

pub returns-clause-puts : goal.returns-clause-puts
returns-clause-puts c = puts_by_table punch_num PUNCH_CHARS punch_chars c.args.word c.put_by.new.into c.put_by.result c.put_by.ensures.puts
