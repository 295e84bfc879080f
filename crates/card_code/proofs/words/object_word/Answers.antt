-- By the table of object characters' cells.
use Rattle.std.proofs.Common.{rules}
use Rattle.card_code.specs.Characters.{object_digit}
use Rattle.card_code.specs.declared.tables.TheConstants.{OBJECT_CELLS}
use Rattle.card_code.proofs.CellTables.{cells_by_table, object_cells, object_sixes}
use Rattle.card_code.proofs.words.object_word.Goals as goal

pub returns : goal.returns
returns c = cells_by_table object_digit OBJECT_CELLS object_cells c.args.text.now (λ k. let f = c.type_inv.text k in search rules) c.word_by.result c.word_by.ensures

pub word_by-requires-clause-sixes : goal.word_by-requires-clause-sixes
word_by-requires-clause-sixes c = object_sixes
