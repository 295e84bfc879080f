-- By the table of cells of characters that are read numerically.
use Rattle.std.proofs.Common.{rules}
use Rattle.card_code.specs.Characters.{num_of}
use Rattle.card_code.specs.declared.tables.TheConstants.{NUM_CELLS}
use Rattle.card_code.proofs.CellTables.{cells_by_table, num_cells, num_sixes}
use Rattle.card_code.proofs.words.num_word.Goals as goal

pub returns : goal.returns
returns c = cells_by_table num_of NUM_CELLS num_cells c.args.text.now (λ k. let f = c.type_inv.text k in search rules) c.word_by.result c.word_by.ensures

pub word_by-requires-clause-sixes : goal.word_by-requires-clause-sixes
word_by-requires-clause-sixes c = num_sixes
