-- By the table of pairs' cells.
use Rattle.std.proofs.Common.{rules}
use Rattle.card_code.proofs.PairCells.{pairs_by_table}
use Rattle.card_code.proofs.pair_words.pair_word.Goals as goal

pub returns : goal.returns
returns c = pairs_by_table c.args.text.now (λ k. let f = c.type_inv.text k in search rules) c.pairs_by.result c.pairs_by.ensures
