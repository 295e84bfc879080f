use Rattle.std.proofs.Common.{◌∙◌}
use Rattle.card_code.proofs.PairTables.{pair_char_found}
use Rattle.card_code.proofs.pairs.punch_alpha.Goals as goal

pub returns : goal.returns
returns c = c.pair_char_entry.ensures ∙ pair_char_found c.args.z c.args.n
