use Rattle.card_code.proofs.CellWords.{Shown}
use Rattle.card_code.proofs.words.put_by.Given as goal

abbrev pub invariant-loop-j : goal.invariant-loop-j
invariant-loop-j l = Shown l.table l.word l.into l.bits l.j
