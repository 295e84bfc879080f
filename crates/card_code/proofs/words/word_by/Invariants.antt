use Rattle.card_code.proofs.CellWords.{Joined}
use Rattle.card_code.proofs.words.word_by.Given as goal

abbrev pub invariant-loop-j : goal.invariant-loop-j
invariant-loop-j l = Joined l.table l.text l.word l.j
