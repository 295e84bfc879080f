use Rattle.std.proofs.Common.{ℕ, List, ◌++◌, length, drop, replicate, ap}
use Rattle.card_code.proofs.FilledCards.{copied_over}
use Rattle.card_code.proofs.text.Line.new.Goals as goal

pub invariant_of-result-clause-blanks : goal.invariant_of-result-clause-blanks
invariant_of-result-clause-blanks c = copied_over c.args.text.now _ (ap (λ (xs : List ℕ). xs ++ drop (length c.args.text.now) (replicate 80 32)) c.copy_from_slice.ensures.after)
