use Rattle.std.proofs.Common.{◌≡◌, ◌≤◌, ◌++◌, List, ℕ, length}
use Rattle.sps_expr.specs.Reading.{without_blanks}
use Rattle.sps_expr.specs.Steps.{IsWord, run, past_run}
use Rattle.sps_expr.proofs.expression.front_word.Given as goal

abbrev pub invariant-loop-rest : goal.invariant-loop-rest
invariant-loop-rest l = record {
  done : List ℕ;
  is_word : IsWord l.word done;
  runs : run (without_blanks l.text) ≡ done ++ run (without_blanks l.rest);
  past : past_run (without_blanks l.text) ≡ past_run (without_blanks l.rest);
  shorter : length l.rest ≤ length l.text;
}

abbrev pub decreases-loop-rest : goal.decreases-loop-rest
decreases-loop-rest l = length l.rest
