-- The rows so far are those of the standard table, where they differ nowhere; and they differ nowhere where all are.
use Rattle.std.proofs.Common.{◌≡◌}
use Rattle.digit_core.proofs.AddRows.{HasRows}
use Rattle.digit_core.proofs.standard_tables.are_standard.Given as goal

abbrev pub invariant-loop-x : goal.invariant-loop-x
invariant-loop-x l = record { yes : l.differences ≡ 0 → HasRows l.words l.x; no : HasRows l.words 10 → l.differences ≡ 0 }
