-- The digits so far, and those that are left.
use Rattle.std.proofs.Common.{◌≡◌, ◌^◌, ◌<◌, drop}
use Rattle.line_words.proofs.Numbers.{digits_from}
use Rattle.line_words.proofs.words.number.Given as goal

abbrev pub invariant-loop-c : goal.invariant-loop-c
invariant-loop-c l = record {
  small : l.n < 10 ^ l.c-index;
  number : digits_from l.n (drop l.c-index l.word) ≡ digits_from 0 l.word;
}
