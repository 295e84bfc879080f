-- The digits that stand on the card so far, and those that are left.
use Rattle.std.proofs.Common.{◌≡◌, ◌++◌, drop, map}
use Rattle.card_code.specs.Characters.{object_char}
use Rattle.deck_punch.proofs.DenseTexts.{stripped}
use Rattle.deck_punch.proofs.dense.punch.Given as goal

abbrev pub invariant-loop-digit : goal.invariant-loop-digit
invariant-loop-digit l =
    l.columns ++ map object_char (stripped l.due (drop l.digit-index l.digit-items)) ≡ l.initial.columns ++ map object_char (stripped l.initial.due l.initial.digit-items)
