use Rattle.std.proofs.Common.{◌≡◌, ◌++◌, map, take}
use Rattle.card_code.specs.Characters.{object_char}
use Rattle.card_columns.proofs.columns.Columns.digits.Given as goal

abbrev pub invariant-loop-digit : goal.invariant-loop-digit
invariant-loop-digit l = l.self ≡ l.initial.self ++ map object_char (take l.digit-index l.digits)
