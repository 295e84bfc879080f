use Rattle.std.proofs.Common.{◌≡◌, ◌+◌, drop}
use Rattle.card_code.specs.Readings.{bad_from, with_bad}
use Rattle.card_code.proofs.tally.Tally.take_up.Given as goal

-- what is still to be taken up of the text completes it
abbrev pub invariant-loop-byte : goal.invariant-loop-byte
invariant-loop-byte l =
    (l.column ≡ l.byte-index + 1)
    × (with_bad (bad_from l.unit l.line l.how l.column (drop l.byte-index l.text)) l.self ≡ with_bad (bad_from l.unit l.line l.how 1 l.text) l.initial.self)
