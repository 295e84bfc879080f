use Rattle.std.proofs.Common.{◌≡◌, drop}
use Rattle.std.specs.Prelude.{find}
use Rattle.std.specs.Str.{bytes_eq}
use Rattle.command_line.specs.Options.{slot_word}
use Rattle.command_line.proofs.options.slot_among.Given as goal

abbrev pub invariant-loop-slot : goal.invariant-loop-slot
invariant-loop-slot l = find (λ slot. bytes_eq (slot_word slot) l.word) (drop l.slot-index l.slots) ≡ find (λ slot. bytes_eq (slot_word slot) l.word) l.slots
