use Rattle.std.proofs.Common.{◌≡◌, drop}
use Rattle.std.specs.Prelude.{is_some}
use Rattle.std.specs.List.{list_all}
use Rattle.command_line.specs.Given.{values_in}
use Rattle.command_line.proofs.grammar.has_required.Given as goal

abbrev pub invariant-loop-slot : goal.invariant-loop-slot
invariant-loop-slot l = list_all (λ slot. is_some (values_in l.values slot)) (drop l.slot-index l.slots) ≡ list_all (λ slot. is_some (values_in l.values slot)) l.slots
