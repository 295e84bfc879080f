-- That a machine's keyboard has the lines of Keys is one fact, however it was shown.
use Rattle.std.proofs.Common.{◌≡◌, ℕ}
use Rattle.std.proofs.Props.{props}
use Rattle.outside_io.specs.declared.host.Unit.TheVariants as units
use Rattle.card_code.specs.declared.lines.Lines.{Lines}
use Rattle.card_code.specs.Reader.{unit_of}
use Rattle.cpu_step.specs.declared.machine.Machine.{Machine}

one_fact : (keys : Lines) → IsProp (unit_of keys ≡ units.Keys)
one_fact keys = hlevel props

-- so a machine of which it was shown once more is the same machine
pub shown_again : (m : ℕ) (machine : Machine m) (again : unit_of machine.keys ≡ units.Keys) → record machine { keys_are = again } ≡ machine
shown_again m machine again = λ i. record machine { keys_are = one_fact machine.keys again machine.keys_are i }
