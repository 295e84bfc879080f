-- How the bytes of a unit are read.
use Rattle.std.specs.Prelude.{ℕ, nat_lt, List, length, Result, Ok, Err, if◌then◌else◌}
use Rattle.outside_io.specs.declared.host.Unit as unit
use Rattle.ibm1620_cli.specs.declared.status.Status.{Status}
use Rattle.ibm1620_cli.specs.declared.status.Status.TheVariants.{TooLong}

-- the value that is read from a unit's bytes, or the status of a job whose input is too long
abbrev pub read_within : {A : Type 0} → ℕ → unit.Unit → (List ℕ → Result A Status) → List ℕ → Result A Status
read_within most u read text = if nat_lt most (length text) then Err (TooLong u) else read text

-- the bytes themselves, or the status of a job whose input is too long
abbrev pub text_read : ℕ → unit.Unit → List ℕ → Result (List ℕ) Status
text_read most u text = read_within most u (λ bytes. Ok bytes) text
