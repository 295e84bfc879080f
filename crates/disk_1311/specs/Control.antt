-- The control field of the disk: the 14 digits from P upwards.
-- Source: 1311 manual, disk control field; the numbers of the drives, and the order of the checks, are this project's
-- own.
use Rattle.std.specs.Prelude.{ℕ, ◌+◌, ◌*◌, ◌&&◌, nat_le, List, [], ◌∷◌, take, drop, if◌then◌else◌, Result, Ok, Err}
use Rattle.addr_indirect.specs.declared.Stop.{Stop}
use Rattle.addr_indirect.specs.declared.Stop.TheVariants.{Device}
use Rattle.addr_indirect.specs.Steps.{◌>>=◌}
use Rattle.disk_1311.specs.declared.control.Control.{Control}
use Rattle.addr_indirect.specs.Reading.{decimals_up}
use Rattle.disk_1311.specs.declared.control.TheConstants.{CONTROL_LENGTH}

-- the number of some digits, the highest first; n is the number of the digits before them
abbrev pub number_from : ℕ → List ℕ → ℕ
number_from n [] = n
number_from n (v ∷ vs) = number_from (10 * n + v) vs

abbrev pub number_of_digits : List ℕ → ℕ
number_of_digits vs = number_from 0 vs

-- drive, sector, count and core address have 1, 5, 3 and 5 digits
abbrev pub control_of : List ℕ → Control
control_of vs = record {
  drive = number_of_digits (take 1 vs);
  sector = number_of_digits (take 5 (drop 1 vs));
  count = number_of_digits (take 3 (drop 6 vs));
  address = number_of_digits (take 5 (drop 9 vs));
}

-- the drives are numbered from 1
abbrev pub on_drives : ℕ → Control → Result Control Stop
on_drives drives c = if nat_le 1 c.drive && nat_le c.drive drives then Ok c else Err Device

-- the control field at P, for this number of drives: all 14 cells are read, and then the drive is checked
unfoldable pub control_field : List ℕ → ℕ → ℕ → Result Control Stop
control_field core p drives = do
  vs ← decimals_up core p CONTROL_LENGTH
  on_drives drives (control_of vs)
