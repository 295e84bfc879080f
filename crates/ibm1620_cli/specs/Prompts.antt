-- No line of Keys is read before all that comes before it in a job is done, as a host fault shows.
use Rattle.std.specs.Prelude.{◌≡◌, ℕ, ◌+◌, ◌<◌, ◌≤◌, false, List, [], ◌∷◌, ◌++◌, length, All, Option, Some}
use Rattle.outside_io.specs.declared.host.Unit.TheVariants as units
use Rattle.outside_io.specs.World.{World, Asked}
use Rattle.outside_io.specs.Lines.{without_return}
use Rattle.outside_io.specs.Events.{lines_in}
use Rattle.card_code.specs.Entries.{entries_of_unit}
use Rattle.card_code.specs.Reader.{has_end}
use Rattle.cpu_step.specs.declared.console.Console.{Console}
use Rattle.ibm1620_cli.specs.Promise.{MachineEnd, Job, StopsAt}

-- a line as it is typed: it has no LF, no CR at its end, and 80 bytes at most
pub record IsTypedLine (line : List ℕ) : Type 0 where
  pub whole : has_end line ≡ false
  pub plain : without_return line ≡ line
  pub fits : length line ≤ 80

-- the bytes of some lines, each with a LF, and then other bytes
abbrev pub lines_before : List (List ℕ) → List ℕ → List ℕ
lines_before [] left = left
lines_before (line ∷ lines) left = line ++ 10 ∷ lines_before lines left

-- an input that was not asked
abbrev pub never_asked : Asked
never_asked = record { last = 0; ends = 0 }

-- ONE LINE WAS READ AT ONCE. The machine of a job was powered on before some lines of Keys, a last line, and more bytes. Keys was
-- not asked before the job. By now it has the bytes after these lines, and its last answer gave as many bytes as the last line
-- has with its LF.
pub record HasReadLine (j : Job) (old new : World) : Type 0 where
  pub rest : MachineEnd
  pub has_machine : j.rest ≡ Some rest
  pub earlier : List (List ℕ)
  pub last : List ℕ
  pub typed : All IsTypedLine (earlier ++ last ∷ [])
  pub first_left : ℕ
  pub more_left : List ℕ
  pub keys : rest.keys ≡ entries_of_unit units.Keys 0 (lines_before (earlier ++ last ∷ []) (first_left ∷ more_left))
  pub left : new.left units.Keys ≡ Some (first_left ∷ more_left)
  pub unasked : old.asked units.Keys ≡ Some never_asked
  pub ends : ℕ
  pub asked : new.asked units.Keys ≡ Some (record { last = length last + 1; ends = ends })

-- If a job stops so, this last line and all lines before it were taken in the part of the job that was done. So all that comes
-- before them in the list of the job was done, as the text that a program types before it reads.
abbrev pub PromptLaw : Type 0
PromptLaw = (j : Job) (old new : World) (read : HasReadLine j old new) (shown : Option Console) (stops : StopsAt j shown old new)
    → length read.earlier < lines_in stops.did.done
