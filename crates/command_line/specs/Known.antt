-- The file names and the size of core of words that were read.
use Rattle.std.specs.Prelude.{ℕ, List, Option, Some, None, Result, Ok, Err, option_map}
use Rattle.std.specs.declared.alloc.AllocError.{AllocError}
use Rattle.outside_io.specs.declared.host.Unit as unit
use Rattle.command_line.specs.declared.given.Plain.{Plain}
use Rattle.command_line.specs.declared.said.Read.{Read}
use Rattle.command_line.specs.declared.words.CoreSize.{CoreSize}
use Rattle.command_line.specs.declared.words.CoreSize.TheVariants.{OneModule}
use Rattle.command_line.specs.Given.{meaning_of}
use Rattle.command_line.specs.Words.{names_of}

-- the name of a unit's file by what was read; None if the words name none, are not plain, or memory was lacking
abbrev pub file_in : Result (Option Plain) AllocError → unit.Unit → Option (List ℕ)
file_in (Ok plain) u = names_of (option_map meaning_of plain) u
file_in (Err e) u = None

abbrev pub file_of : Read → unit.Unit → Option (List ℕ)
file_of read u = file_in read.said u

-- the size of core by what was read, and the smallest if it is not known
abbrev pub core_by : Result (Option Plain) AllocError → CoreSize
core_by (Ok (Some plain)) = plain.core
core_by said = OneModule

abbrev pub core_of : Read → CoreSize
core_of read = core_by read.said
