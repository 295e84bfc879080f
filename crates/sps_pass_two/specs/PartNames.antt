-- The parts of operands, by the operation and by its names.
use Rattle.std.specs.Prelude.{◌≡◌, ℕ, List}
use Rattle.line_words.specs.Blanks.{trimmed}
use Rattle.sps_ops.specs.Operations.{lookup}
use Rattle.sps_scan.specs.Operands.{operands_of}

-- all names of one operation give equal parts of operands, and so do all texts that name no operation
abbrev pub PartsLaw : Type 0
PartsLaw = (a b text : List ℕ) → lookup a ≡ lookup b → operands_of (trimmed a) text ≡ operands_of (trimmed b) text
