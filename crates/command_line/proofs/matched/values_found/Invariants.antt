use Rattle.std.proofs.Common.{◌≡◌, length}
use Rattle.clap.specs.Words.{found_of, rows_of}
use Rattle.command_line.specs.declared.options.TheConstants.{SLOT_COUNT}
use Rattle.command_line.proofs.Maps.{filled, texts_in}
use Rattle.command_line.specs.Matched.{values_found}
use Rattle.command_line.proofs.matched.values_found.Given as goal

abbrev pub invariant-loop-place : goal.invariant-loop-place
invariant-loop-place l = (texts_in l.values.0 ≡ filled l.place (values_found (rows_of (found_of l.matches)))) × (length l.values.0 ≡ SLOT_COUNT)
