use Rattle.std.proofs.Common.{◌≡◌, map, string_bytes, length}
use Rattle.command_line.specs.declared.options.TheConstants.{SLOT_COUNT}
use Rattle.command_line.specs.Words.{values_in_words}
use Rattle.command_line.proofs.Maps.{texts_in}
use Rattle.command_line.proofs.SettingWords.{if_required, words_collected}
use Rattle.command_line.proofs.grammar.values_of.Given as goal

abbrev pub invariant-loop-rest : goal.invariant-loop-rest
invariant-loop-rest l = (if_required l.command (words_collected l.command (texts_in l.values.0) (map string_bytes l.rest)) ≡ values_in_words l.command (map string_bytes l.words)) × (length l.values.0 ≡ SLOT_COUNT)

abbrev pub decreases-loop-rest : goal.decreases-loop-rest
decreases-loop-rest l = length l.rest
