use Rattle.std.proofs.Common.{◌≡◌, ◌∙◌, [], ℕ, sym}
use Rattle.std.specs.Prelude.{Ok, Err}
use Rattle.operator_script.specs.declared.script.ScriptFault.TheVariants.{BadLine}
use Rattle.operator_script.specs.declared.script.Script.{Script}
use Rattle.operator_script.specs.Scripts.{ReadsAsScript, lines_left}
use Rattle.operator_script.proofs.NoLines.{nothing_read}
use Rattle.ibm1620_cli.proofs.execute.no_script.Goals as goal

no_bad_line : (line : ℕ) → ReadsAsScript 0 [] (Err (BadLine line)) → ⊥
no_bad_line line reads = let both : Ok [] ≡ Err line = sym (nothing_read 0) ∙ reads in cc

no_line : (script : Script) → ReadsAsScript 0 [] (Ok script) → lines_left script ≡ []
no_line script reads = let both : Ok [] ≡ Ok (lines_left script) = sym (nothing_read 0) ∙ reads in cc

pub unreachable-requires : goal.unreachable-requires
unreachable-requires c = no_bad_line c.in-Err-BadLine.field-0-0 (rw c.in-Err-BadLine.field-0-is at c.in-Err-BadLine.ensures.lines)

pub returns-in-Ok : goal.returns-in-Ok
returns-in-Ok c = no_line c.in-Ok.script c.in-Ok.ensures.lines
