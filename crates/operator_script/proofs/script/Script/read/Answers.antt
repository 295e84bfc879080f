-- Why lines were not read says why a script was not.
use Rattle.std.proofs.Common.{ℕ, List}
use Rattle.std.proofs.lemmas.Result.{err_from_is_err_and}
use Rattle.std.specs.Prelude.{Err}
use Rattle.operator_script.specs.Lines.{ReadsLines}
use Rattle.operator_script.specs.declared.lines.LineFault.{LineFault}
use Rattle.operator_script.specs.declared.lines.LineFault.TheVariants as lines
use Rattle.operator_script.specs.Script.{line_of, script_of}
use Rattle.operator_script.specs.Scripts.{ReadsAsScript, script_fault_of}
use Rattle.operator_script.proofs.script.Script.read.Goals as goal

refused : (positions : ℕ) (bytes : List ℕ) (fault : LineFault) → ReadsLines (line_of positions) bytes (Err fault) → ReadsAsScript positions bytes (Err (script_fault_of fault))
unfolding script_of
refused positions bytes (lines.BadLine line) reads = reads
refused positions bytes lines.Memory reads = reads

pub returns-in_err-lines-clause-lines : goal.returns-in_err-lines-clause-lines
returns-in_err-lines-clause-lines c =
    let p = err_from_is_err_and c.from_residual.result c.from_residual.ensures.1 in
    rw (p.1, p.2) (refused c.args.positions c.args.bytes.now c.in_err-lines.field-0.0 c.in_err-lines.ensures.lines)

pub returns-clause-lines : goal.returns-clause-lines
unfolding script_of
returns-clause-lines c = c.in_ok-lines.ensures.lines
