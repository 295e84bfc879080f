-- Why lines were not read says why commands were not.
use Rattle.std.proofs.Common.{ℕ, List}
use Rattle.std.proofs.lemmas.Result.{err_from_is_err_and}
use Rattle.std.specs.Prelude.{Err}
use Rattle.operator_script.specs.Lines.{ReadsLines}
use Rattle.operator_script.specs.declared.lines.LineFault.{LineFault}
use Rattle.operator_script.specs.declared.lines.LineFault.TheVariants as lines
use Rattle.console_debug.specs.Grammar.{command_of, commands_of}
use Rattle.console_debug.specs.CommandLists.{ReadsAsCommands, command_fault_of}
use Rattle.console_debug.proofs.commands.Commands.read.Goals as goal

refused : (positions : ℕ) (bytes : List ℕ) (fault : LineFault) → ReadsLines (command_of positions) bytes (Err fault) → ReadsAsCommands positions bytes (Err (command_fault_of fault))
unfolding commands_of
refused positions bytes (lines.BadLine line) reads = reads
refused positions bytes lines.Memory reads = reads

pub returns-in_err-list-clause-lines : goal.returns-in_err-list-clause-lines
returns-in_err-list-clause-lines c =
    let p = err_from_is_err_and c.from_residual.result c.from_residual.ensures.1 in
    rw (p.1, p.2) (refused c.args.positions c.args.bytes.now c.in_err-list.field-0.0 c.in_err-list.ensures.lines)

pub returns-clause-lines : goal.returns-clause-lines
unfolding commands_of
returns-clause-lines c = c.in_ok-list.ensures.lines
