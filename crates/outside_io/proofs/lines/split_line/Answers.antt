-- The two ways to end a line.
use Rattle.std.proofs.Common.{◌∙◌, sym, ap}
use Rattle.outside_io.specs.Lines.{without_return}
use Rattle.outside_io.proofs.SplitLines.{line_before, all_after, line_whole, nothing_behind}
use Rattle.outside_io.proofs.lines.split_line.Goals as goal

-- a LF was found
pub returns-in-Some-clause-line : goal.returns-in-Some-clause-line
returns-in-Some-clause-line c = c.without_return.ensures ∙ ap without_return (sym (line_before c.args.bytes.now c.in-Some.end c.in-Some.ensures))

pub returns-in-Some-clause-behind : goal.returns-in-Some-clause-behind
returns-in-Some-clause-behind c = all_after c.args.bytes.now c.in-Some.end c.in-Some.ensures

-- no LF was found
pub returns-in-None-clause-line : goal.returns-in-None-clause-line
returns-in-None-clause-line c = c.without_return-in-None.ensures ∙ ap without_return (sym (line_whole c.args.bytes.now c.in-None.ensures))

pub returns-in-None-clause-behind : goal.returns-in-None-clause-behind
returns-in-None-clause-behind c = sym (nothing_behind c.args.bytes.now c.in-None.ensures)
