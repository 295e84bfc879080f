-- The items so far, in front of what the rest comes to, are what the whole comes to; each is as the grammar gives it.
use Rattle.std.proofs.Common.{◌≡◌, ◌+◌, ◌≤◌, length, All}
use Rattle.outside_io.specs.Lines.{texts_of}
use Rattle.operator_script.specs.Lines.{items_from, items_of_lines}
use Rattle.operator_script.proofs.Reading.{with_front}
use Rattle.operator_script.proofs.lines.read_lines.Given as goal

abbrev pub invariant-loop-text : goal.invariant-loop-text
invariant-loop-text g l = record {
  counted : l.number + length l.rest ≤ length l.bytes;
  comes : with_front l.items.items (items_from (g.G.LineGrammar.item_of l.grammar) (l.number + 1) (texts_of l.rest)) ≡ items_of_lines (g.G.LineGrammar.item_of l.grammar) l.bytes;
  fits : All (g.G.LineGrammar.IsItem l.grammar) l.items.items;
}

abbrev pub decreases-loop-text : goal.decreases-loop-text
decreases-loop-text g l = length l.rest
