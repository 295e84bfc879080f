use Rattle.std.proofs.Common.{length, map}
use Rattle.sps_pass_one.specs.Layout.{symbols_of}
use Rattle.sps_pass_two.specs.Broken.{refusal_of}
use Rattle.sps_pass_two.specs.Making.{text_of_placed}
use Rattle.sps_pass_two.proofs.Assembling.{Assembling}
use Rattle.sps_pass_two.proofs.second_pass.assemble.Given as goal

abbrev pub invariant-loop-line : goal.invariant-loop-line
invariant-loop-line l = Assembling (symbols_of l.source) l.positions l.walk l.places l.source (refusal_of l.positions l.source) l.made.start (map text_of_placed l.made.placed.items) l.made.cells.items

abbrev pub decreases-loop-line : goal.decreases-loop-line
decreases-loop-line l = length l.walk.lines
