use Rattle.std.proofs.Common.{◌≡◌, ◌-◌, ◌<◌, flat_map}
use Rattle.outside_io.specs.Lines.{with_line_feed}
use Rattle.sps_generator.specs.Generated.{state_at, statement_lines}
use Rattle.sps_generator.proofs.deck.generate.Given as goal

abbrev pub invariant-loop-statement : goal.invariant-loop-statement
invariant-loop-statement l = record {
  is_state : l.state ≡ state_at l.number l.statement;
  below : l.state < 2147483648;
  lines : l.source.items ≡ flat_map with_line_feed (statement_lines l.number (l.statement - 1));
}
