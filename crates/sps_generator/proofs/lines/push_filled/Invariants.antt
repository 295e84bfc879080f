use Rattle.std.proofs.Common.{◌≡◌, ◌++◌, replicate}
use Rattle.sps_generator.proofs.lines.push_filled.Given as goal

abbrev pub invariant-loop-blank : goal.invariant-loop-blank
invariant-loop-blank l = l.source.items ≡ l.initial.source.items ++ replicate l._blank 32
