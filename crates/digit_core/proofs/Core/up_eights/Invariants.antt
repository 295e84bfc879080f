-- The search from here comes to what the whole search does.
use Rattle.std.proofs.Common.{◌-◌, ◌≤◌}
use Rattle.digit_core.specs.Search.{AgreeUp}
use Rattle.digit_core.proofs.Core.up_eights.Given as goal

abbrev pub invariant-loop-at : goal.invariant-loop-at
invariant-loop-at g l = record { low : l.i ≤ l.at; high : l.at ≤ l.end; rest : AgreeUp g.S.Sought.passes l.self l.end l.at l.i }

abbrev pub decreases-loop-at : goal.decreases-loop-at
decreases-loop-at g l = l.end - l.at
