use Rattle.std.proofs.Common.{◌≡◌, ◌++◌, take, drop}
use Rattle.sps_scan.specs.Columns.{before_comma, after_comma, has_comma}
use Rattle.sps_scan.proofs.columns.split_comma.Given as goal

abbrev pub invariant-loop-i : goal.invariant-loop-i
invariant-loop-i l = record {
  before : before_comma l.text ≡ take l.i l.text ++ before_comma (drop l.i l.text);
  after : after_comma l.text ≡ after_comma (drop l.i l.text);
  has : has_comma l.text ≡ has_comma (drop l.i l.text);
}
