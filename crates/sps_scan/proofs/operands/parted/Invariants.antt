use Rattle.std.proofs.Common.{◌≡◌, ◌≤◌, ◌-◌, ◌++◌, [], take, drop, map, length, replicate}
use Rattle.sps_scan.specs.Operands.{parts_of, remark_of}
use Rattle.sps_scan.specs.Statement.{now_of}
use Rattle.sps_scan.proofs.operands.parted.Given as goal

abbrev pub invariant-loop-count : goal.invariant-loop-count
invariant-loop-count l = record {
  in_most : l.count ≤ l.most;
  ten : length l.parts ≡ 10;
  so_far : take l.count (map now_of l.parts) ++ parts_of (l.most - l.count) l.rest ≡ parts_of l.most l.text;
  past : drop l.count (map now_of l.parts) ≡ replicate (10 - l.count) [];
  remark : remark_of (l.most - l.count) l.rest ≡ remark_of l.most l.text;
}

abbrev pub decreases-loop-count : goal.decreases-loop-count
decreases-loop-count l = l.most - l.count
