-- The statements of the first entries that count.
use Rattle.std.proofs.Common.{◌≡◌, ◌≤◌, take}
use Rattle.std.specs.Prelude.{vec_capacity, vec_len}
use Rattle.console_debug.specs.Breakpoints.{set_from, since_of}
use Rattle.console_debug.proofs.breaks.Breaks.settle.Given as goal

abbrev pub invariant-loop-number : goal.invariant-loop-number
invariant-loop-number l = record {
  log : l.self.log ≡ l.fn.self.log;
  since : l.self.since ≡ l.fn.self.since;
  times : l.self.times ≡ l.fn.self.times;
  last : vec_len l.fn.self.log ≡ l.number-end;
  few : vec_len l.self.statements ≤ l.number;
  capacity : vec_capacity l.self.statements ≡ vec_capacity l.fn.self.statements;
  statements : l.self.statements.items ≡ set_from (since_of l.fn.self.since.items) 0 (take l.number l.fn.self.log.items);
}
