-- None of the first entries that count is of a statement at the address.
use Rattle.std.proofs.Common.{◌≡◌, false, take}
use Rattle.std.specs.Prelude.{vec_len}
use Rattle.std.specs.List.{list_any}
use Rattle.sps_listing.specs.Listing.{placed_texts}
use Rattle.console_debug.specs.Breakpoints.{set_from, since_of}
use Rattle.console_debug.specs.Places.{is_at, statement_address}
use Rattle.console_debug.proofs.breaks.Breaks.has_break_beyond.Given as goal

abbrev pub invariant-loop-number : goal.invariant-loop-number
invariant-loop-number l = record {
  last : vec_len l.self.log ≡ l.number-end;
  none : list_any (λ s. is_at l.ir (statement_address (placed_texts l.assembled) s)) (set_from (since_of l.self.since.items) 0 (take l.number l.self.log.items)) ≡ false;
}
