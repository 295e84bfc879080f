-- The last instruction at each address, of the first statements.
use Rattle.std.proofs.Common.{◌≡◌, ◌<◌, ℕ, length, map, take}
use Rattle.std.specs.Prelude.{slice_index_or, unwrap_or}
use Rattle.sps_listing.specs.Listing.{last_statement_at}
use Rattle.sps_pass_two.specs.Making.{text_of_placed}
use Rattle.console_debug.proofs.breaks.fill_numbers.Given as goal

abbrev pub invariant-loop-placed : goal.invariant-loop-placed
invariant-loop-placed l = record {
  counted : l.number ≡ l.placed-index;
  items : l.placed-items ≡ l.assembled.placed;
  numbers : (a : ℕ) → a < length l.numbers.items
      → slice_index_or l.numbers.items a 0 ≡ unwrap_or (last_statement_at 1 a (map text_of_placed (take l.placed-index l.placed-items))) 0;
}
