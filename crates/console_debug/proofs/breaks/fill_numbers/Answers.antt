-- One statement after another.
use Rattle.std.proofs.Common.{◌≡◌, ◌∙◌, ◌<◌, ◌+◌, ℕ, List, length, map, take, rules, refl, sym, ap, subst, arith}
use Rattle.std.specs.Prelude.{slice_index_or, unwrap_or}
use Rattle.sps_pass_two.specs.Making.{text_of_placed}
use Rattle.sps_listing.specs.Listing.{last_statement_at}
use Rattle.console_debug.proofs.Marks.{zeros}
use Rattle.console_debug.proofs.Numbers.{numbers_same, numbers_put}
use Rattle.console_debug.proofs.breaks.fill_numbers.Goals as goal

pub loop-placed-init : goal.loop-placed-init
unfolding last_statement_at
loop-placed-init c = record {
  counted = refl;
  items = c.as_slice-placed-items.ensures;
  numbers = λ a inside. ap (λ (xs : List ℕ). slice_index_or xs a 0) (c.fill.ensures.items (λ y is. search (rules, is))) ∙ zeros _ a;
}

pub loop-placed-preserved-in_default : goal.loop-placed-preserved-in_default
loop-placed-preserved-in_default c =
    let kept = c.loop-placed.invariant in
    record {
      counted = omega (arith, kept.counted);
      items = kept.items;
      numbers = numbers_same c.as_slice-placed-items.result.now c.loop-placed.placed-index c.placed-item.result c.loop-placed-test.true c.placed-item.is c.loop-placed.numbers.items kept.numbers
          (sym c.instruction_address.ensures ∙ c.in_default.is);
    }

pub loop-placed-preserved : goal.loop-placed-preserved
loop-placed-preserved c =
    let kept = c.loop-placed.invariant in
    record {
      counted = omega (arith, kept.counted);
      items = kept.items;
      numbers = subst (λ (xs : List ℕ). (a : ℕ) → a < length xs → slice_index_or xs a 0 ≡ unwrap_or (last_statement_at 1 a (map text_of_placed (take (c.loop-placed.placed-index + 1) c.as_slice-placed-items.result.now))) 0)
          (sym c.put.ensures)
          (numbers_put c.as_slice-placed-items.result.now c.loop-placed.placed-index c.placed-item.result c.loop-placed-test.true c.placed-item.is c.loop-placed.numbers.items kept.numbers
          c.in-Some.address (c.loop-placed.number + 1) (sym c.instruction_address.ensures ∙ c.in-Some.is) (omega (arith, kept.counted)));
    }
