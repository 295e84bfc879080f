-- One entry after another.
use Rattle.std.proofs.Common.{◌≡◌, ◌∙◌, ◌<◌, ℕ, List, [], ◌∷◌, ◌++◌, length, refl, sym, ap, arith}
use Rattle.std.specs.Prelude.{slice_index_or}
use Rattle.console_debug.specs.Breakpoints.{set_from, since_of}
use Rattle.console_debug.proofs.Marks.{entry_set, entry_passed}
use Rattle.console_debug.proofs.breaks.Breaks.settle.Goals as goal

pub loop-number-init : goal.loop-number-init
unfolding set_from
loop-number-init c = record {
  log = refl;
  since = refl;
  times = refl;
  last = sym c.len-number-end.ensures;
  few = omega (arith, c.clear.ensures.len);
  capacity = c.clear.ensures.capacity;
  statements = c.clear.ensures.items;
}

pub loop-number-preserved-then-not-is_set : goal.loop-number-preserved-then-not-is_set
loop-number-preserved-then-not-is_set c =
    let kept = c.loop-number.invariant in
    let log = c.args.self.now.log in
    let x = c.index-statement.result.now in
    let is : x ≡ slice_index_or log.items c.loop-number.number x = rw (kept.log) at c.index-statement.ensures in
    let below : c.loop-number.number < length log.items = omega (arith, c.loop-number-test.true, kept.last, log.ok.0) in
    record {
      log = kept.log;
      since = kept.since;
      times = kept.times;
      last = kept.last;
      few = omega (arith, kept.few);
      capacity = kept.capacity;
      statements = kept.statements ∙ sym (entry_passed (since_of c.args.self.now.since.items) log.items c.loop-number.number x below is (sym (rw (kept.since) at c.is_set.ensures) ∙ c.if-not-is_set.true));
    }

pub loop-number-preserved : goal.loop-number-preserved
loop-number-preserved c =
    let kept = c.loop-number.invariant in
    let log = c.args.self.now.log in
    let x = c.index-statement.result.now in
    let is : x ≡ slice_index_or log.items c.loop-number.number x = rw (kept.log) at c.index-statement.ensures in
    let below : c.loop-number.number < length log.items = omega (arith, c.loop-number-test.true, kept.last, log.ok.0) in
    record {
      log = kept.log;
      since = kept.since;
      times = kept.times;
      last = kept.last;
      few = omega (arith, kept.few, c.push_reserved.ensures.len);
      capacity = c.push_reserved.ensures.capacity ∙ kept.capacity;
      statements = c.push_reserved.ensures.items ∙ ap (λ (ys : List ℕ). ys ++ x ∷ []) kept.statements
          ∙ sym (entry_set (since_of c.args.self.now.since.items) log.items c.loop-number.number x below is (sym (rw (kept.since) at c.is_set.ensures) ∙ c.if-not-is_set.false));
    }
