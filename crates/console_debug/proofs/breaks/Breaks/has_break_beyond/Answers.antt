-- One entry after another.
use Rattle.std.proofs.Common.{◌≡◌, ◌∙◌, ◌<◌, ◌+◌, ℕ, Bool, length, refl, sym, ap, arith}
use Rattle.std.specs.List.{list_any}
use Rattle.sps_listing.specs.Listing.{placed_texts}
use Rattle.console_debug.specs.Breakpoints.{is_set, set_from, since_of}
use Rattle.console_debug.specs.Places.{is_at, statement_address}
use Rattle.console_debug.proofs.Marks.{entry_set, entry_passed}
use Rattle.console_debug.proofs.Tables.{any_from, none_more}
use Rattle.console_debug.proofs.breaks.Breaks.has_break_beyond.Goals as goal

pub loop-number-init : goal.loop-number-init
unfolding set_from
loop-number-init c = record { last = sym c.len-number-end.ensures; none = refl }

pub loop-number-preserved-then-not-is_set : goal.loop-number-preserved-then-not-is_set
loop-number-preserved-then-not-is_set c =
    let kept = c.loop-number.invariant in
    let log = c.args.self.now.log in
    let x = c.index-statement.result.now in
    let p : ℕ → Bool = λ s. is_at c.args.ir (statement_address (placed_texts c.args.assembled.now) s) in
    let below : c.loop-number.number < length log.items = omega (arith, c.loop-number-test.true, kept.last, log.ok.0) in
    record {
      last = kept.last;
      none = ap (list_any p) (entry_passed (since_of c.args.self.now.since.items) log.items c.loop-number.number x below c.index-statement.ensures (sym c.is_set.ensures ∙ c.if-not-is_set.true)) ∙ kept.none;
    }

pub returns-then-is_at : goal.returns-then-is_at
returns-then-is_at c =
    let log = c.args.self.now.log in
    let x = c.index-statement.result.now in
    let i = c.loop-number.number in
    let p : ℕ → Bool = λ s. is_at c.args.ir (statement_address (placed_texts c.args.assembled.now) s) in
    let below : i < length log.items = omega (arith, c.loop-number-test.true, c.loop-number.invariant.last, log.ok.0) in
    let at : 0 + i ≡ i = omega arith in
    sym (any_from (since_of c.args.self.now.since.items) p 0 log.items i x below c.index-statement.ensures
    (ap (λ k. is_set (since_of c.args.self.now.since.items) k x) at ∙ sym c.is_set.ensures ∙ c.if-not-is_set.false) (sym c.is_at.ensures ∙ c.if-is_at.true))

pub loop-number-preserved : goal.loop-number-preserved
loop-number-preserved c =
    let kept = c.loop-number.invariant in
    let log = c.args.self.now.log in
    let x = c.index-statement.result.now in
    let p : ℕ → Bool = λ s. is_at c.args.ir (statement_address (placed_texts c.args.assembled.now) s) in
    let below : c.loop-number.number < length log.items = omega (arith, c.loop-number-test.true, kept.last, log.ok.0) in
    record {
      last = kept.last;
      none = ap (list_any p) (entry_set (since_of c.args.self.now.since.items) log.items c.loop-number.number x below c.index-statement.ensures (sym c.is_set.ensures ∙ c.if-not-is_set.false))
          ∙ none_more p _ x kept.none (sym c.is_at.ensures ∙ c.if-is_at.false);
    }
