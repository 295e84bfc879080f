-- The words of one entry after another are put back.
use Rattle.std.proofs.Common.{◌≡◌, ℕ, ◌-◌, List, drop, length, ◌∙◌, ap, subst, arith}
use Rattle.std.specs.Prelude.{slice_get}
use Rattle.cpu_step.specs.declared.machine.Machine.{Machine}
use Rattle.cpu_step.proofs.KeyFacts.{shown_again}
use Rattle.rewind_log.specs.Kept.{Kept}
use Rattle.rewind_log.specs.Entries.{places_of_entries}
use Rattle.rewind_log.proofs.Places.{length_places, one_undone, all_undone}
use Rattle.rewind_log.proofs.Rewind.restore.Goals as goal

pub overflow_sub-last : goal.overflow_sub-last
overflow_sub-last g c =
    let n : length c.args.self.now ≡ length c.self.inside.entries.items = rw (← c.self.view_is) (length_places g.row.M c.self.inside.latest c.self.inside.entries.items) in
    omega (arith, n, c.len.ensures.len, c.requires)

pub overflow_sub-last-2 : goal.overflow_sub-last-2
overflow_sub-last-2 g c =
    let n : length c.args.self.now ≡ length c.self.inside.entries.items = rw (← c.self.view_is) (length_places g.row.M c.self.inside.latest c.self.inside.entries.items) in
    omega (arith, n, c.len.ensures.len, c.requires)

pub loop-k-init : goal.loop-k-init
loop-k-init g c = record {
  is = ap (λ (x : List ℕ). slice_get (places_of_entries g.row.M x c.self.inside.entries.items) c.args.i) c.copy_from.ensures ∙ ap (λ (ks : List Kept). slice_get ks c.args.i) c.self.view_is;
  others = shown_again g.row.M (record c.args.machine.now { core = c.copy_from.new.self }) _;
}

pub loop-k-preserved : goal.loop-k-preserved
loop-k-preserved g c =
    let m = g.row.M in
    let es = c.self.inside.entries.items in
    let n : length c.args.self.now ≡ length es = rw (← c.self.view_is) (length_places m c.self.inside.latest es) in
    record {
      is = one_undone m c.loop-k.machine.core c.undo.new.core es c.loop-k.k c.args.i (slice_get c.args.self.now c.args.i)
          (omega (arith, n, c.len.ensures.len, c.requires, c.loop-k-test.true)) c.undo.ensures c.loop-k.invariant.is;
      others = shown_again m (record c.loop-k.machine { core = c.undo.new.core }) _ ∙ ap (λ (x : Machine m). record x { core = c.undo.new.core }) c.loop-k.invariant.others;
    }

pub stand_at-requires : goal.stand_at-requires
stand_at-requires g c =
    let n : length c.args.self.now ≡ length c.self.inside.entries.items = rw (← c.self.view_is) (length_places g.row.M c.self.inside.latest c.self.inside.entries.items) in
    omega (arith, n, c.len.ensures.len, c.requires)

pub returns : goal.returns
returns g c =
    let m = g.row.M in
    let es = c.self.inside.entries.items in
    let n : length c.args.self.now ≡ length es = rw (← c.self.view_is) (length_places m c.self.inside.latest es) in
    let k = c.len.result - 1 - c.args.i in
    let done : c.loop-k.k ≡ k = omega (arith, c.loop-k-test.false, c.loop-k.auto.k-end) in
    let here : slice_get (places_of_entries m c.loop-k.machine.core (drop k es)) c.args.i ≡ slice_get c.args.self.now c.args.i =
    subst (λ j. slice_get (places_of_entries m c.loop-k.machine.core (drop j es)) c.args.i ≡ slice_get c.args.self.now c.args.i) done c.loop-k.invariant.is in
    all_undone m c.loop-k.machine.core es k c.args.i (slice_get c.args.self.now c.args.i) (omega (arith, n, c.len.ensures.len, c.requires)) here
    c.stand_at.new.machine c.loop-k.machine c.args.machine.now c.loop-k.invariant.others c.stand_at.ensures
