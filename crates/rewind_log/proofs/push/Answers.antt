-- What the newest place differed in is kept, and the new one is the newest.
use Rattle.std.proofs.Common.{◌≡◌, ℕ, ◌*◌, List, ◌∷◌, length, take, sym, ◌∙◌, ap, arith}
use Rattle.circular_buffer.specs.Buffer.{Buffer}
use Rattle.digit_core.specs.{core_mixture}
use Rattle.digit_core.proofs.TakenCells.{mixed_all, mixed_back}
use Rattle.rewind_log.specs.declared.LogEntry.{LogEntry}
use Rattle.rewind_log.specs.Entries.{core_before, places_of_entries}
use Rattle.rewind_log.proofs.Places.{place_kept}
use Rattle.rewind_log.proofs.push.Goals as goal

pub returns-clause-places : goal.returns-clause-places
returns-clause-places g c =
    let m = g.row.M in
    let latest = c.args.latest.now in
    let core = c.args.machine.now.core in
    let es = c.args.entries.now.items in
    let from = 10 * c.args.from in
    let to = 10 * c.args.to in
    let long : length core ≡ length latest = c.size_law-2.ensures.length ∙ sym c.size_law.ensures.length in
    let long_old : length c.core_for_one-old.result ≡ length latest = c.size_law-3.ensures.length ∙ sym c.size_law.ensures.length in
    let now : c.copy_words-2.new.self ≡ core = c.copy_words-2.ensures ∙ mixed_all latest core from to long c.requires.same in
    let e : LogEntry m = record {
      regs = c.args.machine.now.regs;
      panel = c.args.machine.now.panel;
      arms = c.args.machine.now.arms;
      mode = c.args.machine.now.mode;
      steps = c.args.steps;
      from = c.args.from;
      to = c.args.to;
      old = c.copy_words.new.self;
    } in
    let before : core_before m core e ≡ latest = ap (λ (x : List ℕ). core_mixture core x from to) c.copy_words.ensures ∙ mixed_back latest core c.core_for_one-old.result from to long long_old c.requires.same in
    ap (λ (b : Buffer (LogEntry m)). places_of_entries m c.copy_words-2.new.self b.items) c.push_front.ensures.items
    ∙ ap (λ (x : List ℕ). places_of_entries m x (take c.core_for_one-old.new.entries.capacity (e ∷ c.core_for_one-old.new.entries.items))) now
    ∙ ap (λ n. places_of_entries m core (take n (e ∷ c.core_for_one-old.new.entries.items))) (c.core_for_one-old.ensures.capacity ∙ c.requires.held.capacity)
    ∙ place_kept m latest core es c.core_for_one-old.new.entries.items e c.core_for_one-old.ensures.items (omega (arith, c.core_for_one-old.ensures.all)) before
