use Rattle.std.proofs.Common.{◌≡◌, ◌+◌, ◌*◌, ◌/◌, ◌%◌, ◌∙◌, ap, arith}
use Rattle.digit_core.specs.Packed.{cells_of}
use Rattle.digit_core.proofs.Moving.{all_taken}
use Rattle.digit_core.proofs.Sixes.{length_cells}
use Rattle.digit_core.proofs.SoundCore.{copied_sound, repacked}
use Rattle.digit_core.specs.declared.standard_tables.AddTable.TheVariants.{Unseen}
use Rattle.digit_core.proofs.AddTable.{none_known}
use Rattle.digit_core.proofs.Core.copy_words_up.Goals as goal

pub whole_up-requires : goal.whole_up-requires
whole_up-requires g c = record {
  order = omega arith;
  room = omega arith;
  sixty_bits = rw c.deref_mut.ensures.value c.self.invariant.sixty_bits;
}

pub across_up-requires : goal.across_up-requires
across_up-requires g c = record {
  place = omega arith;
  order = omega arith;
  room = omega arith;
  sixty_bits = rw c.deref_mut-else-from-eq0.ensures.value c.self.invariant.sixty_bits;
}

pub invariant_of-self : goal.invariant_of-self
invariant_of-self g c =
    let ws = c.self.inside.words.items in
    let l = c.self.invariant.is_length in
    let k = length_cells ws in
    repacked g.row.M c.self.inside.words.len ws c.whole_up.new.words c.self.inside.sound c.self.inside.sound c.self.inside.add_table Unseen c.self.invariant (omega arith) (rw c.deref_mut.ensures.value at c.whole_up.ensures.length) c.whole_up.ensures.sixty_bits
    (λ sound. rw (c.whole_up.ensures.cells, c.deref_mut.ensures.value) (copied_sound (cells_of ws) (c.self.invariant.is_sound sound) (10 * c.args.i) (10 * (c.args.from / 10)) (10 * c.args.count) (omega arith)))
    (none_known (cells_of c.whole_up.new.words))

pub invariant_of-self-else-from-eq0 : goal.invariant_of-self-else-from-eq0
invariant_of-self-else-from-eq0 g c =
    let ws = c.self.inside.words.items in
    let l = c.self.invariant.is_length in
    let k = length_cells ws in
    repacked g.row.M c.self.inside.words.len ws c.across_up.new.words c.self.inside.sound c.self.inside.sound c.self.inside.add_table Unseen c.self.invariant (omega arith) (rw c.deref_mut-else-from-eq0.ensures.value at c.across_up.ensures.length) c.across_up.ensures.sixty_bits
    (λ sound. rw (c.across_up.ensures.cells, c.deref_mut-else-from-eq0.ensures.value) (copied_sound (cells_of ws) (c.self.invariant.is_sound sound) (10 * c.args.i) (10 * (c.args.from / 10) + c.args.from % 10) (10 * c.args.count) (omega arith)))
    (none_known (cells_of c.across_up.new.words))

pub returns-then-from-eq0 : goal.returns-then-from-eq0
returns-then-from-eq0 g c =
    let all = all_taken c.whole_up.new.words c.self.inside.words.items c.self.inside.words.len (omega arith) in
    let at : 10 * (c.args.from / 10) ≡ c.args.from = omega arith in
    rw (← c.self.view_is) (ap cells_of all ∙ (rw (at, c.deref_mut.ensures.value) at c.whole_up.ensures.cells))

pub returns-else-from-eq0 : goal.returns-else-from-eq0
returns-else-from-eq0 g c =
    let all = all_taken c.across_up.new.words c.self.inside.words.items c.self.inside.words.len (omega arith) in
    let at : 10 * (c.args.from / 10) + c.args.from % 10 ≡ c.args.from = omega arith in
    rw (← c.self.view_is) (ap cells_of all ∙ (rw (at, c.deref_mut-else-from-eq0.ensures.value) at c.across_up.ensures.cells))
