-- Words of a sound core leave core as sound as it was.
use Rattle.std.proofs.Common.{◌∙◌, ◌*◌, true≢false, sym, arith}
use Rattle.digit_core.specs.Packed.{cells_of}
use Rattle.digit_core.proofs.Sixes.{length_cells}
use Rattle.digit_core.proofs.SoundCore.{mixed_sound, repacked}
use Rattle.digit_core.proofs.Core.copy_words.Goals.{then-self, else-self}
use Rattle.digit_core.specs.declared.standard_tables.AddTable.TheVariants.{Unseen}
use Rattle.digit_core.proofs.AddTable.{none_known}
use Rattle.digit_core.proofs.Core.copy_words.Goals as goal

pub invariant_of-self : goal.invariant_of-self
invariant_of-self g c =
    let ws = c.self.inside.words.items in
    let fs = c.from.inside.words.items in
    let long = length_cells ws in
    let from_long = length_cells fs in
    repacked g.row.M c.self.inside.words.len ws c.copy_between.new.words c.self.inside.sound c.if-self.self c.self.inside.add_table Unseen c.self.invariant (omega arith) (rw c.deref_mut.ensures.value at c.copy_between.ensures.length) c.copy_between.ensures.sixty_bits
    (λ sound. elim c.if-self.branch [
      | then-self w ↦ rw (c.copy_between.ensures.cells, c.deref_mut.ensures.value, c.deref.ensures.value) (mixed_sound (cells_of ws) (c.self.invariant.is_sound w.if-self.true) (cells_of fs) (10 * c.args.i) (10 * c.args.end) (omega (arith, c.self.invariant.is_length, c.from.invariant.is_length)) (c.from.invariant.is_sound (sym w.self-is ∙ sound)))
      | else-self w ↦ absurd (true≢false (sym sound ∙ w.self-is ∙ w.if-self.false))
    ])
    (none_known (cells_of c.copy_between.new.words))
