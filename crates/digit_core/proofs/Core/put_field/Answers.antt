-- Core that was sound stays so, since the cells are known to hold digits, and what is known of the add table where they are none of its own.
use Rattle.std.proofs.Common.{◌∙◌, ap, arith}
use Rattle.digit_core.specs.Packed.{cells_of}
use Rattle.digit_core.proofs.Moving.{all_taken}
use Rattle.digit_core.proofs.Sixes.{length_cells}
use Rattle.digit_core.proofs.SoundCore.{repacked, written_sound}
use Rattle.digit_core.proofs.AddTable.{written_known}
use Rattle.digit_core.proofs.Core.put_field.Goals as goal

pub put_few-requires : goal.put_few-requires
put_few-requires g c = record {
  some = c.requires.some;
  few = c.requires.few;
  near = omega arith;
  room = omega arith;
  sixty_bits = rw c.deref_mut.ensures.value c.self.invariant.sixty_bits;
}

pub invariant_of-self : goal.invariant_of-self
invariant_of-self g c =
    let ws = c.self.inside.words.items in
    let l = c.self.invariant.is_length in
    let s = c.self.invariant.is_size in
    let k = length_cells ws in
    repacked g.row.M c.self.inside.words.len ws c.put_few.new.words c.self.inside.sound c.self.inside.sound c.self.inside.add_table c.note_store.new.self c.self.invariant (omega arith) (rw c.deref_mut.ensures.value at c.put_few.ensures.length) c.put_few.ensures.sixty_bits
    (λ sound.
    let is = c.self.invariant.is_sound sound in
    rw (c.put_few.ensures.cells, c.deref_mut.ensures.value) (written_sound (cells_of ws) is c.args.a c.args.n c.args.w (c.requires.sound (rw c.self.view_is at is))))
    (rw (c.note_store.ensures, c.put_few.ensures.cells, c.deref_mut.ensures.value) (written_known c.self.inside.add_table (cells_of ws) c.self.invariant.is_known c.args.a c.args.n c.args.w c.requires.few (omega (arith, l, k, s))))

pub returns : goal.returns
returns g c =
    let all = all_taken c.put_few.new.words c.self.inside.words.items c.self.inside.words.len (omega arith) in
    rw (← c.self.view_is) (ap cells_of all ∙ (rw c.deref_mut.ensures.value at c.put_few.ensures.cells))
