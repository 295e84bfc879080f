-- Core that was sound stays so, since the cells are known to hold digits.
use Rattle.std.proofs.Common.{◌∙◌, ◌+◌, ◌*◌, ap, arith}
use Rattle.digit_core.specs.Packed.{cells_of}
use Rattle.digit_core.proofs.Moving.{all_taken}
use Rattle.digit_core.specs.declared.standard_tables.AddTable.TheVariants.{Unseen}
use Rattle.digit_core.proofs.SoundCore.{repacked, written_sound}
use Rattle.digit_core.proofs.AddTable.{none_known}
use Rattle.digit_core.proofs.Core.put_ten_digits_of.Goals as goal

pub put_ten-requires : goal.put_ten-requires
put_ten-requires g c = record {
  place = c.requires.place;
  room = omega arith;
  sixty_bits = rw c.deref_mut.ensures.value c.self.invariant.sixty_bits;
}

pub invariant_of-self : goal.invariant_of-self
invariant_of-self g c =
    let ws = c.self.inside.words.items in
    repacked g.row.M c.self.inside.words.len ws c.put_ten.new.words c.self.inside.sound c.self.inside.sound c.self.inside.add_table Unseen c.self.invariant (omega arith) (rw c.deref_mut.ensures.value at c.put_ten.ensures.length) c.put_ten.ensures.sixty_bits
    (λ sound.
    let is = c.self.invariant.is_sound sound in
    rw (c.put_ten.ensures.cells, c.deref_mut.ensures.value) (written_sound (cells_of ws) is (10 * c.args.i + c.args.j) 10 c.args.w (c.requires.sound (rw c.self.view_is at is))))
    (none_known (cells_of c.put_ten.new.words))

pub returns : goal.returns
returns g c =
    let all = all_taken c.put_ten.new.words c.self.inside.words.items c.self.inside.words.len (omega arith) in
    rw (← c.self.view_is) (ap cells_of all ∙ (rw c.deref_mut.ensures.value at c.put_ten.ensures.cells))
