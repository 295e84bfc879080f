-- Core that was sound stays so, since the cells are known to hold digits.
use Rattle.std.proofs.Common.{◌∙◌, ap, arith}
use Rattle.digit_core.specs.Packed.{cells_of}
use Rattle.digit_core.proofs.Moving.{all_taken}
use Rattle.digit_core.proofs.SoundCore.{repacked, written_sound}
use Rattle.digit_core.proofs.AddTable.{none_known}
use Rattle.digit_core.specs.declared.standard_tables.AddTable.TheVariants.{Unseen}
use Rattle.digit_core.proofs.Writing.{written_none}
use Rattle.digit_core.proofs.Core.put_digits.Goals as goal

pub put_few-requires : goal.put_few-requires
put_few-requires g c = record {
  some = omega arith;
  few = c.requires.few;
  near = omega arith;
  room = omega arith;
  sixty_bits = rw c.deref_mut.ensures.value c.self.invariant.sixty_bits;
}

pub invariant_of-self : goal.invariant_of-self
invariant_of-self g c =
    let ws = c.self.inside.words.items in
    repacked g.row.M c.self.inside.words.len ws c.put_few.new.words c.self.inside.sound c.self.inside.sound c.self.inside.add_table Unseen c.self.invariant (omega arith) (rw c.deref_mut.ensures.value at c.put_few.ensures.length) c.put_few.ensures.sixty_bits
    (λ sound.
    let is = c.self.invariant.is_sound sound in
    rw (c.put_few.ensures.cells, c.deref_mut.ensures.value) (written_sound (cells_of ws) is c.args.a c.args.n c.args.w (c.requires.sound (rw c.self.view_is at is))))
    (none_known (cells_of c.put_few.new.words))

pub returns : goal.returns
returns g c =
    let all = all_taken c.put_few.new.words c.self.inside.words.items c.self.inside.words.len (omega arith) in
    rw (← c.self.view_is) (ap cells_of all ∙ (rw c.deref_mut.ensures.value at c.put_few.ensures.cells))

pub returns-then-n-eq0 : goal.returns-then-n-eq0
returns-then-n-eq0 g c = written_none c.args.self.now c.args.a c.args.n c.args.w c.if-n-eq0.true
