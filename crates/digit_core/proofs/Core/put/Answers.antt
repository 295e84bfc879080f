-- A good digit leaves core as sound as it was.
use Rattle.std.proofs.Common.{◌∙◌, ap, arith}
use Rattle.digit_core.specs.Packed.{cells_of}
use Rattle.digit_core.specs.Search.{is_bad_cell}
use Rattle.digit_core.proofs.Moving.{all_taken}
use Rattle.digit_core.proofs.SoundCore.{good_cell, repacked, stored_sound}
use Rattle.digit_core.proofs.AddTable.{stored_known}
use Rattle.digit_core.proofs.Core.put.Goals as goal

pub invariant_of-self : goal.invariant_of-self
invariant_of-self g c =
    let ws = c.self.inside.words.items in
    repacked g.row.M c.self.inside.words.len ws c.put_six.new.words c.self.inside.sound c.self.inside.sound c.self.inside.add_table c.note_store.new.self c.self.invariant (omega arith) (rw c.deref_mut.ensures.value at c.put_six.ensures.length) c.put_six.ensures.sixty_bits
    (λ sound. rw (c.put_six.ensures.cells, c.deref_mut.ensures.value) (stored_sound (cells_of ws) (c.self.invariant.is_sound sound) c.args.a c.cell.result (ap is_bad_cell c.cell.ensures.is ∙ good_cell c.args.d c.requires.good)))
    (rw (c.note_store.ensures, c.put_six.ensures.cells, c.deref_mut.ensures.value) (stored_known c.self.inside.add_table (cells_of ws) c.self.invariant.is_known c.args.a c.cell.result))

pub returns : goal.returns
returns g c =
    let all = all_taken c.put_six.new.words c.self.inside.words.items c.self.inside.words.len (omega arith) in
    rw (← c.self.view_is, ← c.cell.ensures.is) (ap cells_of all ∙ (rw c.deref_mut.ensures.value at c.put_six.ensures.cells))
