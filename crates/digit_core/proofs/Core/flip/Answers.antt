-- Core is not sound any more.
use Rattle.std.proofs.Common.{true≢false, false, sym, arith}
use Rattle.digit_core.specs.Packed.{cells_of}
use Rattle.digit_core.proofs.AddTable.{none_known}
use Rattle.digit_core.proofs.SoundCore.{repacked}
use Rattle.digit_core.specs.declared.standard_tables.AddTable.TheVariants.{Unseen}
use Rattle.digit_core.proofs.Core.flip.Goals as goal

pub invariant_of-self : goal.invariant_of-self
invariant_of-self g c =
    let ws = c.self.inside.words.items in
    repacked g.row.M c.self.inside.words.len ws c.put_six.new.words c.self.inside.sound false c.self.inside.add_table Unseen c.self.invariant (omega arith) (rw c.deref_mut.ensures.value at c.put_six.ensures.length) c.put_six.ensures.sixty_bits
    (λ sound. absurd (true≢false (sym sound)))
    (none_known (cells_of c.put_six.new.words))
