-- What was found is known.
use Rattle.digit_core.specs.Packed.{cells_of}
use Rattle.digit_core.proofs.AddTable.{known_standard, known_other}
use Rattle.digit_core.proofs.Core.find_add_table.Goals.{then-is_standard, else-is_standard}
use Rattle.digit_core.proofs.Core.find_add_table.Goals as goal

pub invariant_of-self : goal.invariant_of-self
invariant_of-self g c = record {
  is_size = c.self.invariant.is_size;
  is_length = c.self.invariant.is_length;
  sixty_bits = c.self.invariant.sixty_bits;
  is_sound = c.self.invariant.is_sound;
  is_known =
      let ws = c.self.inside.words.items in
      elim c.if-is_standard.branch [
        | then-is_standard w ↦ rw w.self-is (known_standard (cells_of ws) (rw c.self.view_is (c.has_add_table-is_standard.ensures.yes w.if-is_standard.true)))
        | else-is_standard w ↦ rw w.self-is (known_other (cells_of ws) (rw c.self.view_is (c.has_add_table-is_standard.ensures.no w.if-is_standard.false)))
      ];
}
