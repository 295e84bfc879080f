-- That a hopper has read what it had read, over a call that leaves it and its units as they were.
use Rattle.std.proofs.Common.{◌≡◌, List, sym, ◌∙◌, ap, subst, refl}
use Rattle.std.specs.Prelude.{Option}
use Rattle.outside_io.specs.declared.host.Unit.TheVariants as units
use Rattle.outside_io.specs.World.{World, Seen}
use Rattle.card_code.specs.Entries.{Entry}
use Rattle.card_code.specs.Reader.{entries_left}
use Rattle.card_unit.specs.declared.hopper.Hopper.{Hopper}
use Rattle.card_unit.specs.Pile.{pile_left}
use Rattle.card_unit.specs.Hopper.{hopper_left, front_left, entries_in_order, Start, HasReadCards, GoesOnReadingCards}
use Rattle.card_unit.proofs.Hoppers.{pile_same, lines_same}
use Rattle.card_unit.proofs.Ahead.{ahead_same}
use Rattle.card_unit.proofs.ReadOn.{none_came}

-- it has left what it had, where its units do
left_same : (h : Hopper) (v w : World) → w.left units.Deck ≡ v.left units.Deck → w.left units.Data ≡ v.left units.Data → hopper_left h w ≡ hopper_left h v
left_same h v w left left_later =
    ap (λ (told : Option (List Entry)). entries_in_order (front_left h.front) told (entries_left h.data w)) (pile_same h.pile v w h.pile_is left)
    ∙ ap (λ (told : Option (List Entry)). entries_in_order (front_left h.front) (pile_left h.pile v) told) (lines_same h.data units.Data v w h.data_is left_later)

-- it has, where its units have left what they had and are asked as they were
pub read_same : (h : Hopper) (v w : World) → w.left units.Deck ≡ v.left units.Deck → w.left units.Data ≡ v.left units.Data → w.asked units.Deck ≡ v.asked units.Deck → w.asked units.Data ≡ v.asked units.Data → (start : Start) → HasReadCards start h v → HasReadCards start h w
read_same h v w left left_later deck later start read = record {
  readings = read.readings;
  by = none_came start read.readings h h v w read.by (ahead_same h v w left deck later read.by.ahead) refl refl (left_same h v w left left_later) refl refl (pile_same h.pile v w h.pile_is left);
}

-- so it does over such a call
pub reads_kept : (old new : Hopper) (before after : Seen) → new ≡ old → after.world.left units.Deck ≡ before.world.left units.Deck → after.world.left units.Data ≡ before.world.left units.Data → after.world.asked units.Deck ≡ before.world.asked units.Deck → after.world.asked units.Data ≡ before.world.asked units.Data → GoesOnReadingCards old new before after
reads_kept old new before after same left left_later deck later = λ start read. subst (λ (h : Hopper). HasReadCards start h after.world) (sym same) (read_same old before.world after.world left left_later deck later start read)
