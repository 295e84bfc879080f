use Rattle.std.proofs.Common.{refl}
use Rattle.disk_loader.specs.Bootstrap.{stretch_digits}
use Rattle.disk_loader.proofs.deck.stretch_card.Goals as goal

pub returns : goal.returns
unfolding stretch_digits
returns c =
    rw (
      c.card.ensures,
      c.zeros.ensures,
      c.address-2.ensures,
      c.decimal-4.ensures,
      c.decimal-3.ensures,
      c.decimal-2.ensures,
      c.address.ensures,
      c.decimal.ensures,
      c.order-4.ensures,
      c.order-3.ensures,
      c.order-2.ensures,
      c.order.ensures,
      c.new-columns.ensures,
    ) refl
