use Rattle.std.proofs.Common.{map}
use Rattle.card_columns.specs.Types.{card_bytes}
use Rattle.disk_loader.proofs.BootCards.{Going}
use Rattle.disk_loader.proofs.deck.bootstrap.Given as goal

abbrev pub invariant-loop-h : goal.invariant-loop-h
invariant-loop-h l = Going l.assembled.image.pieces l.h (map card_bytes l.cards.items) l.open
