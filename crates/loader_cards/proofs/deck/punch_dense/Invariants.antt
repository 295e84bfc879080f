use Rattle.std.proofs.Common.{◌≡◌, ◌++◌, map, take}
use Rattle.deck_punch.specs.Dense.{dense_card_of}
use Rattle.deck_punch.specs.Types.{segment_run}
use Rattle.card_columns.specs.Types.{card_bytes}
use Rattle.loader_cards.proofs.deck.punch_dense.Given as goal

abbrev pub invariant-loop-segment : goal.invariant-loop-segment
invariant-loop-segment l = map card_bytes l.cards.items ≡ map card_bytes l.initial.cards.items ++ map dense_card_of (map segment_run (take l.segment-index l.segment-items))
