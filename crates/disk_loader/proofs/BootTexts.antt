-- The texts of the cards of a bootstrap deck: none is longer than a card, and no character ends a line.
use Rattle.std.proofs.Common.{ℕ, List, [], ◌∷◌, map, refl}
use Rattle.sps_pass_two.specs.Image.{DigitRun}
use Rattle.deck_punch.specs.Cards.{transfer_card}
use Rattle.card_columns.proofs.CardTexts.{IsCardText, AreCardTexts, texts_on, digits_text}
use Rattle.deck_punch.proofs.TransferCard.{transfer_text}
use Rattle.disk_loader.specs.declared.deck.Stretch.{Stretch}
use Rattle.disk_loader.specs.Stretches.{stretches}
use Rattle.disk_loader.specs.Bootstrap.{stretch_digits, stretch_card, bootstrap}

stretch_text : (s : Stretch) → IsCardText (stretch_card s)
unfolding stretch_digits
stretch_text s = digits_text (stretch_digits s) refl

stretch_texts : (ss : List Stretch) → AreCardTexts (map stretch_card ss)
stretch_texts [] = tt
stretch_texts (s ∷ ss) = (stretch_text s, stretch_texts ss)

-- whatever the image and the start
pub boot_texts : (image : List DigitRun) (start : ℕ) → AreCardTexts (bootstrap image start)
boot_texts image start = texts_on (map stretch_card (stretches image)) (transfer_card start ∷ []) (stretch_texts (stretches image)) (transfer_text start, tt)
