use Rattle.std.proofs.Common.{refl}
use Rattle.card_code.specs.Characters as characters
use Rattle.deck_punch.specs.Dense.{bridge_digits}
use Rattle.deck_punch.proofs.dense.bridge_card.Goals as goal

pub returns : goal.returns
unfolding bridge_digits characters.char_in
returns c = refl
