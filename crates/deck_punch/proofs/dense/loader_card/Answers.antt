use Rattle.std.proofs.Common.{refl}
use Rattle.card_code.specs.Characters as characters
use Rattle.deck_punch.specs.Dense.{loader_digits}
use Rattle.deck_punch.proofs.dense.loader_card.Goals as goal

pub returns : goal.returns
unfolding loader_digits characters.char_in
returns c = refl
