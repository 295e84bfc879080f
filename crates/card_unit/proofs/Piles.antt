-- Cards that are left in a pile, and a card at the front.
use Rattle.std.proofs.Common.{◌≡◌, ℕ, zero, suc, ◌<◌, ◌-◌, false, List, [], ◌∷◌, ◌++◌, length, map, drop, replicate, refl, sym, ◌∙◌, ap, arith}
use Rattle.std.proofs.lemmas.List.{append-nil}
use Rattle.card_code.specs.declared.Card.{Card}
use Rattle.card_code.specs.Entries.{has_none_left, text_as_card}
use Rattle.card_unit.specs.Pile.{card_entry}

-- behind fewer cards than there are, some are left
pub some_left : (cards : List Card) (gone : ℕ) → gone < length cards → has_none_left (map card_entry (drop gone cards)) ≡ false
some_left [] gone more = absurd (omega (arith, more))
some_left (card ∷ cards) zero more = refl
some_left (card ∷ cards) (suc gone) more = some_left cards gone (omega (arith, more))

-- a text of 80 columns is a card as it is
pub filled_whole : (text : List ℕ) → length text ≡ 80 → text ≡ text_as_card text
filled_whole text whole =
    let none : 80 - length text ≡ 0 = omega arith in
    sym (append-nil text) ∙ ap (λ (k : ℕ). text ++ replicate k 32) (sym none)
