-- The code's walk over the segments, and its deck.
use Rattle.std.proofs.Common.{ℕ, ◌≡◌, ◌≤◌, List, length, map, sym, ap, ◌∙◌, arith, subst, All, Vec, Global}
use Rattle.std.specs.declared.alloc.AllocError.{AllocError}
use Rattle.std.proofs.lemmas.List.{length-map}
use Rattle.std.specs.Prelude.{Result, Ok, Err, IfOk}
use Rattle.card_code.specs.declared.Card.{Card}
use Rattle.sps_pass_two.specs.Image.{DigitRun}
use Rattle.sps_pass_two.specs.Kept.{IsPiece, IsImage, lowest_declared}
use Rattle.deck_punch.specs.Deck.{deck, self_loading_steps}
use Rattle.loader_cards.specs.Loads.{Loads}
use Rattle.card_columns.specs.Types.{card_bytes}
use Rattle.loader_cards.proofs.CardCounts.{deck_few}
use Rattle.loader_cards.proofs.DeckOverlay.{loads}

-- cards of the deck's texts load the image
deck_loads : (cards : List Card) (image : List DigitRun) (start : ℕ) → All IsPiece image → All (λ r. lowest_declared ≤ r.from) image → map card_bytes cards ≡ deck image start → Loads (map card_bytes cards) image start (self_loading_steps (length cards))
deck_loads cards image start each lowest is =
    let l : length (map card_bytes cards) ≡ length cards = length-map cards card_bytes in
    let n : length cards ≡ length (deck image start) = sym l ∙ ap length is in
    subst (λ (n : ℕ). Loads (map card_bytes cards) image start (self_loading_steps n)) (sym n) (subst (λ (texts : List (List ℕ)). Loads texts image start (self_loading_steps (length (deck image start)))) (sym is) (loads image start each lowest))

pub if_loads : (r : Result (Vec Card Global) AllocError) (image : List DigitRun) (start : ℕ) → All IsPiece image → All (λ r. lowest_declared ≤ r.from) image → IfOk r (λ cards. map card_bytes cards.items ≡ deck image start) →
    IfOk r (λ cards. Loads (map card_bytes cards.items) image start (self_loading_steps (length cards.items)))
if_loads (Ok cards) image start each lowest is = deck_loads cards.items image start each lowest is
if_loads (Err e) image start each lowest is = tt

-- cards of the deck's texts are one or more, and not too many
cards_few : (cards : List Card) (image : List DigitRun) (start : ℕ) → IsImage image → map card_bytes cards ≡ deck image start → (1 ≤ length cards) × (length cards ≤ 100000)
cards_few cards image start is texts =
    let few = deck_few image start is in
    let l : length (map card_bytes cards) ≡ length cards = length-map cards card_bytes in
    let n : length (map card_bytes cards) ≡ length (deck image start) = ap length texts in
    (omega (arith, l, n, few.0), omega (arith, l, n, few.1))

pub if_some : (r : Result (Vec Card Global) AllocError) (image : List DigitRun) (start : ℕ) → IsImage image → IfOk r (λ cards. map card_bytes cards.items ≡ deck image start) → IfOk r (λ cards. 1 ≤ length cards.items)
if_some (Ok cards) image start is texts = (cards_few cards.items image start is texts).0
if_some (Err e) image start is texts = tt

pub if_most : (r : Result (Vec Card Global) AllocError) (image : List DigitRun) (start : ℕ) → IsImage image → IfOk r (λ cards. map card_bytes cards.items ≡ deck image start) → IfOk r (λ cards. length cards.items ≤ 100000)
if_most (Ok cards) image start is texts = (cards_few cards.items image start is texts).1
if_most (Err e) image start is texts = tt
