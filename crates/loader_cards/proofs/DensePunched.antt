-- Cards of the dense deck's texts: they load the image, and are not too many.
use Rattle.std.proofs.Common.{ℕ, ◌≡◌, ◌≤◌, length, map, List, sym, ap, ◌∙◌, arith, subst, All, Vec, Global}
use Rattle.std.specs.declared.alloc.AllocError.{AllocError}
use Rattle.std.proofs.lemmas.List.{length-map}
use Rattle.std.specs.Prelude.{Result, Ok, Err, IfOk}
use Rattle.card_code.specs.declared.Card.{Card}
use Rattle.sps_pass_two.specs.Image.{DigitRun}
use Rattle.sps_pass_two.specs.Kept.{IsPiece, IsImage, lowest_declared}
use Rattle.deck_punch.specs.Dense.{dense_deck, dense_steps}
use Rattle.loader_cards.specs.Loads.{Loads}
use Rattle.card_columns.specs.Types.{card_bytes}
use Rattle.loader_cards.proofs.DenseDeck.{dense_loads}
use Rattle.loader_cards.proofs.DenseFew.{dense_deck_few}

-- as many cards as texts
cards_length : (cards : List Card) (image : List DigitRun) (start : ℕ) → map card_bytes cards ≡ dense_deck image start → length cards ≡ length (dense_deck image start)
cards_length cards image start is = sym (length-map cards card_bytes) ∙ ap length is

-- cards of the dense deck's texts load the image
pub dense_cards_load : (cards : List Card) (image : List DigitRun) (start : ℕ) → All IsPiece image → All (λ r. lowest_declared ≤ r.from) image → map card_bytes cards ≡ dense_deck image start →
    Loads (map card_bytes cards) image start (dense_steps (length cards))
dense_cards_load cards image start each lowest is =
    subst (λ (n : ℕ). Loads (map card_bytes cards) image start (dense_steps n)) (sym (cards_length cards image start is))
    (subst (λ (texts : List (List ℕ)). Loads texts image start (dense_steps (length (dense_deck image start)))) (sym is) (dense_loads image start each lowest))

-- they are three or more, and not too many
pub dense_cards_few : (cards : List Card) (image : List DigitRun) (start : ℕ) → IsImage image → map card_bytes cards ≡ dense_deck image start → (3 ≤ length cards) × (length cards ≤ 100000)
dense_cards_few cards image start is texts =
    let few = dense_deck_few image start is in
    let n = cards_length cards image start texts in
    (omega (arith, n, few.0), omega (arith, n, few.1))

pub dense_if_loads : (r : Result (Vec Card Global) AllocError) (image : List DigitRun) (start : ℕ) → All IsPiece image → All (λ r. lowest_declared ≤ r.from) image → IfOk r (λ cards. map card_bytes cards.items ≡ dense_deck image start) →
    IfOk r (λ cards. Loads (map card_bytes cards.items) image start (dense_steps (length cards.items)))
dense_if_loads (Ok cards) image start each lowest is = dense_cards_load cards.items image start each lowest is
dense_if_loads (Err e) image start each lowest is = tt

pub dense_if_some : (r : Result (Vec Card Global) AllocError) (image : List DigitRun) (start : ℕ) → IsImage image → IfOk r (λ cards. map card_bytes cards.items ≡ dense_deck image start) → IfOk r (λ cards. 3 ≤ length cards.items)
dense_if_some (Ok cards) image start is texts = (dense_cards_few cards.items image start is texts).0
dense_if_some (Err e) image start is texts = tt

pub dense_if_most : (r : Result (Vec Card Global) AllocError) (image : List DigitRun) (start : ℕ) → IsImage image → IfOk r (λ cards. map card_bytes cards.items ≡ dense_deck image start) → IfOk r (λ cards. length cards.items ≤ 100000)
dense_if_most (Ok cards) image start is texts = (dense_cards_few cards.items image start is texts).1
dense_if_most (Err e) image start is texts = tt
