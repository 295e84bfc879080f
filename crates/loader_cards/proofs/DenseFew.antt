-- How many cards a dense deck has at most.
use Rattle.std.proofs.Common.{ℕ, ◌≡◌, ◌+◌, ◌≤◌, List, [], ◌∷◌, ◌++◌, length, map, ap, ◌∙◌, arith, length-append}
use Rattle.std.proofs.lemmas.List.{length-map}
use Rattle.sps_pass_two.specs.Image.{DigitRun}
use Rattle.sps_pass_two.specs.Kept.{IsImage}
use Rattle.deck_punch.specs.declared.form.DeckForm.TheVariants.{SelfLoading, Dense}
use Rattle.deck_punch.specs.Cut.{cut, cut_dense, cut_piece, cut_as}
use Rattle.deck_punch.specs.Cards.{card_of, transfer_card}
use Rattle.deck_punch.specs.Tables.{table_piece, other_pieces}
use Rattle.deck_punch.specs.Dense.{dense_card_of, bridge_card, dense_deck}
use Rattle.deck_punch.proofs.Covering.{form_covers}
use Rattle.deck_punch.proofs.WithTables.{table_length, others_image}
use Rattle.loader_cards.proofs.CardCounts.{cover_few, cut_few, from_0}
use Rattle.loader_cards.proofs.DenseDeck.{deck_is}

-- how many cards there are
pub dense_length : (image : List DigitRun) (start : ℕ) → length (dense_deck image start) ≡ length (cut_dense (other_pieces image)) + length (cut (table_piece image ∷ [])) + 3
dense_length image start =
    let a = length-append (map dense_card_of (cut_dense (other_pieces image))) (bridge_card ∷ (map card_of (cut (table_piece image ∷ [])) ++ (transfer_card start ∷ []))) in
    let b : length (map dense_card_of (cut_dense (other_pieces image))) ≡ length (cut_dense (other_pieces image)) = length-map (cut_dense (other_pieces image)) dense_card_of in
    let c = length-append (map card_of (cut (table_piece image ∷ []))) (transfer_card start ∷ []) in
    let d : length (map card_of (cut (table_piece image ∷ []))) ≡ length (cut (table_piece image ∷ [])) = length-map (cut (table_piece image ∷ [])) card_of in
    ap length (deck_is image start) ∙ omega (arith, a, b, c, d)

-- the table piece has no more segments than digits
table_few : (image : List DigitRun) → length (cut (table_piece image ∷ [])) ≤ 300
unfolding cut_as
table_few image =
    let few = cover_few (form_covers SelfLoading (table_piece image)) in
    let l = length-append (cut_piece (table_piece image)) [] in
    let d = table_length image in
    omega (arith, few, l, d)

-- a dense deck has three cards or more, and no more than 100,000
pub dense_deck_few : (image : List DigitRun) (start : ℕ) → IsImage image → (3 ≤ length (dense_deck image start)) × (length (dense_deck image start) ≤ 100000)
dense_deck_few image start is =
    let others = others_image image is in
    let few = cut_few Dense (other_pieces image) 0 (omega arith) (from_0 (other_pieces image)) others.rising others.below in
    let table = table_few image in
    let n = dense_length image start in
    (omega (arith, n), omega (arith, n, few, table))
