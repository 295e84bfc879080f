-- The texts of the cards of a deck: none is longer than a card, and no character ends a line.
use Rattle.std.proofs.Common.{ℕ, suc, ◌≡◌, ◌+◌, ◌≤◌, Bool, true, false, List, [], ◌∷◌, ◌++◌, length, map, refl, sym, ap, arith, subst}
use Rattle.std.proofs.lemmas.List.{map-append}
use Rattle.digit_core.specs.declared.Digit.{Digit}
use Rattle.digit_core.specs.Cell.{with_flag}
use Rattle.sps_pass_two.specs.Image.{DigitRun}
use Rattle.deck_punch.specs.Cards.{right_part, segment_digits, card_of, transfer_card}
use Rattle.deck_punch.specs.Cut.{cut_as, cut_piece_as}
use Rattle.deck_punch.specs.Cover.{Covers, no_digits, segment}
use Rattle.deck_punch.specs.Deck.{cards_of, deck}
use Rattle.deck_punch.specs.Tables.{table_piece, other_pieces, with_tables}
use Rattle.deck_punch.specs.Dense.{first_flagged, repair_of, dense_part, dense_digits, dense_card_of, loader_digits, loader_card, bridge_digits, bridge_card, dense_cards_of, dense_deck}
use Rattle.deck_punch.proofs.Covering.{IsFront, form_covers}
use Rattle.deck_punch.specs.declared.form.DeckForm.{DeckForm}
use Rattle.deck_punch.specs.declared.form.DeckForm.TheVariants.{SelfLoading, Dense}
use Rattle.loader_cards.specs.ObjectDeck.{deck_in}
use Rattle.loader_cards.proofs.Card.{right_length}
use Rattle.loader_cards.proofs.DenseCard.{part_length}
use Rattle.loader_cards.proofs.DenseDeck.{deck_is}
use Rattle.card_columns.proofs.CardTexts.{IsCardText, AreCardTexts, texts_on, digits_text}
use Rattle.deck_punch.proofs.TransferCard.{transfer_text}

-- the cards of pieces, where each segment's is a card
module _ (form : DeckForm) (card : DigitRun → List ℕ) (each : (a : ℕ) (ds rest : List Digit) → IsFront form ds rest → IsCardText (card (record { from = a; digits = ds }))) where
  covers_texts : {a : ℕ} {ds : List Digit} {gs : List DigitRun} → Covers (IsFront form) a ds gs → AreCardTexts (map card gs)
  covers_texts no_digits = tt
  covers_texts {a = a} (segment ds rest front more) = (each a ds rest front, covers_texts more)

  form_texts : (pieces : List DigitRun) → AreCardTexts (map card (cut_as form pieces))
  unfolding cut_as
  form_texts [] = tt
  form_texts (p ∷ ps) =
      subst AreCardTexts (sym (map-append card (cut_piece_as form p) (cut_as form ps)))
      (texts_on (map card (cut_piece_as form p)) (map card (cut_as form ps)) (covers_texts (form_covers form p)) (form_texts ps))

-- The lengths of its cards.
segment_whole : (low : ℕ) (ds : List Digit) → 1 ≤ length ds → length ds ≤ 32 → length (segment_digits low ds) ≡ 80
unfolding segment_digits
segment_whole low [] some most = absurd (omega arith)
segment_whole low (d ∷ []) some most = refl
segment_whole low (d ∷ e ∷ ds) some most = many d.flag (right_length (with_flag true d ∷ e ∷ ds) most)
  where
    many : (b : Bool) → length (right_part (with_flag true d ∷ e ∷ ds)) ≡ 32 → length (segment_digits low (record { flag = b; value = d.value } ∷ e ∷ ds)) ≡ 80
    many true whole = omega (arith, whole)
    many false whole = omega (arith, whole)

cut_texts : (pieces : List DigitRun) → AreCardTexts (cards_of pieces)
cut_texts pieces = form_texts SelfLoading card_of (λ a ds rest front. digits_text (segment_digits a ds) (segment_whole a ds front.some front.most)) pieces

self_texts : (image : List DigitRun) (start : ℕ) → AreCardTexts (deck image start)
self_texts image start = texts_on (cards_of (with_tables image)) (transfer_card start ∷ []) (cut_texts (with_tables image)) (transfer_text start, tt)

flagged_length : (a : ℕ) (ds : List Digit) → length (first_flagged a ds).punched ≡ length ds
unfolding first_flagged
flagged_length a [] = refl
flagged_length a (d ∷ ds) = cases d.flag refl (flagged_length (a + 1) ds)
  where
    cases : (b : Bool) → d.flag ≡ b → length (first_flagged (a + 1) ds).punched ≡ length ds → length (first_flagged a (d ∷ ds)).punched ≡ suc (length ds)
    cases true is rest = rw is refl
    cases false is rest = rw is (ap suc rest)

repair_length : (low : ℕ) (d : Digit) (ds : List Digit) → length (repair_of low d ds).punched ≡ length ds
repair_length low d ds = cases d.flag refl
  where
    cases : (b : Bool) → d.flag ≡ b → length (repair_of low d ds).punched ≡ length ds
    cases true is = rw is (flagged_length (low + 1) ds)
    cases false is = rw is refl

dense_whole : (low : ℕ) (ds : List Digit) → 1 ≤ length ds → length ds ≤ 69 → length (dense_digits low ds) ≡ 80
unfolding dense_digits
dense_whole low [] some most = absurd (omega arith)
dense_whole low (d ∷ []) some most = refl
dense_whole low (d ∷ e ∷ ds) some most =
    let punched : List Digit = with_flag true d ∷ (repair_of low d (e ∷ ds)).punched in
    let n = repair_length low d (e ∷ ds) in
    let whole : length (dense_part punched) ≡ 69 = part_length punched (omega arith) in
    omega (arith, whole)

dense_cut_texts : (pieces : List DigitRun) → AreCardTexts (dense_cards_of pieces)
dense_cut_texts pieces = form_texts Dense dense_card_of (λ a ds rest front. digits_text (dense_digits a ds) (dense_whole a ds front.some front.most)) pieces

loader_text : IsCardText loader_card
unfolding loader_digits
loader_text = digits_text loader_digits refl

bridge_text : IsCardText bridge_card
unfolding bridge_digits
bridge_text = digits_text bridge_digits refl

dense_texts : (image : List DigitRun) (start : ℕ) → AreCardTexts (dense_deck image start)
dense_texts image start =
    subst AreCardTexts (sym (deck_is image start)) (
      loader_text,
      texts_on (dense_cards_of (other_pieces image)) (bridge_card ∷ (cards_of (table_piece image ∷ []) ++ (transfer_card start ∷ []))) (dense_cut_texts (other_pieces image))
          (bridge_text, texts_on (cards_of (table_piece image ∷ [])) (transfer_card start ∷ []) (cut_texts (table_piece image ∷ [])) (transfer_text start, tt)),
    )

-- whatever the image and the start
pub deck_texts : (form : DeckForm) (image : List DigitRun) (start : ℕ) → AreCardTexts (deck_in form image start)
deck_texts SelfLoading image start = self_texts image start
deck_texts Dense image start = dense_texts image start
