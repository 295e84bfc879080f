-- The text of a deck is read as its cards.
use Rattle.std.proofs.Common.{ℕ, zero, suc, ◌≡◌, ◌-◌, ◌≤◌, false, true, List, [], ◌∷◌, ◌++◌, length, map, get_or, refl, ap, ◌∙◌, arith, append_assoc}
use Rattle.std.proofs.lemmas.Bool.Decides.{nat_tests}
use Rattle.std.specs.Prelude.{◌==◌, not, nat_lt}
use Rattle.outside_io.specs.declared.host.Unit as unit
use Rattle.outside_io.specs.World.{one_more}
use Rattle.outside_io.specs.Lines.{without_return, lines_of, texts_of}
use Rattle.card_code.specs.Entries.{Text, entry, entries, entries_of_unit}
use Rattle.sps_pass_two.specs.Image.{DigitRun}
use Rattle.deck_punch.specs.declared.form.DeckForm.{DeckForm}
use Rattle.loader_cards.specs.ObjectDeck.{deck_in}
use Rattle.disk_loader.specs.Bootstrap.{bootstrap}
use Rattle.card_columns.proofs.CardTexts.{is_plain, are_plain, and_first, and_second, not_true, AreCardTexts}
use Rattle.loader_cards.proofs.CardTexts.{deck_texts}
use Rattle.disk_loader.proofs.BootTexts.{boot_texts}
use Rattle.deck_punch.specs.DeckText.{deck_text}

-- a plain text and LF are a line
lines_front : (text rest : List ℕ) → are_plain text ≡ true → lines_of (text ++ 10 ∷ rest) ≡ text ∷ lines_of rest
lines_front [] rest is = refl
lines_front (c ∷ cs) rest is =
    let test : (c == 10) ≡ false = not_true (c == 10) (and_first (not (c == 10)) (not (c == 13)) (and_first (is_plain c) (are_plain cs) is)) in
    rw (test, lines_front cs rest (and_second (is_plain c) (are_plain cs) is)) refl

no_return : (text : List ℕ) (i : ℕ) → are_plain text ≡ true → (get_or text i 0 == 13) ≡ false
no_return [] i is = refl
no_return (c ∷ cs) zero is = not_true (c == 13) (and_second (not (c == 10)) (not (c == 13)) (and_first (is_plain c) (are_plain cs) is))
no_return (c ∷ cs) (suc i) is = no_return cs i (and_second (is_plain c) (are_plain cs) is)

whole_text : (text : List ℕ) → are_plain text ≡ true → without_return text ≡ text
whole_text text is = rw (no_return text (length text - 1) is) refl

-- the lines of a deck
deck_lines : (cards : List (List ℕ)) → AreCardTexts cards → texts_of (deck_text cards) ≡ cards
deck_lines [] are = refl
deck_lines (t ∷ ts) are =
    ap texts_of (append_assoc t (10 ∷ []) (deck_text ts))
    ∙ ap (map without_return) (lines_front t (deck_text ts) are.0.chars)
    ∙ ap (λ (x : List ℕ). x ∷ texts_of (deck_text ts)) (whole_text t are.0.chars)
    ∙ ap (λ (xs : List (List ℕ)). t ∷ xs) (deck_lines ts are.1)

entry_is : (u : unit.Unit) (n : ℕ) (text : List ℕ) → length text ≤ 80 → entry u n text ≡ Text text
entry_is u n text fits =
    let test : nat_lt 80 (length text) ≡ false = grind (arith, nat_tests) in
    rw test refl

entries_are : (u : unit.Unit) (n : ℕ) (cards : List (List ℕ)) → AreCardTexts cards → entries u n cards ≡ map Text cards
entries_are u n [] are = refl
entries_are u n (t ∷ ts) are = λ i. entry_is u (one_more n) t are.0.fits i ∷ entries_are u (one_more n) ts are.1 i

-- what is read of a deck's text
read_cards : (u : unit.Unit) (n : ℕ) (cards : List (List ℕ)) → AreCardTexts cards → entries_of_unit u n (deck_text cards) ≡ map Text cards
read_cards u n cards are = ap (entries u n) (deck_lines cards are) ∙ entries_are u n cards are

-- the bytes of a deck are its cards, whatever its image and its start
pub deck_read : (form : DeckForm) (u : unit.Unit) (n : ℕ) (image : List DigitRun) (start : ℕ) → entries_of_unit u n (deck_text (deck_in form image start)) ≡ map Text (deck_in form image start)
deck_read form u n image start = read_cards u n (deck_in form image start) (deck_texts form image start)

-- and so are those of a bootstrap deck
pub boot_read : (u : unit.Unit) (n : ℕ) (image : List DigitRun) (start : ℕ) → entries_of_unit u n (deck_text (bootstrap image start)) ≡ map Text (bootstrap image start)
boot_read u n image start = read_cards u n (bootstrap image start) (boot_texts image start)
