-- A text that is filled with blanks to a card.
use Rattle.std.proofs.Common.{◌≡◌, ℕ, List, ◌++◌, length, take, drop, replicate, ap}
use Rattle.std.proofs.Math.Seq.{take-append_seam}
use Rattle.std.proofs.lemmas.List.{drop-replicate}
use Rattle.card_code.specs.Entries.{text_as_card}

-- a text that was copied over the blanks of a card
pub copied_over : (text all : List ℕ) → all ≡ text ++ drop (length text) (replicate 80 32) → all ≡ text_as_card (take (length text) all)
copied_over text all is = rw (is, take-append_seam text (drop (length text) (replicate 80 32))) (ap (λ (xs : List ℕ). text ++ xs) (drop-replicate (length text) 80 32))
