-- Bad characters that are taken up one after another.
use Rattle.std.proofs.Common.{ℕ, ◌≡◌, ◌+◌, ◌<◌, Bool, true, false, List, ◌∷◌, length, get_or, drop, ap}
use Rattle.std.proofs.lemmas.List.{drop_more}
use Rattle.std.specs.Prelude.{if◌then◌else◌}
use Rattle.outside_io.specs.declared.host.Unit as unit
use Rattle.card_code.specs.declared.tally.ReadAs.{ReadAs}
use Rattle.card_code.specs.declared.tally.BadCharacter.{BadCharacter}
use Rattle.card_code.specs.declared.tally.Tally.{Tally}
use Rattle.card_code.specs.Readings.{is_bad, bad_from, with_one, with_bad}

module _ (u : unit.Unit) (line : ℕ) (how : ReadAs) where
  -- a character, as it stands in its column
  abbrev pub standing : ℕ → ℕ → BadCharacter
  standing column c = record { unit = u; line = line; column = column; byte = c }

  -- a bad one is taken up, and then those behind it
  pub bad_first : (column c : ℕ) (cs : List ℕ) (t : Tally) → is_bad how c ≡ true → with_bad (bad_from u line how column (c ∷ cs)) t ≡ with_bad (bad_from u line how (column + 1) cs) (with_one (standing column c) t)
  unfolding bad_from with_bad
  bad_first column c cs t bad = ap (λ (b : Bool). with_bad (if b then standing column c ∷ bad_from u line how (column + 1) cs else bad_from u line how (column + 1) cs) t) bad

  -- another is passed
  pub good_first : (column c : ℕ) (cs : List ℕ) (t : Tally) → is_bad how c ≡ false → with_bad (bad_from u line how column (c ∷ cs)) t ≡ with_bad (bad_from u line how (column + 1) cs) t
  unfolding bad_from
  good_first column c cs t good = ap (λ (b : Bool). with_bad (if b then standing column c ∷ bad_from u line how (column + 1) cs else bad_from u line how (column + 1) cs) t) good

  -- so it is with the one at a place of a text
  pub from_place : (column : ℕ) (text : List ℕ) (i : ℕ) (t : Tally) → i < length text → with_bad (bad_from u line how column (drop i text)) t ≡ with_bad (bad_from u line how column (get_or text i 0 ∷ drop (i + 1) text)) t
  from_place column text i t within = ap (λ (cs : List ℕ). with_bad (bad_from u line how column cs) t) (drop_more text i 0 within)
