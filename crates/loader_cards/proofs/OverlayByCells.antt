-- A core with the transfer card, the table piece and the other pieces in their places is the image over both tables.
use Rattle.std.proofs.Common.{ℕ, ◌≡◌, ◌+◌, ◌<◌, ◌≤◌, ◌⊎◌, ◌&&◌, inl, inr, nat_lt, nat_le, true, false, List, length, get_or, Option, Some, None, refl, sym, ◌∙◌, arith, All}
use Rattle.std.proofs.lemmas.List.{ext_get_or}
use Rattle.std.proofs.lemmas.List.FromFn.{get_or-map-range_with_len, length-map-range_with_len}
use Rattle.std.proofs.lemmas.Bool.{cases_lt}
use Rattle.std.proofs.lemmas.Bool.Decides.{nat_tests}
use Rattle.std.specs.Prelude.{unwrap_or}
use Rattle.digit_core.specs.declared.Digit.{Digit}
use Rattle.digit_core.specs.Cell.{cell}
use Rattle.digit_core.specs.Standard.{standard_digit}
use Rattle.sps_pass_two.specs.Image.{DigitRun, digit_at, declared_digit}
use Rattle.sps_pass_two.specs.Kept.{lowest_declared}
use Rattle.deck_punch.specs.Cards.{transfer_digits}
use Rattle.deck_punch.specs.Tables.{table_digit, table_piece, other_pieces}
use Rattle.deck_punch.specs.Overlay.{cell_or, overlay_cell, overlay}
use Rattle.deck_punch.proofs.WithTables.{table_below, table_above, others_low, others_declare}
use Rattle.card_steps.proofs.HeldDigits.{Holds}
use Rattle.loader_cards.proofs.Segments.{nothing_low}

-- the image's digit where there is one, and else the standard one
table_cell : (o : Option Digit) (d : Digit) → cell (unwrap_or o d) ≡ cell_or o (cell d)
table_cell None d = refl
table_cell (Some e) d = refl

-- beside the tables the table piece has nothing
pub table_beside : (image : List DigitRun) (a : ℕ) → (a < 100) ⊎ (400 ≤ a) → digit_at (table_piece image) a ≡ None
table_beside image a (inl l) = table_below image a l
table_beside image a (inr u) = table_above image a u

-- whatever cards loaded them: the transfer card in 00000 to 00079, the table piece in 00100 to 00399, and elsewhere the other pieces over
-- the old core
module _ (image : List DigitRun) (start : ℕ) (old new : List ℕ) (lowest : All (λ r. lowest_declared ≤ r.from) image)
    (long : length new ≡ length old) (transfer : Holds new 0 (transfer_digits start))
    (tables : (a : ℕ) → 100 ≤ a → a < 400 → get_or new a 0 ≡ cell (table_digit image a))
    (others : (a : ℕ) → 80 ≤ a → (a < 100) ⊎ (400 ≤ a) → get_or new a 0 ≡ cell_or (declared_digit (other_pieces image) a) (get_or old a 0)) where
  abbrev laid_over : ℕ → ℕ
  laid_over a = overlay_cell image start a (get_or old a 0)

  at_low : (a : ℕ) → a < 80 → get_or new a 0 ≡ laid_over a
  unfolding transfer_digits
  at_low a l =
      let t1 : (nat_le 100 a && nat_lt a 400) ≡ false = grind (arith, nat_tests) in
      let t2 : nat_lt a 80 ≡ true = grind (arith, nat_tests) in
      let z : 0 + a ≡ a = omega arith in
      rw (nothing_low image lowest a (omega arith), t1, t2) (rw z at (transfer.cells a l))

  at_other : (a : ℕ) → 80 ≤ a → (a < 100) ⊎ (400 ≤ a) → declared_digit (other_pieces image) a ≡ declared_digit image a
      → get_or new a 0 ≡ laid_over a
  at_other a h far same =
      let t1 : (nat_le 100 a && nat_lt a 400) ≡ false = elim far [ inl l ↦ grind (arith, nat_tests) | inr u ↦ grind (arith, nat_tests) ] in
      let t2 : nat_lt a 80 ≡ false = grind (arith, nat_tests) in
      rw (t1, t2) (rw same at (others a h far))

  at_table : (a : ℕ) → 100 ≤ a → a < 400 → get_or new a 0 ≡ laid_over a
  at_table a low high =
      let t1 : (nat_le 100 a && nat_lt a 400) ≡ true = grind (arith, nat_tests) in
      rw t1 (tables a low high ∙ table_cell (declared_digit image a) (standard_digit a))

  at_each : (a : ℕ) → get_or new a 0 ≡ laid_over a
  at_each a =
      elim (cases_lt a 80) [
        | inl l ↦ at_low a l
        | inr h ↦ elim (cases_lt a 100) [
          | inl l ↦ at_other a h (inl l) (others_low image a (omega arith) ∙ sym (nothing_low image lowest a l))
          | inr t ↦ elim (cases_lt a 400) [
            | inl l ↦ at_table a t l
            | inr u ↦ at_other a h (inr u) (others_declare image a u)
          ]
        ]
      ]

  pub overlaid_by : new ≡ overlay old image start
  unfolding overlay
  overlaid_by =
      let k = length-map-range_with_len laid_over 0 (length old) in
      ext_get_or 0 new _ (long ∙ sym k) (λ i l. at_each i ∙ sym (get_or-map-range_with_len laid_over 0 (length old) i i 0 (omega arith) (omega arith)))
